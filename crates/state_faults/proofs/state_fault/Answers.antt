-- The three tests one after the other. Assumes nothing.
use mathlib.Core.Path.{◌≡◌, sym}
use Prim.Native.Nat.{◌^◌, ◌≤◌, ◌<◌}
use mathlib.Core.Bool.{true, false}
use mathlib.Core.List.{[]}
use native.Mathlib.Omega.{arith}
use borrow.Author.Tests.{le-leb, lt-leb, lt-ltb, le-ltb}
use lib.ListN.{drop}
use Rattle.std.proofs.lemmas.Bool.Decides.{nat_tests}
use Rattle.standard.specs.First.{Answer, first}
use Rattle.standard.specs.Refusals.{history_too_large, doubtful_too_large, place_too_large, state_tests}
use Rattle.standard.specs.declared.LineState.{LineState}
use Rattle.standard.proofs.First.{first_hit, first_skip, first-none}
use Rattle.state_faults.proofs.state_fault.Goals as goal

module _ (s : LineState) where
  -- past 14
  past : s.history < 2 ^ 23 → {a : Answer} → a ≡ first (drop 1 (state_tests s)) → a ≡ first (state_tests s)
  unfolding state_tests history_too_large
  past h e = first_skip _ _ (lt-leb _ _ h) e

  -- past 18 too
  past-count : s.history < 2 ^ 23 → s.doubtful ≤ 24 → {a : Answer} → a ≡ first (drop 2 (state_tests s)) → a ≡ first (state_tests s)
  unfolding state_tests doubtful_too_large
  past-count h d e = past h (first_skip _ _ (le-ltb _ _ d) e)

pub returns-then-state-ge8388608 : goal.returns-then-state-ge8388608
unfolding state_tests history_too_large
returns-then-state-ge8388608 c =
    let l : 2 ^ 23 ≤ c.args.state.history = omega arith in
    first_hit 14 _ _ (le-leb _ _ l)

pub returns-then-state-gt24 : goal.returns-then-state-gt24
unfolding state_tests doubtful_too_large
returns-then-state-gt24 c =
    let s = c.args.state in
    let h : s.history < 2 ^ 23 = omega arith in
    let l : 24 < s.doubtful = omega arith in
    past s h (first_hit 18 _ _ (lt-ltb _ _ l))

pub returns-then-state : goal.returns-then-state
unfolding state_tests place_too_large
returns-then-state c =
    let s = c.args.state in
    let h : s.history < 2 ^ 23 = omega arith in
    let d : s.doubtful ≤ 24 = omega arith in
    let p : place_too_large s ≡ true = grind (arith, nat_tests) in
    past-count s h d (first_hit 19 _ _ p)

pub returns : goal.returns
unfolding state_tests place_too_large
returns c =
    let s = c.args.state in
    let h : s.history < 2 ^ 23 = omega arith in
    let d : s.doubtful ≤ 24 = omega arith in
    let p : place_too_large s ≡ false = grind (arith, nat_tests) in
    past-count s h d (first_skip _ _ p (sym (first-none [] tt)))
