-- The tests 1 to 3 are made in their order; the count is compared with the bytes by whole bytes, so nothing overflows. Assumes nothing.
use mathlib.Core.Path.{◌≡◌, refl, sym, ◌∙◌}
use Prim.Native.Nat.{ℕ, ◌*◌, ◌<◌, ◌≤◌}
use mathlib.Core.List.{List, []}
use borrow.Author.Tests.{lt-ltb, le-ltb}
use lib.ListN.{length, drop}
use Rattle.standard.specs.First.{Answer, first}
use Rattle.standard.specs.Refusals.{count_exceeds_bytes, count_too_small}
use Rattle.standard.proofs.First.{first_hit, first_skip}
use Rattle.cp_faults.specs.Stages.{shape_tests}
use native.Mathlib.Omega.{arith}
use Rattle.cp_faults.proofs.shape_fault.Goals as goal

module _ (s : List ℕ) (n : ℕ) where
  -- past test 1
  past1 : n ≤ 8 * length s → {a : Answer} → a ≡ first (drop 1 (shape_tests s n)) → a ≡ first (shape_tests s n)
  unfolding shape_tests count_exceeds_bytes
  past1 l e = first_skip _ _ (le-ltb _ _ l) e

  -- and past test 2
  past2 : n ≤ 8 * length s → 294 ≤ n → {a : Answer} → a ≡ first (drop 2 (shape_tests s n)) → a ≡ first (shape_tests s n)
  unfolding shape_tests count_too_small
  past2 l m e = past1 l (first_skip _ _ (le-ltb _ _ m) e)

pub returns-then-cp-div_ceil : goal.returns-then-cp-div_ceil
unfolding shape_tests count_exceeds_bytes
returns-then-cp-div_ceil c =
    let l : 8 * length c.args.cp.now < c.args.bit_count = omega arith in
    first_hit 1 _ _ (lt-ltb _ _ l)

pub returns-then-bit_count-lt294 : goal.returns-then-bit_count-lt294
unfolding shape_tests count_too_small
returns-then-bit_count-lt294 c =
    let a = c.args in
    let l : a.bit_count < 294 = omega arith in
    past1 a.cp.now a.bit_count (omega arith) (first_hit 2 _ _ (lt-ltb _ _ l))

pub returns-then-sync_broken : goal.returns-then-sync_broken
unfolding shape_tests
returns-then-sync_broken c =
    let a = c.args in
    past2 a.cp.now a.bit_count (omega arith) (omega arith) (first_hit 3 _ _ (sym c.sync_broken.ensures ∙ c.if-sync_broken.true))

pub returns : goal.returns
unfolding shape_tests first
returns c =
    let a = c.args in
    past2 a.cp.now a.bit_count (omega arith) (omega arith)
    (first_skip _ [] (sym c.sync_broken.ensures ∙ c.if-sync_broken.false) refl)
