-- The tests 9 and 10, then the stage of 25, then test 11. Assumes nothing.
use mathlib.Core.Path.{◌≡◌, refl, sym, ◌∙◌}
use Prim.Native.Nat.{◌<◌, ◌≤◌}
use mathlib.Core.Bool.{false}
use mathlib.Core.List.{[], ◌∷◌}
use native.Mathlib.Omega.{arith}
use borrow.Author.Tests.{lt-ltb, le-ltb}
use lib.ListN.{drop}
use Rattle.standard.specs.First.{Answer, test, first}
use Rattle.standard.specs.Refusals.{outcome_answer, drn_too_large, granted_below_full_rate, product_too_small, empty_tests, rate_tests}
use Rattle.std.specs.Prelude.{Result, Ok}
use Rattle.standard.specs.declared.Record.{Record}
use Rattle.standard.specs.declared.Refusal.{Refusal}
use Rattle.standard.proofs.First.{first_hit, first_skip}
use Rattle.standard.proofs.Refusals.{empty_numbered}
use Rattle.standard.proofs.Stages.{stage_past}
use Rattle.faults.proofs.Faults.{stage_hands_on}
use Rattle.faults.proofs.rate_fault.Goals as goal

module _ (r : Record) where
  -- past test 9
  past1 : r.drn ≤ 28 → {a : Answer} → a ≡ first (drop 1 (rate_tests r)) → a ≡ first (rate_tests r)
  unfolding rate_tests drn_too_large
  past1 l e = first_skip _ _ (le-ltb _ _ l) e

  -- and past test 10
  past2 : r.drn ≤ 28 → granted_below_full_rate r ≡ false → {a : Answer} → a ≡ first (drop 2 (rate_tests r)) → a ≡ first (rate_tests r)
  unfolding rate_tests
  past2 l g e = past1 l (first_skip _ _ g e)

  -- and past the tests of 25
  past3 : r.drn ≤ 28 → granted_below_full_rate r ≡ false → {o : Result (Unit {0}) Refusal} → o ≡ Ok tt → outcome_answer o ≡ first (empty_tests r) → {a : Answer}
      → a ≡ first (test 11 (product_too_small r) ∷ []) → a ≡ first (rate_tests r)
  unfolding rate_tests
  past3 l g {o} q f e = past2 l g (stage_past o (empty_tests r) _ (empty_numbered r) q f e)

pub returns-then-r-gt28 : goal.returns-then-r-gt28
unfolding rate_tests drn_too_large
returns-then-r-gt28 c =
    let l : 28 < c.args.r.drn = omega arith in
    first_hit 9 _ _ (lt-ltb _ _ l)

pub returns-then-granted_below_full_rate : goal.returns-then-granted_below_full_rate
unfolding rate_tests
returns-then-granted_below_full_rate c =
    let l : c.args.r.drn ≤ 28 = omega arith in
    past1 c.args.r l (first_hit 10 _ _ (sym c.granted_below_full_rate.ensures ∙ c.if-granted_below_full_rate.true))

pub returns-in_err-empty_fault : goal.returns-in_err-empty_fault
unfolding rate_tests
returns-in_err-empty_fault c =
    let r = c.args.r in
    let l : r.drn ≤ 28 = omega arith in
    past2 r l (sym c.granted_below_full_rate.ensures ∙ c.if-granted_below_full_rate.false)
    (stage_hands_on c.from_residual.result _ (empty_tests r) _ c.from_residual.ensures.1 c.in_err-empty_fault.ensures)

pub returns-then-product_too_small : goal.returns-then-product_too_small
returns-then-product_too_small c =
    let l : c.args.r.drn ≤ 28 = omega arith in
    past3 c.args.r l (sym c.granted_below_full_rate.ensures ∙ c.if-granted_below_full_rate.false) c.in_ok-empty_fault.was c.empty_fault.ensures
    (first_hit 11 _ _ (sym c.product_too_small.ensures ∙ c.if-product_too_small.true))

pub returns : goal.returns
unfolding first
returns c =
    let l : c.args.r.drn ≤ 28 = omega arith in
    past3 c.args.r l (sym c.granted_below_full_rate.ensures ∙ c.if-granted_below_full_rate.false) c.in_ok-empty_fault.was c.empty_fault.ensures
    (first_skip _ [] (sym c.product_too_small.ensures ∙ c.if-product_too_small.false) refl)
