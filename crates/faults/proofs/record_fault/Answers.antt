-- Test 4, then the stage of the rate, then test 12. Assumes nothing.
use mathlib.Core.Path.{◌≡◌, refl, sym, ◌∙◌}
use mathlib.Core.Bool.{false}
use mathlib.Core.List.{[], ◌∷◌}
use native.Mathlib.Omega.{arith}
use Rattle.standard.specs.First.{Answer, test, first}
use Rattle.standard.specs.Refusals.{outcome_answer, index_too_large, mask_above_indices, rate_tests, record_tests}
use Rattle.std.specs.Prelude.{Result, Ok}
use Rattle.standard.specs.declared.Record.{Record}
use Rattle.standard.specs.declared.Refusal.{Refusal}
use Rattle.standard.proofs.First.{first_hit, first_skip}
use Rattle.standard.proofs.Refusals.{index-le, top_lt, rate_numbered}
use Rattle.standard.proofs.Stages.{stage_past}
use Rattle.faults.proofs.Faults.{stage_hands_on}
use Rattle.faults.proofs.record_fault.Goals as goal

-- past test 4, and past the rate's tests
past : (r : Record) {o : Result (Unit {0}) Refusal} → index_too_large r ≡ false → o ≡ Ok tt → outcome_answer o ≡ first (rate_tests r) → {a : Answer}
    → a ≡ first (test 12 (mask_above_indices r) ∷ []) → a ≡ first (record_tests r)
unfolding record_tests
past r {o} i q f e =
    first_skip _ _ i (stage_past o (rate_tests r) (test 12 (mask_above_indices r) ∷ []) (rate_numbered r) q f e)

pub returns-then-index_too_large : goal.returns-then-index_too_large
unfolding record_tests
returns-then-index_too_large c = first_hit 4 _ _ (sym c.index_too_large.ensures ∙ c.if-index_too_large.true)

pub rate_fault-requires : goal.rate_fault-requires
rate_fault-requires c = index-le c.args.r (sym c.index_too_large.ensures ∙ c.if-index_too_large.false)

pub returns-in_err-rate_fault : goal.returns-in_err-rate_fault
unfolding record_tests
returns-in_err-rate_fault c =
    let r = c.args.r in
    first_skip _ _ (sym c.index_too_large.ensures ∙ c.if-index_too_large.false)
    (stage_hands_on c.from_residual.result _ (rate_tests r) _ c.from_residual.ensures.1 c.in_err-rate_fault.ensures)

pub mask_above_indices-requires : goal.mask_above_indices-requires
mask_above_indices-requires c =
    omega (arith, top_lt c.args.r (sym c.index_too_large.ensures ∙ c.if-index_too_large.false))

pub returns-then-mask_above_indices : goal.returns-then-mask_above_indices
returns-then-mask_above_indices c =
    past c.args.r (sym c.index_too_large.ensures ∙ c.if-index_too_large.false) c.in_ok-rate_fault.was c.rate_fault.ensures
    (first_hit 12 _ _ (sym c.mask_above_indices.ensures ∙ c.if-mask_above_indices.true))

pub returns : goal.returns
unfolding first
returns c =
    past c.args.r (sym c.index_too_large.ensures ∙ c.if-index_too_large.false) c.in_ok-rate_fault.was c.rate_fault.ensures
    (first_skip _ [] (sym c.mask_above_indices.ensures ∙ c.if-mask_above_indices.false) refl)
