-- Test 4, then the stage of 5 to 8, then that of the rate. Assumes nothing.
use mathlib.Core.Path.{◌≡◌, sym, ap, ◌∙◌}
use Prim.Native.Nat.{ℕ}
use mathlib.Core.Bool.{Bool}
use Rattle.standard.specs.Bits.{bit_at}
use Rattle.standard.specs.First.{Answer, first}
use Rattle.standard.specs.Record.{top_index}
use Rattle.standard.specs.Refusals.{rate_tests}
use Rattle.standard.specs.declared.Record.{Record}
use Rattle.standard.proofs.First.{first_hit, first_skip}
use Rattle.standard.proofs.Refusals.{index-le, top_lt}
use Rattle.standard.proofs.Stages.{stage_past}
use Rattle.faults.proofs.Faults.{stage_hands_on}
use Rattle.cp_faults.specs.Stages.{sequence_tests, content_tests}
use native.Mathlib.Omega.{arith}
use Rattle.cp_faults.proofs.content_fault.Goals as goal

-- what the stage of 5 to 8 answers
sequence : (f : ℕ → Bool) (n : ℕ) (r : Record) {g : ℕ} {a : Answer} → a ≡ first (sequence_tests f n g) → g ≡ top_index r
    → a ≡ first (sequence_tests f n (top_index r))
sequence f n r e k = e ∙ ap (λ (g : ℕ). first (sequence_tests f n g)) k

pub returns-then-index_too_large : goal.returns-then-index_too_large
unfolding content_tests
returns-then-index_too_large c = first_hit 4 _ _ (sym c.index_too_large.ensures ∙ c.if-index_too_large.true)

pub sequence_fault-requires : goal.sequence_fault-requires
sequence_fault-requires c =
    omega (arith, top_lt c.args.r (sym c.index_too_large.ensures ∙ c.if-index_too_large.false), c.largest_index.ensures)

pub returns-in_err-sequence_fault : goal.returns-in_err-sequence_fault
unfolding content_tests
returns-in_err-sequence_fault c =
    let a = c.args in
    let f = bit_at a.cp.now in
    first_skip _ _ (sym c.index_too_large.ensures ∙ c.if-index_too_large.false)
    (stage_hands_on c.from_residual.result _ (sequence_tests f a.bit_count (top_index a.r)) (rate_tests a.r) c.from_residual.ensures.1
    (sequence f a.bit_count a.r c.in_err-sequence_fault.ensures c.largest_index.ensures))

pub rate_fault-requires : goal.rate_fault-requires
rate_fault-requires c = index-le c.args.r (sym c.index_too_large.ensures ∙ c.if-index_too_large.false)

pub returns : goal.returns
unfolding content_tests sequence_tests
returns c =
    let a = c.args in
    let f = bit_at a.cp.now in
    let o = c.sequence_fault in
    first_skip _ _ (sym c.index_too_large.ensures ∙ c.if-index_too_large.false)
    (stage_past o.result (sequence_tests f a.bit_count (top_index a.r)) (rate_tests a.r) tt c.in_ok-sequence_fault.was
    (sequence f a.bit_count a.r o.ensures c.largest_index.ensures) c.rate_fault.ensures)
