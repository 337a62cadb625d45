-- The first stage that refuses answers; where none does, the record is the one read. Assumes nothing.
use mathlib.Core.Path.{◌≡◌, sym, ap, ◌∙◌}
use Prim.Native.Nat.{ℕ}
use mathlib.Core.List.{List}
use Rattle.standard.specs.Bits.{bit_at}
use Rattle.standard.specs.Cp.{record_in}
use Rattle.standard.specs.First.{Answer, bare, first}
use Rattle.standard.specs.Calls.{read_call, read_refusal}
use Rattle.standard.specs.declared.Record.{Record}
use Rattle.faults.proofs.Faults.{handed_on}
use Rattle.cp_faults.specs.Stages.{shape_tests, content_tests}
use Rattle.cp_faults.proofs.Reading.{read-accepted, refused_shape, past_shape}
use Rattle.cp.proofs.read_cp.Goals as goal

-- what the stage of 4 on answers for all
content : (cp : List ℕ) (n : ℕ) {r : Record} {a : Answer} → bare 0 ≡ first (shape_tests cp n)
    → a ≡ first (content_tests (bit_at cp) n r) → r ≡ record_in (bit_at cp) → a ≡ read_refusal (read_call cp n)
content cp n e f k = past_shape cp n e (f ∙ ap (λ (r : Record). first (content_tests (bit_at cp) n r)) k)

pub returns-in_err-shape_fault-clause-refusal : goal.returns-in_err-shape_fault-clause-refusal
returns-in_err-shape_fault-clause-refusal c =
    refused_shape c.args.cp.now c.args.bit_count {X = Record} c.from_residual.result _ c.from_residual.ensures.1 c.in_err-shape_fault.ensures

pub returns-in_err-content_fault-clause-refusal : goal.returns-in_err-content_fault-clause-refusal
returns-in_err-content_fault-clause-refusal c =
    handed_on {X = Record} c.from_residual-in_err-content_fault.result _ c.from_residual-in_err-content_fault.ensures.1
    ∙ content c.args.cp.now c.args.bit_count c.in_ok-shape_fault.ensures c.in_err-content_fault.ensures c.record_in-r.ensures

accepted : (c : goal.In_ok-content_fault) → bare 0 ≡ read_refusal (read_call c.args.cp.now c.args.bit_count)
accepted c = content c.args.cp.now c.args.bit_count c.in_ok-shape_fault.ensures c.in_ok-content_fault.ensures c.record_in-r.ensures

pub returns-clause-refusal : goal.returns-clause-refusal
returns-clause-refusal c = accepted c

pub returns-clause-read : goal.returns-clause-read
returns-clause-read c = c.record_in-r.ensures ∙ sym (read-accepted c.args.cp.now c.args.bit_count (accepted c))
