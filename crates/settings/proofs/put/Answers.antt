-- The record's own refusals, then its CP is put. Assumes nothing.
use mathlib.Core.Path.{◌≡◌, refl, sym, ap, ◌∙◌}
use Prim.Native.Nat.{ℕ, ◌+◌, ◌/◌, ◌≤◌}
use mathlib.Core.List.{List}
use native.Mathlib.Omega.{arith}
use lib.ListN.{length, take}
use lib.Seq.{length-take-le}
use Rattle.std.specs.Int.{div_ceil}
use Rattle.std.specs.Prelude.{Result, Ok}
use Rattle.standard.specs.First.{bare, first}
use Rattle.standard.specs.Refusals.{record_tests}
use Rattle.standard.specs.Settings.{put_file}
use Rattle.standard.specs.Calls.{write_call, write_bit_count, put_call, put_refusal, put_writes, put_length, put_out}
use Rattle.standard.specs.declared.Record.{Record}
use Rattle.standard.specs.declared.Refusal.{Refusal}
use Rattle.standard.proofs.First.{None}
use Rattle.standard.proofs.Refusals.{record_numbered}
use Rattle.standard.proofs.Stages.{done_none}
use Rattle.faults.proofs.Faults.{handed_on}
use Rattle.settings.specs.Putting.{cp_put_refusal}
use Rattle.settings.proofs.Answers.{refused_keeps, same_writes, put-own, put-past, never, count_is, cp-is}
use Rattle.settings.proofs.put.Goals as goal

-- a record of which no test holds
clean : (r : Record) → bare 0 ≡ first (record_tests r) → None (record_tests r)
clean r e =
    let o : Result (Unit {0}) Refusal = Ok tt in
    done_none o (record_tests r) (record_numbered r) refl e

pub returns-in_err-record_fault-clause-refusal : goal.returns-in_err-record_fault-clause-refusal
returns-in_err-record_fault-clause-refusal c =
    let a = c.args in
    handed_on {X = ℕ} c.from_residual.result _ c.from_residual.ensures.1
    ∙ put-own a.file.now (put_call a.junction a.r a.out.now) _ c.in_err-record_fault.ensures

pub returns-in_err-record_fault-clause-written : goal.returns-in_err-record_fault-clause-written
unfolding put_out
returns-in_err-record_fault-clause-written c =
    let a = c.args in
    let call = put_call a.junction a.r a.out.now in
    refused_keeps _ (put_refusal a.file.now call) (put_writes a.file.now call) a.out.now (put-own a.file.now call _ c.in_err-record_fault.ensures)

pub returns-in_err-bit_count : goal.returns-in_err-bit_count
returns-in_err-bit_count c =
    absurd (never c.args.r _ refl (clean c.args.r c.in_ok-record_fault.ensures) _ c.in_err-bit_count.ensures.refusal)

-- the bytes of its CP fit
fit : (r : Record) (b : List ℕ) → length b ≡ 122 → bare 0 ≡ first (record_tests r) → (k n : ℕ) → k ≡ write_bit_count (write_call r b)
    → n ≡ div_ceil k 8 → (n ≡ (k + 7) / 8) × (n ≤ 122)
fit r b l e k n ek en =
    let h = (count_is r b l (clean r e) k ek).1 in (omega arith, omega (arith, h))

pub slice_bounds-bytes-end : goal.slice_bounds-bytes-end
slice_bounds-bytes-end c =
    let h = fit c.args.r _ refl c.in_ok-record_fault.ensures _ _ c.in_ok-bit_count.ensures.count c.div_ceil.ensures in omega (arith, h.1)

pub slice_bounds-put_cp-end : goal.slice_bounds-put_cp-end
slice_bounds-put_cp-end c =
    let h = fit c.args.r _ refl c.in_ok-record_fault.ensures _ _ c.in_ok-bit_count.ensures.count c.div_ceil.ensures in
    sym (length-take-le _ _ (omega (arith, h.1)))

pub returns : goal.returns
unfolding put_length put_out
returns c =
    let a = c.args in
    let call = put_call a.junction a.r a.out.now in
    let n = clean a.r c.in_ok-record_fault.ensures in
    let w = c.in_ok-bit_count.ensures in
    let h = fit a.r _ refl c.in_ok-record_fault.ensures _ _ w.count c.div_ceil.ensures in
    let e = ap (λ (k : ℕ). take k c.write_cp.new.cp) h.0 ∙ cp-is a.r _ refl n _ _ w.count w.bytes in
    let p = c.put_cp.ensures in
    let z = same_writes _ (put_refusal a.file.now call) _ (put_writes a.file.now call) a.out.now c.put_cp.result c.put_cp.new.out
    (ap (λ (cp : List ℕ). cp_put_refusal a.file.now a.junction cp (length a.out.now)) e ∙ put-past a.file.now call n)
    (ap (put_file a.file.now a.junction) e) (p.refusal, p.length, p.written) in
    record { refusal = z.0; length = z.1; written = z.2 }
