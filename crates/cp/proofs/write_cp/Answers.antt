-- What is refused leaves all as it was; otherwise the first bytes are the CP. Assumes nothing.
use mathlib.Core.Path.{◌≡◌, refl, sym, ap, ◌∙◌}
use Prim.Native.Nat.{ℕ, ◌≤◌}
use mathlib.Core.Bool.{false}
use mathlib.Core.List.{List}
use borrow.Author.Tests.{ltb-false}
use lib.Dec.{ltb}
use lib.ListN.{length}
use lib.Seq.{length-take-le}
use Rattle.std.specs.Prelude.{Result, Ok}
use Rattle.standard.specs.Record.{top_index}
use Rattle.standard.specs.Cp.{cp_length, cp_byte_count}
use Rattle.standard.specs.First.{Answer, bare, first}
use Rattle.standard.specs.Refusals.{index_too_large, write_tests}
use Rattle.standard.specs.declared.Record.{Record}
use Rattle.standard.specs.declared.Refusal.{Refusal}
use Rattle.standard.specs.Calls.{write_call, write_refusal}
use Rattle.standard.proofs.Refusals.{top_lt}
use Rattle.faults.proofs.Faults.{handed_on}
use Rattle.cp.proofs.Writing.{write_passed, write_refused, write-counted, write-written}
use native.Mathlib.Omega.{arith}
use Rattle.cp.proofs.write_cp.Goals as goal

-- what the tests answer
refusal : (r : Record) (s : List ℕ) {a : Answer} → a ≡ first (write_tests r (ltb (length s) (cp_byte_count (top_index r))))
    → a ≡ write_refusal (write_call r s)
unfolding write_refusal
refusal r s e = e

-- what a call that is not refused has passed, with the largest index and the bytes needed as code has them
module _ (r : Record) (s : List ℕ) (e : bare 0 ≡ first (write_tests r (ltb (length s) (cp_byte_count (top_index r))))) {g : ℕ}
    (eg : g ≡ top_index r) where
  both : (index_too_large r ≡ false) × (ltb (length s) (cp_byte_count (top_index r)) ≡ false)
  both = let o : Result (Unit {0}) Refusal = Ok tt in write_passed r _ o refl e

  top : g ≤ 5
  top = omega (arith, eg, top_lt r both.0)

  needed : {n : ℕ} → n ≡ cp_byte_count g → n ≡ cp_byte_count (top_index r)
  needed en = en ∙ ap (λ (g : ℕ). cp_byte_count g) eg

  room : {n : ℕ} → n ≡ cp_byte_count g → n ≤ length s
  room en = rw (needed en) (ltb-false _ _ both.1)

pub returns-in_err-write_fault-clause-bytes : goal.returns-in_err-write_fault-clause-bytes
returns-in_err-write_fault-clause-bytes c =
    write_refused c.args.r c.args.cp.now _ (refusal c.args.r c.args.cp.now c.in_err-write_fault.ensures)

pub returns-in_err-write_fault-clause-refusal : goal.returns-in_err-write_fault-clause-refusal
returns-in_err-write_fault-clause-refusal c =
    handed_on {X = ℕ} c.from_residual.result _ c.from_residual.ensures.1 ∙ refusal c.args.r c.args.cp.now c.in_err-write_fault.ensures

pub byte_count-requires : goal.byte_count-requires
byte_count-requires c = top c.args.r c.args.cp.now c.in_ok-write_fault.ensures c.largest_index-g.ensures

pub slice_bounds-put_cp-end : goal.slice_bounds-put_cp-end
slice_bounds-put_cp-end c = room c.args.r c.args.cp.now c.in_ok-write_fault.ensures c.largest_index-g.ensures c.byte_count.ensures

pub slice_bounds-put_cp-end-2 : goal.slice_bounds-put_cp-end-2
slice_bounds-put_cp-end-2 c =
    sym (length-take-le _ _ (room c.args.r c.args.cp.now c.in_ok-write_fault.ensures c.largest_index-g.ensures c.byte_count.ensures))

pub put_cp-requires : goal.put_cp-requires
put_cp-requires c =
    let a = c.args in
    let e = c.in_ok-write_fault.ensures in
    let g = c.largest_index-g.ensures in
    let n = c.byte_count.ensures in
    (omega (arith, g, top a.r a.cp.now e g), length-take-le _ _ (room a.r a.cp.now e g n) ∙ needed a.r a.cp.now e g n)

pub cp_length-requires : goal.cp_length-requires
cp_length-requires c = top c.args.r c.args.cp.now c.in_ok-write_fault.ensures c.largest_index-g.ensures

pub returns-clause-refusal : goal.returns-clause-refusal
returns-clause-refusal c = refusal c.args.r c.args.cp.now c.in_ok-write_fault.ensures

pub returns-clause-count : goal.returns-clause-count
returns-clause-count c =
    write-counted c.args.r c.args.cp.now (refusal c.args.r c.args.cp.now c.in_ok-write_fault.ensures) _
    (c.cp_length.ensures ∙ ap (λ (g : ℕ). cp_length g) c.largest_index-g.ensures)

pub returns-clause-bytes : goal.returns-clause-bytes
returns-clause-bytes c =
    let a = c.args in
    let e = c.in_ok-write_fault.ensures in
    write-written a.r a.cp.now (refusal a.r a.cp.now e) _ _ (needed a.r a.cp.now e c.largest_index-g.ensures c.byte_count.ensures) c.put_cp.ensures
