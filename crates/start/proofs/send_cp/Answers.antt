-- What is refused leaves all as it was; otherwise the first octets are those of the CP and E_s. Assumes nothing.
use mathlib.Core.Path.{◌≡◌, sym, ap, ◌∙◌}
use Prim.Native.Nat.{ℕ, ◌+◌, ◌≤◌}
use mathlib.Core.List.{List, ◌++◌}
use native.Mathlib.Omega.{arith}
use lib.ListN.{length, drop}
use lib.Seq.{length-take-le}
use Rattle.standard.specs.First.{Answer, bare, first}
use Rattle.standard.specs.Record.{top_index}
use Rattle.standard.specs.Cp.{cp_length}
use Rattle.standard.specs.Start.{cp_and_end, octets_for}
use Rattle.standard.specs.Refusals.{shorter, send_cp_tests}
use Rattle.standard.specs.Calls.{cp_call, send_cp_refusal, send_cp_count, send_cp_left, send_cp_octets}
use Rattle.standard.specs.declared.Law.{Law}
use Rattle.standard.specs.declared.LineState.{LineState}
use Rattle.standard.specs.declared.Record.{Record}
use Rattle.standard.proofs.Start.{length-cp_and_end}
use Rattle.faults.proofs.Faults.{handed_on}
use Rattle.start.proofs.Answers.{cp-refused, cp-counted, cp-left, cp-sent, top-passed, history-passed, room-passed}
use Rattle.start.proofs.send_cp.Goals as goal

-- what the tests answer
refusal : (r : Record) (l : Law) (st : LineState) (os : List ℕ) {a : Answer}
    → a ≡ first (send_cp_tests r st (shorter os (length (cp_and_end r)))) → a ≡ send_cp_refusal st (cp_call r l os)
unfolding send_cp_refusal
refusal r l st os e = e

-- the octets needed
needed : (r : Record) {g n : ℕ} → g ≡ top_index r → n ≡ cp_length g → n + 12 ≡ length (cp_and_end r)
needed r eg en = ap (λ (n : ℕ). n + 12) (en ∙ ap (λ (g : ℕ). cp_length g) eg) ∙ sym (length-cp_and_end r)

-- ---- a call that is refused

kept : (c : goal.After-from_residual) → let a = c.args in let call = cp_call a.r a.law a.octets.now in
    (a.state.now ≡ send_cp_left a.state.now call) × (a.octets.now ≡ send_cp_octets a.state.now call)
kept c =
    let a = c.args in
    cp-refused a.r a.law a.state.now a.octets.now _ (refusal a.r a.law a.state.now a.octets.now c.in_err-cp_fault.ensures)

pub returns-in_err-cp_fault-clause-refusal : goal.returns-in_err-cp_fault-clause-refusal
returns-in_err-cp_fault-clause-refusal c =
    let a = c.args in
    handed_on {X = ℕ} c.from_residual.result _ c.from_residual.ensures.1
    ∙ refusal a.r a.law a.state.now a.octets.now c.in_err-cp_fault.ensures

pub returns-in_err-cp_fault-clause-left : goal.returns-in_err-cp_fault-clause-left
returns-in_err-cp_fault-clause-left c = (kept c).0

pub returns-in_err-cp_fault-clause-octets : goal.returns-in_err-cp_fault-clause-octets
returns-in_err-cp_fault-clause-octets c = (kept c).1

-- ---- one that is not

pub cp_length-end-requires : goal.cp_length-end-requires
cp_length-end-requires c =
    let a = c.args in
    omega (arith, c.largest_index-g.ensures, top-passed a.r a.law a.state.now a.octets.now c.in_ok-cp_fault.ensures)

room : (r : Record) (l : Law) (st : LineState) (os : List ℕ) → bare 0 ≡ first (send_cp_tests r st (shorter os (length (cp_and_end r))))
    → {g n : ℕ} → g ≡ top_index r → n ≡ cp_length g → n + 12 ≤ length os
room r l st os e eg en = omega (arith, needed r eg en, room-passed r l st os e)

pub slice_bounds-send_record-end : goal.slice_bounds-send_record-end
slice_bounds-send_record-end c =
    let a = c.args in
    room a.r a.law a.state.now a.octets.now c.in_ok-cp_fault.ensures c.largest_index-g.ensures c.cp_length-end.ensures

pub slice_bounds-send_record-end-2 : goal.slice_bounds-send_record-end-2
slice_bounds-send_record-end-2 c =
    let a = c.args in
    sym (length-take-le _ _ (room a.r a.law a.state.now a.octets.now c.in_ok-cp_fault.ensures c.largest_index-g.ensures c.cp_length-end.ensures))

pub send_record-requires : goal.send_record-requires
send_record-requires c =
    let a = c.args in
    let g = c.largest_index-g.ensures in (
      g,
      omega (arith, g, top-passed a.r a.law a.state.now a.octets.now c.in_ok-cp_fault.ensures),
      history-passed a.r a.law a.state.now a.octets.now c.in_ok-cp_fault.ensures,
      length-take-le _ _ (room a.r a.law a.state.now a.octets.now c.in_ok-cp_fault.ensures g c.cp_length-end.ensures)
          ∙ ap (λ (k : ℕ). k + 12) c.cp_length-end.ensures,
    )

pub returns-clause-refusal : goal.returns-clause-refusal
returns-clause-refusal c = refusal c.args.r c.args.law c.args.state.now c.args.octets.now c.in_ok-cp_fault.ensures

-- what is left then
module _ (r : Record) (l : Law) (st : LineState) (os : List ℕ) (e : bare 0 ≡ first (send_cp_tests r st (shorter os (length (cp_and_end r)))))
    {g n : ℕ} (eg : g ≡ top_index r) (en : n ≡ cp_length g) where
  count : n + 12 ≡ send_cp_count st (cp_call r l os)
  count = cp-counted r l st os (refusal r l st os e) (needed r eg en)

  octets : {part : List ℕ} → part ≡ octets_for l st (cp_and_end r) → part ++ drop (n + 12) os ≡ send_cp_octets st (cp_call r l os)
  octets ep = cp-sent r l st os (refusal r l st os e) (needed r eg en) ep

pub returns-clause-count : goal.returns-clause-count
returns-clause-count c =
    let a = c.args in
    count a.r a.law a.state.now a.octets.now c.in_ok-cp_fault.ensures c.largest_index-g.ensures c.cp_length-end.ensures

pub returns-clause-left : goal.returns-clause-left
returns-clause-left c =
    let a = c.args in
    cp-left a.r a.law a.state.now a.octets.now (refusal a.r a.law a.state.now a.octets.now c.in_ok-cp_fault.ensures) c.send_record.ensures.0

pub returns-clause-octets : goal.returns-clause-octets
returns-clause-octets c =
    let a = c.args in
    octets a.r a.law a.state.now a.octets.now c.in_ok-cp_fault.ensures c.largest_index-g.ensures c.cp_length-end.ensures c.send_record.ensures.1
