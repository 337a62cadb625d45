-- The stage of the record, that of the line state, then test 17. Assumes nothing.
use mathlib.Core.Path.{◌≡◌, refl, sym, ap, ◌∙◌}
use Prim.Native.Nat.{ℕ, ◌+◌, ◌≤◌, ◌<◌}
use mathlib.Core.List.{List, [], ◌∷◌, ◌++◌}
use native.Mathlib.Omega.{arith}
use borrow.Author.Tests.{lt-ltb, le-ltb}
use lib.Dec.{ltb}
use lib.ListN.{length}
use Rattle.standard.specs.First.{Answer, Test, bare, test, first}
use Rattle.standard.specs.Record.{top_index}
use Rattle.standard.specs.Cp.{cp_length}
use Rattle.standard.specs.Start.{cp_and_end}
use Rattle.standard.specs.Refusals.{record_tests, state_tests, send_cp_tests}
use Rattle.standard.specs.declared.LineState.{LineState}
use Rattle.std.specs.Prelude.{Result, Ok}
use Rattle.standard.specs.declared.Record.{Record}
use Rattle.standard.specs.declared.Refusal.{Refusal}
use Rattle.standard.proofs.First.{first_hit, first_skip, first-none}
use Rattle.standard.proofs.Start.{length-cp_and_end}
use Rattle.standard.proofs.Refusals.{top_lt, record_numbered, state_numbered}
use Rattle.standard.proofs.Stages.{done_none, stage_past}
use Rattle.faults.proofs.Faults.{stage_hands_on}
use Rattle.start.proofs.cp_fault.Goals as goal

-- test 17, and all of them
abbrev ends : Record → ℕ → List Test
ends r room = test 17 (ltb room (length (cp_and_end r))) ∷ []

abbrev all : Record → LineState → ℕ → List Test
all r st room = send_cp_tests r st (ltb room (length (cp_and_end r)))

module _ (r : Record) (st : LineState) (room : ℕ) (f : bare 0 ≡ first (record_tests r)) where
  -- past the record's tests
  past-record : {a : Answer} → a ≡ first (state_tests st ++ ends r room) → a ≡ first (all r st room)
  unfolding send_cp_tests
  past-record e = let o : Result (Unit {0}) Refusal = Ok tt in
      stage_past o (record_tests r) (state_tests st ++ ends r room) (record_numbered r) refl f e

  -- and past the line state's
  past-state : bare 0 ≡ first (state_tests st) → {a : Answer} → a ≡ first (ends r room) → a ≡ first (all r st room)
  past-state g e = let o : Result (Unit {0}) Refusal = Ok tt in
      past-record (stage_past o (state_tests st) (ends r room) (state_numbered st) refl g e)

  -- the largest index is 5 at most
  top : top_index r < 6
  unfolding record_tests
  top = let o : Result (Unit {0}) Refusal = Ok tt in top_lt r (done_none o (record_tests r) (record_numbered r) refl f).0

-- the octets needed
needed : (r : Record) {g n : ℕ} → g ≡ top_index r → n ≡ cp_length g → n + 12 ≡ length (cp_and_end r)
needed r eg en = ap (λ (n : ℕ). n + 12) (en ∙ ap (λ (g : ℕ). cp_length g) eg) ∙ sym (length-cp_and_end r)

pub returns-in_err-record_fault : goal.returns-in_err-record_fault
unfolding send_cp_tests
returns-in_err-record_fault c =
    let a = c.args in
    stage_hands_on c.from_residual.result _ (record_tests a.r) (state_tests a.state ++ ends a.r a.room) c.from_residual.ensures.1
    c.in_err-record_fault.ensures

pub returns-in_err-state_fault : goal.returns-in_err-state_fault
returns-in_err-state_fault c =
    let a = c.args in
    past-record a.r a.state a.room c.in_ok-record_fault.ensures
    (stage_hands_on c.from_residual-in_err-state_fault.result _ (state_tests a.state) (ends a.r a.room)
    c.from_residual-in_err-state_fault.ensures.1 c.in_err-state_fault.ensures)

pub cp_length-requires : goal.cp_length-requires
cp_length-requires c =
    let a = c.args in
    omega (arith, c.largest_index.ensures, top a.r a.state a.room c.in_ok-record_fault.ensures)

pub returns-then-room-cp_length : goal.returns-then-room-cp_length
returns-then-room-cp_length c =
    let a = c.args in
    let short : a.room < length (cp_and_end a.r) = omega (arith, needed a.r c.largest_index.ensures c.cp_length.ensures) in
    past-state a.r a.state a.room c.in_ok-record_fault.ensures c.in_ok-state_fault.ensures (first_hit 17 _ _ (lt-ltb _ _ short))

pub returns : goal.returns
returns c =
    let a = c.args in
    let enough : length (cp_and_end a.r) ≤ a.room = omega (arith, needed a.r c.largest_index.ensures c.cp_length.ensures) in
    past-state a.r a.state a.room c.in_ok-record_fault.ensures c.in_ok-state_fault.ensures
    (first_skip _ _ (le-ltb _ _ enough) (sym (first-none [] tt)))
