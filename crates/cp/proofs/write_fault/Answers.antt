-- The stage of the record, then test 17. Assumes nothing.
use mathlib.Core.Path.{◌≡◌, refl, ap, ◌∙◌}
use Prim.Native.Nat.{ℕ, ◌≤◌, ◌<◌}
use mathlib.Core.List.{List, [], ◌∷◌}
use lib.Dec.{ltb}
use borrow.Author.Tests.{lt-ltb, le-ltb}
use Rattle.standard.specs.First.{Answer, Test, test, first}
use Rattle.standard.specs.Record.{top_index}
use Rattle.standard.specs.Cp.{cp_byte_count}
use Rattle.standard.specs.Refusals.{outcome_answer, record_tests, write_tests}
use Rattle.std.specs.Prelude.{Result, Ok}
use Rattle.standard.specs.declared.Record.{Record}
use Rattle.standard.specs.declared.Refusal.{Refusal}
use Rattle.standard.proofs.First.{first_hit, first_skip}
use Rattle.standard.proofs.Refusals.{top_lt, record_numbered}
use Rattle.standard.proofs.Stages.{stage_past}
use Rattle.faults.proofs.Faults.{stage_hands_on}
use Rattle.cp.proofs.Writing.{index_passed}
use native.Mathlib.Omega.{arith}
use Rattle.cp.proofs.write_fault.Goals as goal

-- test 17
abbrev ends : Record → ℕ → List Test
ends r room = test 17 (ltb room (cp_byte_count (top_index r))) ∷ []

-- past the record's tests
past : (r : Record) (room : ℕ) {o : Result (Unit {0}) Refusal} → o ≡ Ok tt → outcome_answer o ≡ first (record_tests r) → {a : Answer}
    → a ≡ first (ends r room) → a ≡ first (write_tests r (ltb room (cp_byte_count (top_index r))))
unfolding write_tests
past r room {o} q f e = stage_past o (record_tests r) (ends r room) (record_numbered r) q f e

-- the bytes needed
needed : (r : Record) {g n : ℕ} → n ≡ cp_byte_count g → g ≡ top_index r → n ≡ cp_byte_count (top_index r)
needed r en eg = en ∙ ap (λ (g : ℕ). cp_byte_count g) eg

pub returns-in_err-record_fault : goal.returns-in_err-record_fault
unfolding write_tests
returns-in_err-record_fault c =
    let a = c.args in
    stage_hands_on c.from_residual.result _ (record_tests a.r) (ends a.r a.room) c.from_residual.ensures.1 c.in_err-record_fault.ensures

pub byte_count-requires : goal.byte_count-requires
byte_count-requires c =
    let r = c.args.r in
    let o = c.record_fault in
    omega (arith, top_lt r (index_passed r o.result c.in_ok-record_fault.was o.ensures), c.largest_index.ensures)

pub returns-then-room-byte_count : goal.returns-then-room-byte_count
returns-then-room-byte_count c =
    let a = c.args in
    let l : a.room < cp_byte_count (top_index a.r) = omega (arith, needed a.r c.byte_count.ensures c.largest_index.ensures) in
    past a.r a.room c.in_ok-record_fault.was c.record_fault.ensures (first_hit 17 _ _ (lt-ltb _ _ l))

pub returns : goal.returns
unfolding first
returns c =
    let a = c.args in
    let l : cp_byte_count (top_index a.r) ≤ a.room = omega (arith, needed a.r c.byte_count.ensures c.largest_index.ensures) in
    past a.r a.room c.in_ok-record_fault.was c.record_fault.ensures (first_skip _ [] (le-ltb _ _ l) refl)
