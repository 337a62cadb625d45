-- Test 13, the stage of the line state, then test 15. Assumes nothing.
use mathlib.Core.Path.{◌≡◌, sym}
use Prim.Native.Nat.{ℕ, ◌≤◌, ◌<◌}
use mathlib.Core.Bool.{true, false}
use mathlib.Core.List.{List, [], ◌∷◌}
use native.Mathlib.Omega.{arith}
use borrow.Author.Tests.{lt-ltb, le-ltb}
use Rattle.std.proofs.lemmas.Bool.Decides.{nat_tests}
use Rattle.standard.specs.First.{Answer, Test, test, first}
use Rattle.standard.specs.Refusals.{outcome_answer, frames_at_cleardown, too_many_frames, state_tests, line_tests}
use Rattle.standard.specs.declared.LineState.{LineState}
use Rattle.std.specs.Prelude.{Result, Ok}
use Rattle.standard.specs.declared.Record.{Record}
use Rattle.standard.specs.declared.Refusal.{Refusal}
use Rattle.standard.proofs.First.{first_hit, first_skip, first-none}
use Rattle.standard.proofs.Refusals.{state_numbered}
use Rattle.standard.proofs.Stages.{stage_past}
use Rattle.faults.proofs.Faults.{stage_hands_on}
use Rattle.needs.proofs.line_fault.Goals as goal

-- the tests behind 13
abbrev rest : ℕ → List Test
rest n = test 15 (too_many_frames n) ∷ []

-- past 13 and the line state's
past : (r : Record) (st : LineState) (n : ℕ) {o : Result (Unit {0}) Refusal} → frames_at_cleardown r n ≡ false → o ≡ Ok tt → outcome_answer o ≡ first (state_tests st)
    → {a : Answer} → a ≡ first (rest n) → a ≡ first (line_tests r st n)
unfolding line_tests
past r st n {o} d q f e = first_skip _ _ d (stage_past o (state_tests st) (rest n) (state_numbered st) q f e)

pub returns-then-frames-r : goal.returns-then-frames-r
unfolding line_tests frames_at_cleardown
returns-then-frames-r c =
    let t : frames_at_cleardown c.args.r c.args.frames ≡ true = grind (arith, nat_tests) in
    first_hit 13 _ _ t

pub returns-in_err-state_fault : goal.returns-in_err-state_fault
unfolding line_tests frames_at_cleardown
returns-in_err-state_fault c =
    first_skip _ _ c.if-frames-r.false
    (stage_hands_on c.from_residual.result _ (state_tests c.args.state) (rest c.args.frames) c.from_residual.ensures.1 c.in_err-state_fault.ensures)

pub returns-then-frames-gt1024 : goal.returns-then-frames-gt1024
unfolding frames_at_cleardown too_many_frames
returns-then-frames-gt1024 c =
    let a = c.args in
    let l : 1024 < a.frames = omega arith in
    past a.r a.state a.frames c.if-frames-r.false c.in_ok-state_fault.was c.state_fault.ensures (first_hit 15 _ _ (lt-ltb _ _ l))

pub returns : goal.returns
unfolding frames_at_cleardown too_many_frames
returns c =
    let a = c.args in
    let l : a.frames ≤ 1024 = omega arith in
    past a.r a.state a.frames c.if-frames-r.false c.in_ok-state_fault.was c.state_fault.ensures
    (first_skip _ _ (le-ltb _ _ l) (sym (first-none [] tt)))
