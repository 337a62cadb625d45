-- The line state's bytes stay where the call is refused or has no frames. Assumes nothing.
use mathlib.Core.Path.{◌≡◌, refl, sym, ◌∙◌}
use Prim.Native.Nat.{ℕ}
use mathlib.Core.Bool.{true, false}
use mathlib.Core.List.{List}
use borrow.Author.Tests.{eq-eqb, ne_eqb}
use Rattle.std.specs.Prelude.{Result, Ok, Err}
use Rattle.std.specs.Result.{is_ok}
use Rattle.standard.specs.Refusals.{outcome_answer}
use Rattle.standard.specs.Calls.{over}
use Rattle.standard.specs.declared.LineState.{LineState}
use Rattle.standard.specs.declared.Refusal.{Refusal}
use Rattle.standard.proofs.Stages.{refused_not}
use Rattle.states.specs.StateBytes.{state_bytes}
use Rattle.c_calls.specs.Answered.{answered, state_left}
use Rattle.c_calls.proofs.end_call.Goals as goal
use Rattle.c_calls.proofs.end_call.Goals.{then-is_ok+then-frames-ne0, else-is_ok, else-is_ok-via-then-is_ok+else-frames-ne0, else-is_ok-via-else-is_ok}

module _ {X : Type 0} (o : Result X Refusal) (n : ℕ) (left : LineState) (state : List ℕ) where
  abbrev After : List ℕ → Type 0
  After s = s ≡ answered (outcome_answer o) (state_left n left state) (λ k. state)

put : {X : Type 0} (o : Result X Refusal) (n : ℕ) (left : LineState) (state : List ℕ) → is_ok o ≡ true → (n ≡ 0 → ⊥) → After o n left state (over (state_bytes left) state)
unfolding answered state_left
put (Ok y) n left state e p = rw (ne_eqb n 0 p)
put (Err x) n left state e p = cc

none : {X : Type 0} (o : Result X Refusal) (n : ℕ) (left : LineState) (state : List ℕ) → is_ok o ≡ true → n ≡ 0 → After o n left state state
unfolding answered state_left
none (Ok y) n left state e p = rw (eq-eqb n 0 p)
none (Err x) n left state e p = cc

refused : {X : Type 0} (o : Result X Refusal) (n : ℕ) (left : LineState) (state : List ℕ) → is_ok o ≡ false → After o n left state state
unfolding answered
refused (Ok y) n left state e = cc
refused {X} (Err x) n left state e = let f = refused_not {X = X} (Err x) x _ refl refl in rw f

pub returns : goal.returns
returns g c =
    let a = c.args in
    let ok = c.is_ok.ensures.value in (
      c.code_of.ensures,
      elim c.if-is_ok.branch [
        | then-is_ok+then-frames-ne0 w ↦ w.state-is ∙ w.state_into.ensures ∙ put a.outcome a.frames a.left a.state.now (sym ok ∙ w.if-is_ok.true) w.if-frames-ne0.true
        | else-is_ok w ↦ w.state-is ∙ elim w.else-is_ok.branch [
          | else-is_ok-via-then-is_ok+else-frames-ne0 v ↦ none a.outcome a.frames a.left a.state.now (sym ok ∙ v.if-is_ok.true) v.if-frames-ne0.false
          | else-is_ok-via-else-is_ok v ↦ refused a.outcome a.frames a.left a.state.now (sym ok ∙ v.if-is_ok.false)
        ]
      ],
    )
