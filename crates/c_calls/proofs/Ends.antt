-- An outcome in one number, and the end of a call of frames. Assumes nothing.
use mathlib.Core.Path.{◌≡◌, refl, sym, ◌∙◌}
use mathlib.Core.Logic.{◌⊎◌, inl, inr}
use Prim.Native.Nat.{ℕ, ◌≤◌, ◌<◌}
use mathlib.Core.Bool.{Bool, true, false, true≢false, ◌||◌}
use mathlib.Core.List.{List, [], ◌∷◌, ◌++◌}
use native.Mathlib.Nat.{eq-zero-or-pos}
use borrow.Author.Tests.{ltb-false, eq-eqb}
use lib.Dec.{T, ltb}
use lib.ListN.{length}
use Rattle.std.specs.Prelude.{Result, Ok, Err, IfOk}
use Rattle.standard.specs.First.{Answer, bare, Test, test, first}
use Rattle.standard.specs.Refusals.{outcome_answer}
use Rattle.standard.specs.Calls.{accepted}
use Rattle.standard.specs.declared.Refusal.{Refusal}
use Rattle.standard.proofs.Lists.{or-none}
use Rattle.standard.proofs.First.{numbered, first-append, first-left}
use Rattle.standard.proofs.Stages.{refused_not, done_none}
use Rattle.forms.specs.RecordBytes.{record_length}
use Rattle.states.specs.StateBytes.{state_length}
use Rattle.c_calls.specs.Answered.{frame_answer, then_short}

-- a list of tests that refuses
refused_first : (ts : List Test) → accepted (first ts) ≡ false → 0 < (first ts).number
refused_first ts e = go (eq-zero-or-pos (first ts).number)
  where
    go : ((first ts).number ≡ 0) ⊎ (0 < (first ts).number) → 0 < (first ts).number
    go (inl z) = absurd (true≢false (sym (eq-eqb (first ts).number 0 z) ∙ e))
    go (inr p) = p

-- ---- an entry's tests with 17 behind them, for a buffer to be written

module _ {X : Type 0} (ts : List Test) (t : T (numbered ts)) (short : Bool) (o : Result X Refusal) (eo : outcome_answer o ≡ first ts) where
  abbrev then17 : Answer
  then17 = first (ts ++ (test 17 short ∷ []))

  pub then_refused : {x : Refusal} → o ≡ Err x → then17 ≡ outcome_answer o
  then_refused {x} p = first-left ts _ (refused_first ts (refused_not o x (first ts) p eo)) ∙ sym eo

  pub then_own : {y : X} → o ≡ Ok y → then17 ≡ first (test 17 short ∷ [])
  then_own p = first-append ts _ (done_none o ts t p eo)

-- the answer with a short `heard` is no 0
pub short-not : {X : Type 0} (o : Result X Refusal) → accepted (then_short true (outcome_answer o)) ≡ false
unfolding then_short first
short-not (Ok y) = refl
short-not {X} (Err x) = let e = refused_not {X = X} (Err x) x _ refl refl in rw e e

-- a count that is below a bound
pub count_below : {m n : ℕ} (o : Result ℕ Refusal) → IfOk o (λ k. k ≡ m) → m < n → IfOk o (λ k. k < n)
count_below (Ok k) e h = rw e h
count_below (Err x) e h = tt

-- ---- a short record or line state, and neither

module _ (rec state : List ℕ) (a : Answer) where
  pub frame-short : (ltb (length rec) record_length || ltb (length state) state_length) ≡ true → frame_answer rec state a ≡ bare 16
  unfolding frame_answer first
  frame-short = go (ltb (length rec) record_length) (ltb (length state) state_length) refl refl
    where
      go : (x y : Bool) → ltb (length rec) record_length ≡ x → ltb (length state) state_length ≡ y → (x || y) ≡ true
          → frame_answer rec state a ≡ bare 16
      go true y e f t = rw e
      go false true e f t = rw (e, f)
      go false false e f t = absurd (true≢false (sym t))

  pub frame-long : (ltb (length rec) record_length || ltb (length state) state_length) ≡ false → frame_answer rec state a ≡ a
  unfolding frame_answer first
  frame-long h = let p = or-none (ltb (length rec) record_length) (ltb (length state) state_length) h in rw (p.0, p.1)

-- where neither is short, both are long enough
pub both_long : (rec state : ℕ) → (ltb rec record_length || ltb state state_length) ≡ false → (record_length ≤ rec) × (state_length ≤ state)
both_long rec state h = let p = or-none _ _ h in (ltb-false _ _ p.0, ltb-false _ _ p.1)
