-- A CP that may be there, as code holds it. Assumes nothing.
use mathlib.Core.Path.{◌≡◌, refl, sym, ap, ◌∙◌}
use mathlib.Core.Option.{some, none}
use mathlib.Core.Bool.{Bool, true, false, not, cond, true≢false}
use mathlib.Core.List.{List}
use Prim.Native.Nat.{ℕ, ◌+◌, ◌<◌, ◌≤◌}
use denote.Ref.{Bor}
use borrow.Author.Tests.{lt-ltb, le-ltb}
use Rattle.std.specs.Int.{from_bool}
use Rattle.std.specs.Prelude.{Option, Some, None, Result, Ok, Err, ok_or, is_none}
use Rattle.std.proofs.lemmas.Option.{none-some}
use Rattle.standard.specs.Refusals.{outcome_answer, refusal_answer}
use Rattle.standard.specs.Settings.{there}
use Rattle.standard.specs.declared.Refusal.{Refusal}
use Rattle.laying.specs.Laying.{given}
use Rattle.places.specs.declared.Found.{Found}
use Rattle.places.specs.Finding.{cp_number}
use Rattle.settings.specs.Putting.{number_shown}

-- an option as a result, and back
abbrev okay : {X : Type 0} → Result X Refusal → Option X
okay (Ok x) = Some x
okay (Err e) = None

pub some_of : {X : Type 0} (o : Option X) (e : Refusal) (x : X) → Ok x ≡ ok_or o e → o ≡ Some x
some_of (Some y) e x p = sym (ap okay p)
some_of None e x p = absurd (none-some x (sym (ap okay p)))

pub none_of : {X : Type 0} (o : Option X) (e x : Refusal) → Err x ≡ ok_or o e → (o ≡ None) × (refusal_answer x ≡ refusal_answer e)
none_of (Some y) e x p = absurd (none-some y (ap okay p))
none_of None e x p = (refl, ap outcome_answer p)

pub flip : (x y : Bool) → x ≡ not y → y ≡ not x
flip true true e = absurd (true≢false e)
flip true false e = refl
flip false true e = refl
flip false false e = absurd (true≢false (sym e))

pub none_counts : (o : Option (Bor (List ℕ))) → from_bool (is_none o) ≡ cond (there (given o)) 0 1
unfolding given
none_counts None = refl
none_counts (Some x) = refl

module _ (r : Found) (n : ℕ) where
  pub not-shown : r.upto ≤ r.below + n → given None ≡ number_shown r n
  unfolding given
  not-shown h = sym (ap (λ (b : Bool). cond b (some (cp_number r.entries (r.below + n))) none) (le-ltb (r.below + n) r.upto h))

  pub is-shown : (x : Bor (List ℕ)) → r.below + n < r.upto → x.now ≡ cp_number r.entries (r.below + n) → given (Some x) ≡ number_shown r n
  unfolding given
  is-shown x h e =
      ap some e ∙ sym (ap (λ (b : Bool). cond b (some (cp_number r.entries (r.below + n))) none) (lt-ltb (r.below + n) r.upto h))

-- what is not there, or is
pub gone : (o : Option (Bor (List ℕ))) → o ≡ None → there (given o) ≡ there none
unfolding given
gone o e = rw e

pub kept : (o : Option (Bor (List ℕ))) (x : Bor (List ℕ)) → o ≡ Some x → given o ≡ some x.now
unfolding given
kept o x e = rw e
