-- The part of a text that begins at a place, and what is past it. Assumes nothing.
use mathlib.Core.Path.{◌≡◌}
use Prim.Native.Nat.{ℕ, suc, ◌+◌, ◌-◌, ◌≤◌}
use mathlib.Core.Bool.{not}
use mathlib.Core.List.{List}
use native.Mathlib.Omega.{arith}
use lib.Dec.{eqb}
use lib.ListN.{length, take, drop, length-drop, length-take}
use lib.Seq.{drop-drop}
use native.Mathlib.Numerals.{add-one}
use Rattle.std.specs.List.{position_or_len}
use Rattle.std.proofs.lemmas.List.Folds.{length-prefix_len}
use Rattle.parts.specs.Parts.{before, past}

-- the first part of text s has n characters
pub record Cut (e : ℕ) (s : List ℕ) (n : ℕ) : Type 0 where
  pub short : n ≤ length s
  pub first : take n s ≡ before e s
  pub rest : drop (suc n) s ≡ past e s

pub cut : (e : ℕ) (s : List ℕ) → Cut e s (length (before e s))
cut e s =
    let n : length (before e s) ≡ position_or_len (λ c. eqb c e) s = length-prefix_len (λ c. not (eqb c e)) s in
    let short : length (before e s) ≤ length s = omega (arith, length-take {A = ℕ}) in
    record { short = short; first = rw n; rest = rw (n, ← add-one) }

-- the part that begins at place a of a text ends at place b
pub record Ends (e : ℕ) (text : List ℕ) (a b : ℕ) : Type 0 where
  pub order : a ≤ b
  pub within : b ≤ length text
  pub first : take (b - a) (drop a text) ≡ before e (drop a text)
  pub rest : drop (b + 1) text ≡ past e (drop a text)

pub ends : {e : ℕ} {text : List ℕ} {a b : ℕ} → a ≤ length text → b ≡ a + length (before e (drop a text)) → Ends e text a b
ends {e} {text} {a} {b} h q =
    let c = cut e (drop a text) in
    let n : b - a ≡ length (before e (drop a text)) = omega arith in
    let m : b + 1 ≡ a + suc (length (before e (drop a text))) = omega arith in
    record {
      order = omega arith;
      within = omega (arith, c.short, length-drop a text);
      first = rw n c.first;
      rest = rw (m, ← drop-drop) c.rest;
    }
