-- Laws of bit strings that begin later, and of how two bit strings differ. Assumes nothing.
use mathlib.Core.Path.{◌≡◌, refl, ap, ◌∙◌}
use Prim.Native.Nat.{ℕ, ◌+◌, ◌≤◌}
use mathlib.Core.Bool.{Bool, not, beq}
use native.Mathlib.Numerals.{add-one}
use native.Mathlib.Omega.{arith}
use mir.Val.{bool_byte}
use Rattle.standard.specs.Bits.{◌⊕◌, weight, field}
use Rattle.standard.proofs.Bits.{field_ext, weight-lt}
use Rattle.standard.proofs.Words.{byte_weight, xor-test}
use Rattle.unaligned.specs.Later.{later, differing}

-- a field of a bit string that begins later
pub field-later : {v : ℕ} (f : ℕ → Bool) (at p q k : ℕ) → v ≡ field f p k → p ≡ at + q → v ≡ field (later at f) q k
unfolding later
field-later f at p q k e h = e ∙ field_ext f (later at f) p q k (λ j l. let s : p + j ≡ at + (q + j) = omega arith in ap f s)

-- XOR of two bits, as code has it
xor_byte : (a b : Bool) → bool_byte (not (beq a b)) ≡ weight (a ⊕ b)
xor_byte a b = byte_weight (not (beq a b)) ∙ ap weight (xor-test a b)

-- n of the k bits from bit p on are not the same
pub record Counted (f g : ℕ → Bool) (p n k : ℕ) : Type 0 where
  pub value : n ≡ differing f g p k
  pub few : n ≤ k

pub counted_none : (f g : ℕ → Bool) (p : ℕ) → Counted f g p 0 0
unfolding differing
counted_none f g p = record { value = refl; few = omega arith }

pub counted_more : {f g : ℕ → Bool} {p n k : ℕ} {x y : Bool} → Counted f g p n k → x ≡ f (p + k) → y ≡ g (p + k)
    → Counted f g p (n + bool_byte (not (beq x y))) (k + 1)
unfolding differing
counted_more {f} {g} {p} {n} {k} {x} {y} d a b =
    record {
      value = rw (add-one k, xor_byte x y, a, b, d.value);
      few = omega (arith, xor_byte x y, weight-lt (x ⊕ y));
    }
