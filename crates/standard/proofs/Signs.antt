-- Laws of the differential coding of signs. Assumes nothing.
use mathlib.Core.Path.{◌≡◌, refl, sym, ap, ap₂}
use Prim.Native.Nat.{ℕ, zero, suc, ◌<◌}
use mathlib.Core.Bool.{Bool}
use mathlib.Core.List.{List, [], ◌∷◌, ◌++◌}
use native.Mathlib.Nat.{not-suc-le-zero, suc-ne-zero}
use native.Mathlib.Omega.{arith}
use lib.ListN.{length}
use Rattle.standard.specs.Bits.{◌⊕◌, nth}
use Rattle.standard.specs.Signs.{signs_of, sign_bits}
use Rattle.standard.proofs.Bits.{xor_cancel}

pub length-signs_of : (g : Bool) (ss : List Bool) → length (signs_of g ss) ≡ length ss
unfolding signs_of
length-signs_of g [] = refl
length-signs_of g (s ∷ ss) = ap suc (length-signs_of (s ⊕ g) ss)

pub length-sign_bits : (g : Bool) (ts : List Bool) → length (sign_bits g ts) ≡ length ts
unfolding sign_bits
length-sign_bits g [] = refl
length-sign_bits g (t ∷ ts) = ap suc (length-sign_bits t ts)

pub signs_back : (g : Bool) (ss : List Bool) → sign_bits g (signs_of g ss) ≡ ss
unfolding signs_of sign_bits
signs_back g [] = refl
signs_back g (s ∷ ss) = ap₂ ◌∷◌ (xor_cancel s g) (signs_back (s ⊕ g) ss)

-- the signs of bits that follow others go on from the last of their signs, there and back
pub signs_append : (g : Bool) (a b : List Bool) (n : ℕ) → length a ≡ suc n
    → signs_of g (a ++ b) ≡ signs_of g a ++ signs_of (nth (signs_of g a) n) b
unfolding signs_of nth
signs_append g [] b n e = absurd (suc-ne-zero n (sym e))
signs_append g (s ∷ []) b zero e = refl
signs_append g (s ∷ []) b (suc n) e = absurd (omega arith)
signs_append g (s ∷ r ∷ a) b zero e = absurd (omega arith)
signs_append g (s ∷ r ∷ a) b (suc n) e = ap (λ (x : List Bool). (s ⊕ g) ∷ x) (signs_append (s ⊕ g) (r ∷ a) b n (omega arith))

pub bits-append : (g : Bool) (a b : List Bool) (n : ℕ) → length a ≡ suc n → sign_bits g (a ++ b) ≡ sign_bits g a ++ sign_bits (nth a n) b
unfolding sign_bits nth
bits-append g [] b n e = absurd (suc-ne-zero n (sym e))
bits-append g (t ∷ []) b zero e = refl
bits-append g (t ∷ []) b (suc n) e = absurd (omega arith)
bits-append g (t ∷ r ∷ a) b zero e = absurd (omega arith)
bits-append g (t ∷ r ∷ a) b (suc n) e = ap (λ (x : List Bool). (t ⊕ g) ∷ x) (bits-append t (r ∷ a) b n (omega arith))

-- a receiver whose last sign was g' where the sender's was g may take the first bit wrong, and no other
abbrev pub taken : Bool → Bool → List Bool → List Bool
taken g g' [] = []
taken g g' (s ∷ ss) = (s ⊕ g ⊕ g') ∷ ss

pub signs_taken : (g g' : Bool) (ss : List Bool) → sign_bits g' (signs_of g ss) ≡ taken g g' ss
unfolding signs_of sign_bits
signs_taken g g' [] = refl
signs_taken g g' (s ∷ ss) = ap (λ (r : List Bool). (s ⊕ g ⊕ g') ∷ r) (signs_back (s ⊕ g) ss)

pub taken_same : (g : Bool) (ss : List Bool) → taken g g ss ≡ ss
taken_same g [] = refl
taken_same g (s ∷ ss) = ap (λ (b : Bool). b ∷ ss) (xor_cancel s g)

pub length_taken : (g g' : Bool) (ss : List Bool) → length (taken g g' ss) ≡ length ss
length_taken g g' [] = refl
length_taken g g' (s ∷ ss) = refl

pub taken_append : (g g' : Bool) (a b : List Bool) → zero < length a → taken g g' (a ++ b) ≡ taken g g' a ++ b
taken_append g g' [] b h = absurd (not-suc-le-zero h)
taken_append g g' (s ∷ ss) b h = refl
