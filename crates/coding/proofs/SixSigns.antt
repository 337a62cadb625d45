-- Six signs and their sign bits as numbers. Assumes nothing.
use mathlib.Core.Path.{◌≡◌, ap, ◌∙◌}
use Prim.Native.Nat.{ℕ, ◌+◌, ◌*◌, ◌%◌, ◌^◌, ◌<◌}
use mathlib.Core.Bool.{Bool, true, false}
use mathlib.Core.List.{List, [], ◌∷◌, ◌++◌}
use native.Mathlib.Nat.{zero-add}
use native.Mathlib.Numerals.{add-one}
use native.Mathlib.Omega.{arith}
use lib.Bits.{bit_xor}
use lib.Dec.{T, eqb, eqb→eq}
use mir.Val.{bool_byte}
use Rattle.standard.specs.Lists.{list_from}
use Rattle.standard.specs.Bits.{bit, nth, number_of, bits_of}
use Rattle.standard.specs.Signs.{signs_of, sign_bits}
use Rattle.standard.proofs.Lists.{every, every_at, length-list_from, list_from_snoc, get_d_list}
use Rattle.standard.proofs.Bits.{bits_back}
use Rattle.standard.proofs.Words.{bits_ext, number_bit}
use Rattle.bits.proofs.Bits.{low_bit}

-- ---- both codings, as code makes them of six bits

abbrev twice : ℕ → ℕ → ℕ
twice k x = bit_xor x (x * 2 ^ k % 2 ^ 64)

abbrev coded : Bool → ℕ → ℕ
coded g s = twice 4 (twice 2 (twice 1 (bit_xor s (bool_byte g)))) % 64

abbrev back : Bool → ℕ → ℕ
back g s = bit_xor (twice 1 s) (bool_byte g) % 64

-- one computed test each, at every sign before and every six bits
abbrev coded_test : Bool → ℕ → Bool
coded_test g s = eqb (coded g s) (number_of (signs_of g (bits_of 6 s)))

abbrev back_test : Bool → ℕ → Bool
back_test g s = eqb (back g s) (number_of (sign_bits g (bits_of 6 s)))

all_coded : (g : Bool) → T (every (coded_test g) 64)
unfolding number_of signs_of bits_of
all_coded true = tt
all_coded false = tt

all_back : (g : Bool) → T (every (back_test g) 64)
unfolding number_of sign_bits bits_of
all_back true = tt
all_back false = tt

-- six bits of a longer number
six : (w : ℕ) → bits_of 6 (w % 64) ≡ bits_of 6 w
six w = bits_ext 6 (w % 64) w (λ j l. low_bit 6 w j l)

pub coded_is : (g : Bool) (w : ℕ) → coded g (w % 64) ≡ number_of (signs_of g (bits_of 6 w))
coded_is g w = eqb→eq (coded g (w % 64)) (number_of (signs_of g (bits_of 6 (w % 64))))
    (every_at (coded_test g) 64 (all_coded g) (w % 64) (omega arith)) ∙ ap (λ (bs : List Bool). number_of (signs_of g bs)) (six w)

pub back_is : (g : Bool) (w : ℕ) → back g (w % 64) ≡ number_of (sign_bits g (bits_of 6 w))
back_is g w = eqb→eq (back g (w % 64)) (number_of (sign_bits g (bits_of 6 (w % 64))))
    (every_at (back_test g) 64 (all_back g) (w % 64) (omega arith)) ∙ ap (λ (bs : List Bool). number_of (sign_bits g bs)) (six w)

-- ---- signs as a number

-- one more
pub list_more : (f : ℕ → Bool) (i : ℕ) → list_from f 0 (i + 1) ≡ list_from f 0 i ++ (f i ∷ [])
list_more f i = ap (list_from f 0) (add-one i) ∙ list_from_snoc f 0 i ∙ ap (λ (n : ℕ). list_from f 0 i ++ (f n ∷ [])) (zero-add i)

module _ (f : ℕ → Bool) (n : ℕ) (e : n ≡ number_of (list_from f 0 6)) where
  pub signs_are : bits_of 6 n ≡ list_from f 0 6
  signs_are = ap (bits_of 6) e ∙ bits_back 6 (list_from f 0 6) (length-list_from f 0 6)

  pub sign_is : (i : ℕ) → i < 6 → bit n i ≡ f i
  unfolding nth
  sign_is i h = ap (λ (x : ℕ). bit x i) e ∙ number_bit (list_from f 0 6) i (omega (arith, length-list_from f 0 6)) ∙ get_d_list f false 6 i h
