-- Fields of bytes read and put by words of 64 bits. Assumes nothing.
use mathlib.Core.Path.{◌≡◌, refl, sym, ap, ap₂, ◌∙◌}
use Prim.Native.Nat.{ℕ, ◌+◌, ◌-◌, ◌*◌, ◌/◌, ◌%◌, ◌^◌, ◌≤◌, ◌<◌}
use mathlib.Core.Bool.{Bool, true, false, ◌||◌}
use mathlib.Core.List.{List}
use native.Mathlib.Nat.{zero-add, mul_comm, add_comm, mul-mod_left, zero-div, div-eq_of_lt, mod-lt, lt_of_lt_of_le}
use native.Mathlib.Decide.{dec_lt}
use native.Mathlib.Omega.{arith}
use borrow.Author.Tests.{ltb-false}
use lib.Bits.{bit_or, bit_xor, or_shifted_r, xor_lt}
use lib.Dec.{ltb}
use lib.ListN.{length, get_or}
use lib.Pow.{pow_pos, pow_mono, shl_exact, shl-shr}
use Rattle.standard.specs.Bits.{◌⊕◌, odd, bit, bit_at, field}
use Rattle.standard.proofs.Lists.{or-none}
use Rattle.standard.proofs.Bits.{field-bit, field_is, field_split}
use Rattle.standard.proofs.Words.{one_shifted}
use Rattle.bits.specs.PutField.{bit_with, word_with, put_field}
use Rattle.bits.proofs.Bits.{low_bit, down_bit, xor-bit, bit_at_byte, bit_at-past}
use Rattle.bits.proofs.PutField.{bit_with_in, bit_with-below, bit_with-above, bit_with_from, put_field_part}

-- the code's test fails: the word is in the bytes, and the field in the word
pub neither : (a b c d : ℕ) → ltb a b || ltb c d ≡ false → (b ≤ a) × (d ≤ c)
neither a b c d e = let q = or-none (ltb a b) (ltb c d) e in (ltb-false a b q.0, ltb-false c d q.1)

-- ---- a word read

-- a byte on top of k bytes, as code joins them
pub byte_joined : (v k b : ℕ) → k < 8 → v < 2 ^ (8 * k) → b < 256 → bit_or v (b * 2 ^ (8 * k) % 2 ^ 64) ≡ b * 2 ^ (8 * k) + v
byte_joined v k b l lv lb = ap (bit_or v) (shl_exact 8 (8 * k) 64 lb (omega arith)) ∙ or_shifted_r b (8 * k) v lv

-- one byte more
pub word_more : (s : List ℕ) (i k v w b : ℕ) → v ≡ field (bit_at s) (8 * i) (8 * k) → b ≡ get_or s (i + k) 0 → w ≡ b * 2 ^ (8 * k) + v
    → b < 256
    → w ≡ field (bit_at s) (8 * i) (8 * (k + 1))
word_more s i k v w b ev eb ew lb =
    let e : 8 * k + 8 ≡ 8 * (k + 1) = omega arith in
    let q : 8 * (i + k) ≡ 8 * i + 8 * k = omega arith in
    let byte : field (bit_at s) (8 * i + 8 * k) 8 ≡ b
    = ap (λ (p : ℕ). field (bit_at s) p 8) (sym q) ∙ field_is (bit_at s) (8 * (i + k)) 8 b
    (λ j h. bit_at_byte s (i + k) j h ∙ ap (λ (x : ℕ). bit x j) (sym eb)) lb in
    ew ∙ add_comm (b * 2 ^ (8 * k)) v ∙ ap₂ ◌+◌ ev (mul_comm b (2 ^ (8 * k)) ∙ ap (λ (x : ℕ). 2 ^ (8 * k) * x) (sym byte))
    ∙ sym (field_split (bit_at s) (8 * i) (8 * k) 8) ∙ ap (field (bit_at s) (8 * i)) e

-- zeros follow the last byte
pub word_last : (s : List ℕ) (i k v : ℕ) → length s ≤ i + k → k ≤ 8 → v ≡ field (bit_at s) (8 * i) (8 * k) → v ≡ field (bit_at s) (8 * i) 64
word_last s i k v h few e =
    let m = 64 - 8 * k in
    let d : 64 ≡ 8 * k + m = omega arith in
    let none : field (bit_at s) (8 * i + 8 * k) m ≡ 0
    = field_is (bit_at s) (8 * i + 8 * k) m 0 (λ j l. bit_at-past s (8 * i + 8 * k + j) (omega arith) ∙ sym (ap odd (zero-div (2 ^ j))))
    (pow_pos m) in
    e ∙ sym (ap (field (bit_at s) (8 * i)) d ∙ field_split (bit_at s) (8 * i) (8 * k) m
    ∙ ap (λ (x : ℕ). field (bit_at s) (8 * i) (8 * k) + 2 ^ (8 * k) * x) none ∙ omega arith)

-- a field in the word
pub word-field : (f : ℕ → Bool) (at width w : ℕ) → at % 8 + width < 64 → w ≡ field f (8 * (at / 8)) 64
    → w / 2 ^ (at % 8) % (1 * 2 ^ width % 2 ^ 64) ≡ field f at width
word-field f at width w h e =
    let x = w / 2 ^ (at % 8) in
    ap (λ (y : ℕ). x % y) (one_shifted width (omega arith))
    ∙ sym (field_is f at width (x % 2 ^ width)
    (λ j l.
    let q : 8 * (at / 8) + (at % 8 + j) ≡ at + j = omega arith in
    sym (low_bit width x j l ∙ down_bit w (at % 8) j ∙ ap (λ (y : ℕ). bit y (at % 8 + j)) e
    ∙ field-bit f (8 * (at / 8)) 64 (at % 8 + j) (omega arith) ∙ ap f q))
    (mod-lt x (pow_pos width)))

-- ---- a field put into a word

-- as code makes it: what differs is put in by XOR
module _ (w p k v : ℕ) (fits : w < 2 ^ 64) (room : p + k < 64) where
  abbrev other : ℕ
  other = bit_xor (w / 2 ^ p) v % 2 ^ k

  abbrev up : ℕ
  up = other * 2 ^ p % 2 ^ 64

  -- its bits from place p on
  up_bit : (j : ℕ) → p ≤ j → j < 64 → bit up j ≡ bit other (j - p)
  up_bit j h l =
      let e : p + (j - p) ≡ j = omega arith in
      low_bit 64 (other * 2 ^ p) j l ∙ ap (bit (other * 2 ^ p)) (sym e) ∙ sym (down_bit (other * 2 ^ p) p (j - p))
      ∙ ap (λ (x : ℕ). bit x (j - p)) (shl-shr other p)

  put-bit : (j : ℕ) → j < 64 → bit_with (bit w) p k v j ≡ bit (bit_xor w up) j
  put-bit j l = go (dec_lt j p) (dec_lt j (p + k)) ∙ sym (xor-bit w up j)
    where
      keep : (b : Bool) → b ⊕ false ≡ b
      keep true = refl
      keep false = refl

      swap : (a b : Bool) → a ⊕ (a ⊕ b) ≡ b
      swap true true = refl
      swap true false = refl
      swap false b = refl

      go : Dec (j < p) → Dec (j < p + k) → bit_with (bit w) p k v j ≡ bit w j ⊕ bit up j
      go (yes a) b =
          bit_with-below (bit w) p k v j a ∙ sym (keep (bit w j))
          ∙ ap (λ (x : Bool). bit w j ⊕ x)
          (sym (low_bit 64 (other * 2 ^ p) j l ∙ sym (low_bit p (other * 2 ^ p) j a)
          ∙ ap (λ (x : ℕ). bit x j) (mul-mod_left other (2 ^ p)) ∙ ap odd (zero-div (2 ^ j))))
      go (no a) (yes b) =
          let e : p + (j - p) ≡ j = omega arith in
          bit_with_in (bit w) p k v j (omega arith) b ∙ sym (swap (bit w j) (bit v (j - p)))
          ∙ ap (λ (x : Bool). bit w j ⊕ x)
          (sym (up_bit j (omega arith) l ∙ low_bit k (bit_xor (w / 2 ^ p) v) (j - p) (omega arith) ∙ xor-bit (w / 2 ^ p) v (j - p)
          ∙ ap (λ (x : Bool). x ⊕ bit v (j - p)) (down_bit w p (j - p) ∙ ap (bit w) e)))
      go (no a) (no b) =
          let none : bit other (j - p) ≡ false = ap odd
          (div-eq_of_lt (lt_of_lt_of_le (mod-lt (bit_xor (w / 2 ^ p) v) (pow_pos k)) (pow_mono (omega arith)))) in
          bit_with-above (bit w) p k v j (omega arith) ∙ sym (keep (bit w j)) ∙ ap (λ (x : Bool). bit w j ⊕ x)
          (sym (up_bit j (omega arith) l ∙ none))

  pub word_with_code : bit_xor w (bit_xor (w / 2 ^ p) v % (1 * 2 ^ k % 2 ^ 64) * 2 ^ p % 2 ^ 64) ≡ word_with w p k v
  unfolding word_with
  word_with_code =
      ap (λ (x : ℕ). bit_xor w (bit_xor (w / 2 ^ p) v % x * 2 ^ p % 2 ^ 64)) (one_shifted k (omega arith))
      ∙ sym (field_is (bit_with (bit w) p k v) 0 64 (bit_xor w up) (λ j l. rw (zero-add j) (put-bit j l))
      (xor_lt 64 w up fits (mod-lt (other * 2 ^ p) (pow_pos 64))))

-- the byte or the word w in which bit `at` is, put back with a field in it
pub put_back : (s t : List ℕ) (at m w x k v : ℕ) → m ≤ 64 → at % 8 + k ≤ m → ((j : ℕ) → j < m → bit w j ≡ bit_at s (8 * (at / 8) + j))
    → x ≡ word_with w (at % 8) k v → t ≡ put_field s (8 * (at / 8)) m x → t ≡ put_field s at k v
unfolding word_with
put_back s t at m w x k v few room old ex et =
    let b = 8 * (at / 8) in
    let p = at % 8 in
    let e : b + p ≡ at = omega arith in
    et
    ∙ put_field_part s b m x p k v room
    (λ j l.
    ap (λ (y : ℕ). bit y j) ex ∙ field-bit (bit_with (bit w) p k v) 0 64 j (omega arith) ∙ ap (bit_with (bit w) p k v) (zero-add j)
    ∙ bit_with_from (bit w) (bit_at s) b p k v j (old j l))
    ∙ ap (λ (n : ℕ). put_field s n k v) e
