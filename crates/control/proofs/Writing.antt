-- The fields of a sequence, put one after the other, are the sequence. Assumes nothing.
use mathlib.Core.Path.{◌≡◌, refl, sym, ap, ap₂, ◌∙◌}
use Prim.Native.Nat.{ℕ, ◌+◌, ◌-◌, ◌/◌, ◌%◌, ◌^◌, ◌≤◌, ◌<◌}
use mathlib.Core.Bool.{Bool, false}
use mathlib.Core.List.{List}
use native.Mathlib.Nat.{div-eq_of_lt, lt_of_lt_of_le}
use native.Mathlib.Decide.{dec_lt}
use native.Mathlib.Omega.{arith}
use lib.ListN.{length}
use lib.Pow.{pow_mono}
use Rattle.standard.specs.Lists.{list_from, after}
use Rattle.standard.specs.Bits.{odd, bit, bit_at, bytes_of}
use Rattle.standard.specs.Crc.{crc_step, crc_over}
use Rattle.standard.specs.Cp.{bit_in}
use Rattle.standard.specs.Control.{sequence_body, sequence_crc, sequence_bit, sequence_bytes}
use Rattle.standard.proofs.Bits.{bytes_of_ext, bit_at-own}
use Rattle.standard.proofs.Crc.{none, crc_over-lt, crc_over_ext, crc_over-run}
use Rattle.standard.proofs.Control.{pattern_number, pattern_at, order_at, gap_at, secondary_at, check_at, fill-at, body_at}
use Rattle.bits.specs.PutField.{bit_with, put_field}
use Rattle.bits.proofs.Bits.{low_bit}
use Rattle.bits.proofs.PutField.{bit_with_in, bit_with-below, put_field-bytes}

-- ---- the CRC

-- no bit is skipped
pub crc_is : (f : ℕ → Bool) → after crc_step 0xffff (list_from f 16 62) ≡ sequence_crc f
unfolding sequence_crc crc_over
crc_is f = sym (crc_over-run none f 16 0 62 (λ j l. refl))

crc_lt : (f : ℕ → Bool) → sequence_crc f < 2 ^ 16
unfolding sequence_crc
crc_lt f = crc_over-lt none f 16 62

crc_ext : (f g : ℕ → Bool) → ((n : ℕ) → n < 78 → f n ≡ g n) → sequence_crc f ≡ sequence_crc g
unfolding sequence_crc
crc_ext f g h = crc_over_ext none f g 16 62 (λ j l. h (16 + j) (omega arith))

-- ---- bits

-- bits above a number's are zeros
pub bit_past : (k x j : ℕ) → x < 2 ^ k → k ≤ j → bit x j ≡ false
bit_past k x j h l = ap odd (div-eq_of_lt (lt_of_lt_of_le h (pow_mono l)))

-- a field put into twelve bytes
pub put_twelve : (s : List ℕ) (p k v : ℕ) → length s ≡ 12 → put_field s p k v ≡ bytes_of 12 (bit_with (bit_at s) p k v)
unfolding put_field
put_twelve s p k v h = ap (λ (m : ℕ). bytes_of m (bit_with (bit_at s) p k v)) h

module _ (f : ℕ → Bool) (w : ℕ) where
  abbrev patterned : ℕ → Bool
  patterned = bit_with f 0 16 0x5fee

  abbrev ordered : ℕ → Bool
  ordered = bit_with patterned 16 8 (w % 4)

  -- the fields before the CRC, over the bits of f
  abbrev body : ℕ → Bool
  body = bit_with ordered 24 54 (w / 4)

  before_crc : (n : ℕ) → n < 78 → body n ≡ sequence_bit w n
  before_crc n h = go (dec_lt n 16) (dec_lt n 18) (dec_lt n 24)
    where
      below : n < 24 → body n ≡ ordered n
      below l = bit_with-below ordered 24 54 (w / 4) n l

      order : 16 ≤ n → n < 24 → body n ≡ bit (w % 4) (n - 16)
      order a b = below b ∙ bit_with_in patterned 16 8 (w % 4) n a b

      go : Dec (n < 16) → Dec (n < 18) → Dec (n < 24) → body n ≡ sequence_bit w n
      go (yes a) b c =
          let z : n - 0 ≡ n = omega arith in
          below (omega arith) ∙ bit_with-below patterned 16 8 (w % 4) n a ∙ bit_with_in f 0 16 0x5fee n (omega arith) a
          ∙ ap₂ bit (sym pattern_number) z ∙ sym (pattern_at w n a)
      go (no a) (yes b) c =
          order (omega arith) (omega arith) ∙ low_bit 2 w (n - 16) (omega arith) ∙ sym (order_at w n (omega arith) b)
      go (no a) (no b) (yes c) =
          order (omega arith) c ∙ bit_past 2 (w % 4) (n - 16) (omega arith) (omega arith) ∙ sym (gap_at w n (omega arith) c)
      go (no a) (no b) (no c) = bit_with_in ordered 24 54 (w / 4) n (omega arith) h ∙ sym (secondary_at w n (omega arith) h)

  whole : (x n : ℕ) → x ≡ sequence_crc (bit_in (sequence_body w)) → n < 96 → bit_with body 78 18 x n ≡ sequence_bit w n
  whole x n e h = go (dec_lt n 78) (dec_lt n 94)
    where
      go : Dec (n < 78) → Dec (n < 94) → bit_with body 78 18 x n ≡ sequence_bit w n
      go (yes a) b = bit_with-below body 78 18 x n a ∙ before_crc n a
      go (no a) (yes b) =
          bit_with_in body 78 18 x n (omega arith) h ∙ ap (λ (y : ℕ). bit y (n - 78)) e ∙ sym (check_at w n (omega arith) b)
      go (no a) (no b) =
          bit_with_in body 78 18 x n (omega arith) h ∙ bit_past 16 x (n - 78) (rw e (crc_lt (bit_in (sequence_body w)))) (omega arith)
          ∙ sym (fill-at w n (omega arith))

-- the steps of the writer: pattern, orders, secondary channel, CRC
pub sequence-put : (w x : ℕ) (s s₁ s₂ s₃ s₄ : List ℕ) → length s ≡ 12 → s₁ ≡ put_field s 0 16 0x5fee → s₂ ≡ put_field s₁ 16 8 (w % 4)
    → s₃ ≡ put_field s₂ 24 54 (w / 4) → x ≡ sequence_crc (bit_at s₃) → s₄ ≡ put_field s₃ 78 18 x → s₄ ≡ sequence_bytes w
unfolding sequence_bytes
sequence-put w x s s₁ s₂ s₃ s₄ h e₁ e₂ e₃ ex e₄ =
    let f = bit_at s in
    let g = body f w in
    let more : (t u : List ℕ) (b : ℕ → Bool) (p k v : ℕ) → t ≡ bytes_of 12 b → u ≡ put_field t p k v → u ≡ bytes_of 12 (bit_with b p k v)
    = λ t u b p k v et eu. eu ∙ ap (λ (y : List ℕ). put_field y p k v) et ∙ put_field-bytes 12 b p k v in
    let one = e₁ ∙ put_twelve s 0 16 0x5fee h in
    let two = more s₁ s₂ (patterned f w) 16 8 (w % 4) one e₂ in
    let three = more s₂ s₃ (ordered f w) 24 54 (w / 4) two e₃ in
    let crc : x ≡ sequence_crc (bit_in (sequence_body w))
    = ex ∙ crc_ext (bit_at s₃) (bit_in (sequence_body w))
    (λ n l. ap (λ (t : List ℕ). bit_at t n) three ∙ bit_at-own 12 g n (omega arith) ∙ before_crc f w n l ∙ body_at w n l) in
    more s₃ s₄ g 78 18 x three e₄ ∙ bytes_of_ext 12 (bit_with g 78 18 x) (sequence_bit w) (λ n l. whole f w x n crc (omega arith))
