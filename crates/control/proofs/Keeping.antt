-- Six bits put after those that came before, in two words. Assumes nothing.
use mathlib.Core.Path.{◌≡◌, sym, ap, ap₂, ◌∙◌}
use Prim.Native.Nat.{ℕ, ◌+◌, ◌-◌, ◌*◌, ◌%◌, ◌^◌, ◌≤◌, ◌<◌}
use mathlib.Core.Bool.{Bool, false}
use mathlib.Core.List.{List, ◌++◌}
use native.Mathlib.Decide.{dec_lt}
use native.Mathlib.Nat.{mod-lt}
use native.Mathlib.Omega.{arith}
use lib.ListN.{length, get_or-append}
use lib.Pow.{pow_pos, high, low}
use lib.Seq.{get_or-append-add}
use Rattle.standard.specs.Bits.{bit, bit_at, bits_in, field, bytes_of, nth, bits_of}
use Rattle.standard.proofs.Lists.{get_d_list}
use Rattle.standard.proofs.Bits.{field-bit, bytes_of_ext, length-bits_in, number_of-at}
use Rattle.standard.proofs.Words.{bits-number}
use Rattle.bits.specs.PutField.{bit_with, put_field}
use Rattle.bits.proofs.Bits.{low_bit, down_bit}
use Rattle.bits.proofs.PutField.{bit_with_in, bit_with-below, bit_with-above, put_field-bytes}
use Rattle.control.proofs.Writing.{bit_past, put_twelve}

-- ---- six bits above the n lowest of a word

abbrev with_six : ℕ → ℕ → ℕ → ℕ
with_six w n six = six * 2 ^ n + w % 2 ^ n

six_below : (w n six j : ℕ) → j < n → bit (with_six w n six) j ≡ bit w j
six_below w n six j l =
    sym (low_bit n (with_six w n six) j l) ∙ ap (λ (x : ℕ). bit x j) (low six n (mod-lt w (pow_pos n))) ∙ low_bit n w j l

six_above : (w n six j : ℕ) → n ≤ j → bit (with_six w n six) j ≡ bit six (j - n)
six_above w n six j l =
    let e : n + (j - n) ≡ j = omega arith in
    ap (bit (with_six w n six)) (sym e) ∙ sym (down_bit (with_six w n six) n (j - n))
    ∙ ap (λ (x : ℕ). bit x (j - n)) (high six n (mod-lt w (pow_pos n)))

module _ (s : List ℕ) (p six : ℕ) (small : six < 64) where
  abbrev so_far : ℕ → Bool
  so_far = nth (bits_in p s ++ bits_of 6 six)

  far_below : (n : ℕ) → n < p → so_far n ≡ bit_at s n
  unfolding nth bits_in
  far_below n l = get_or-append (bits_in p s) (bits_of 6 six) false n (rw (length-bits_in p s) l) ∙ get_d_list (bit_at s) false p n l

  far_above : (n : ℕ) → p ≤ n → so_far n ≡ bit six (n - p)
  unfolding nth
  far_above n l =
      let e : p + (n - p) ≡ n = omega arith in
      ap so_far (sym e ∙ ap (λ (k : ℕ). k + (n - p)) (sym (length-bits_in p s)))
      ∙ get_or-append-add (bits_in p s) (bits_of 6 six) (n - p) false
      ∙ sym (number_of-at (bits_of 6 six) (n - p)) ∙ ap (λ (x : ℕ). bit x (n - p)) (bits-number 6 six small)

  -- the word of 64 bits from bit b on, with the six bits in it
  word_at : (b m w n : ℕ) → b + m ≡ p → b ≤ n → n < b + 64 → w ≡ field (bit_at s) b 64 → bit (with_six w m six) (n - b) ≡ so_far n
  word_at b m w n whole ln room e = go (dec_lt n p)
    where
      back : b + (n - b) ≡ n
      back = omega arith

      from : n - b - m ≡ n - p
      from = omega arith

      go : Dec (n < p) → bit (with_six w m six) (n - b) ≡ so_far n
      go (yes l) =
          six_below w m six (n - b) (omega arith) ∙ ap (λ (x : ℕ). bit x (n - b)) e ∙ field-bit (bit_at s) b 64 (n - b) (omega arith)
          ∙ ap (bit_at s) back ∙ sym (far_below n l)
      go (no l) = six_above w m six (n - b) (omega arith) ∙ ap (bit six) from ∙ sym (far_above n (omega arith))

-- ---- the two ways

module _ (s : List ℕ) (done six : ℕ) (long : length s ≡ 12) (small : six < 64) where
  -- before bit 48: the first word has them, and zeros follow it
  pub kept-first : (w x : ℕ) (t u : List ℕ) → 6 * done < 48 → w ≡ field (bit_at s) (8 * 0) 64 → x ≡ with_six w (6 * done) six
      → t ≡ put_field s (8 * 4) 64 0 → u ≡ put_field t (8 * 0) 64 x → u ≡ bytes_of 12 (so_far s (6 * done) six small)
  kept-first w x t u few ew ex et eu =
      let p = 6 * done in
      let zeros = bit_with (bit_at s) 32 64 0 in
      eu ∙ ap₂ (λ (y : List ℕ) (z : ℕ). put_field y 0 64 z) (et ∙ put_twelve s 32 64 0 long) ex
      ∙ put_field-bytes 12 zeros 0 64 (with_six w p six)
      ∙ bytes_of_ext 12 (bit_with zeros 0 64 (with_six w p six)) (so_far s p six small) (λ n l. go n (omega arith) (dec_lt n 64))
    where
      go : (n : ℕ) → n < 96 → Dec (n < 64)
          → bit_with (bit_with (bit_at s) 32 64 0) 0 64 (with_six w (6 * done) six) n ≡ so_far s (6 * done) six small n
      go n l (yes a) =
          bit_with_in (bit_with (bit_at s) 32 64 0) 0 64 (with_six w (6 * done) six) n (omega arith) a
          ∙ word_at s (6 * done) six small 0 (6 * done) w n (omega arith) (omega arith) a ew
      go n l (no a) =
          bit_with-above (bit_with (bit_at s) 32 64 0) 0 64 (with_six w (6 * done) six) n (omega arith)
          ∙ bit_with_in (bit_at s) 32 64 0 n (omega arith) l ∙ bit_past 0 0 (n - 32) (omega arith) (omega arith)
          ∙ sym (far_above s (6 * done) six small n (omega arith) ∙ bit_past 6 six (n - 6 * done) small (omega arith))

  -- from bit 48 on: the last word has them
  pub kept_last : (w x : ℕ) (u : List ℕ) → 48 ≤ 6 * done → w ≡ field (bit_at s) (8 * 4) 64 → x ≡ with_six w (6 * done - 32) six
      → u ≡ put_field s (8 * 4) 64 x → u ≡ bytes_of 12 (so_far s (6 * done) six small)
  kept_last w x u many ew ex eu =
      let y = with_six w (6 * done - 32) six in
      eu ∙ ap (put_field s 32 64) ex ∙ put_twelve s 32 64 y long
      ∙ bytes_of_ext 12 (bit_with (bit_at s) 32 64 y) (so_far s (6 * done) six small) (λ n l. go n (omega arith) (dec_lt n 32))
    where
      go : (n : ℕ) → n < 96 → Dec (n < 32) → bit_with (bit_at s) 32 64 (with_six w (6 * done - 32) six) n ≡ so_far s (6 * done) six small n
      go n l (yes a) =
          bit_with-below (bit_at s) 32 64 (with_six w (6 * done - 32) six) n a ∙ sym (far_below s (6 * done) six small n (omega arith))
      go n l (no a) =
          bit_with_in (bit_at s) 32 64 (with_six w (6 * done - 32) six) n (omega arith) l
          ∙ word_at s (6 * done) six small 32 (6 * done - 32) w n (omega arith) (omega arith) l ew
