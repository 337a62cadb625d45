-- Bits held in a number until they fill a word. Assumes nothing.
use mathlib.Core.Path.{◌≡◌, refl, sym, ap, ap₂, ◌∙◌}
use Prim.Native.Nat.{ℕ, ◌+◌, ◌-◌, ◌*◌, ◌/◌, ◌%◌, ◌^◌, ◌≤◌, ◌<◌}
use mathlib.Core.List.{List}
use native.Mathlib.Nat.{add_comm, mul-mod_left, mod-eq_of_lt, lt_of_lt_of_le}
use native.Mathlib.Decide.{dec_lt}
use native.Mathlib.Omega.{arith}
use borrow.Author.Tests.{lt-ltb, le-ltb}
use lib.Arith.{digits_lt}
use lib.Bits.{bit_or, or_shifted_r}
use lib.ListN.{length, get_or}
use lib.Pow.{pow-add, pow_mono, shl-shr, shr-shr, shr_lt, high, low, mod-pow-add}
use Rattle.standard.specs.Bits.{bit, bytes_for}
use Rattle.bits.specs.PutField.{put_field, Holds, joined, holding, filling, poured}
use Rattle.bits.specs.declared.Pouring.{Pouring}
use Rattle.bits.proofs.Bits.{low_bit}
use Rattle.bits.proofs.PutField.{length-put_field, put_field-none, put_field-same, put_field_step}

-- the bits of h, and those of v above them
module _ (h c v : ℕ) (small : h < 2 ^ c) where
  -- as code joins them in a word
  pub joined_word : c < 64 → bit_or h (v * 2 ^ c % 2 ^ 64) ≡ (v * 2 ^ c + h) % 2 ^ 64
  joined_word few =
      let e : 64 ≡ 64 - c + c = omega arith in
      let part : (x : ℕ) → x % 2 ^ 64 ≡ (x / 2 ^ c % 2 ^ (64 - c)) * 2 ^ c + x % 2 ^ c = λ x. ap (λ (k : ℕ). x % 2 ^ k) e
      ∙ mod-pow-add x (64 - c) c in
      let up : v * 2 ^ c % 2 ^ 64 ≡ v % 2 ^ (64 - c) * 2 ^ c =
      part (v * 2 ^ c) ∙ ap₂ (λ (x y : ℕ). x % 2 ^ (64 - c) * 2 ^ c + y) (shl-shr v c) (mul-mod_left v (2 ^ c)) ∙ omega arith in
      ap (bit_or h) up ∙ or_shifted_r (v % 2 ^ (64 - c)) c h small
      ∙ sym (part (v * 2 ^ c + h) ∙ ap₂ (λ (x y : ℕ). x % 2 ^ (64 - c) * 2 ^ c + y) (high v c small) (low v c small))

  -- put one after the other, or at once
  pub joined-put : (s : List ℕ) (p n : ℕ) → put_field (put_field s p c h) (p + c) n v ≡ put_field s p (c + n) (v * 2 ^ c + h)
  joined-put s p n =
      let t = v * 2 ^ c + h in
      put_field_step s (put_field s p c h) (put_field (put_field s p c h) (p + c) n v) p c n t
      (put_field-same s p c h t (λ j l. ap (λ (x : ℕ). bit x j) (sym (low v c small)) ∙ low_bit c t j l))
      (ap (put_field (put_field s p c h) (p + c) n) (sym (high v c small)))

  -- what is above the word
  pub joined-rest : c ≤ 64 → (v * 2 ^ c + h) / 2 ^ 64 ≡ v / 2 ^ (64 - c)
  joined-rest few =
      let e : 64 ≡ c + (64 - c) = omega arith in
      ap (λ (k : ℕ). (v * 2 ^ c + h) / 2 ^ k) e ∙ sym (shr-shr (v * 2 ^ c + h) c (64 - c))
      ∙ ap (λ (x : ℕ). x / 2 ^ (64 - c)) (high v c small)

  -- all of them
  pub joined-lt : (n : ℕ) → v < 2 ^ n → v * 2 ^ c + h < 2 ^ (c + n)
  joined-lt n l = rw (add_comm c n, pow-add 2 n c) (digits_lt l small)

-- nothing held
pub poured-none : (s : List ℕ) (i : ℕ) → ((j : ℕ) → get_or s j 0 < 256) → poured s (record { to = i; count = 0; held = 0 }) ≡ s
unfolding poured
poured-none s i b = put_field-none s (8 * i) 0 b

pub length-poured : (s : List ℕ) (p : Pouring) → length (poured s p) ≡ length s
unfolding poured
length-poured s p = length-put_field s (8 * p.to) p.count p.held

-- the code's word is put
pub word-filled : (s t : List ℕ) (p : Pouring) (v w : ℕ) → w ≡ joined p v % 2 ^ 64 → t ≡ put_field s (8 * p.to) 64 w
    → t ≡ put_field s (8 * p.to) 64 (joined p v)
word-filled s t p v w ew et =
    let all = joined p v in
    et ∙ put_field-same s (8 * p.to) 64 w all (λ j l. ap (λ (y : ℕ). bit y j) ew ∙ low_bit 64 all j l)

-- n bits of v poured after those that are held: as if they were put
module _ (s : List ℕ) (p : Pouring) (n v : ℕ) (held : Holds p) (small : v < 2 ^ n) (few : n < 64) where
  abbrev all : ℕ
  all = joined p v

  at_once : put_field (poured s p) (8 * p.to + p.count) n v ≡ put_field s (8 * p.to) (p.count + n) all
  unfolding poured
  at_once = joined-put p.held p.count v held.small s (8 * p.to) n

  abbrev Pours : List ℕ → Pouring → Type 0
  Pours t x = Holds x × (8 * x.to + x.count ≡ 8 * p.to + p.count + n) × (poured t x ≡ put_field (poured s p) (8 * p.to + p.count) n v)

  -- they do not fill the word
  pours_few : p.count + n < 64 → Pours s (record { to = p.to; count = p.count + n; held = all % 2 ^ 64 })
  unfolding poured
  pours_few room =
      let lt = joined-lt p.held p.count v held.small n small in
      let same : all % 2 ^ 64 ≡ all = mod-eq_of_lt (lt_of_lt_of_le lt (pow_mono {i = p.count + n} {j = 64} (omega arith))) in
      (record { few = room; small = rw same lt }, omega arith, ap (put_field s (8 * p.to) (p.count + n)) same ∙ sym at_once)

  -- they fill it
  pours_word : 64 ≤ p.count + n → Pours (put_field s (8 * p.to) 64 all)
      (record { to = p.to + 8; count = p.count + n - 64; held = v / 2 ^ (64 - p.count) })
  unfolding poured
  pours_word many =
      let k = p.count + n - 64 in
      let x = v / 2 ^ (64 - p.count) in
      let t = put_field s (8 * p.to) 64 all in
      let place : 8 * (p.to + 8) ≡ 8 * p.to + 64 = omega arith in
      let width : n ≡ k + (64 - p.count) = omega (arith, held.few) in
      let whole : 64 + k ≡ p.count + n = omega arith in (
        record { few = omega (arith, held.few); small = shr_lt k (64 - p.count) (rw (ap (λ (j : ℕ). 2 ^ j) width) at small) },
        omega arith,
        put_field_step s t (put_field t (8 * (p.to + 8)) k x) (8 * p.to) 64 k all refl
            (ap₂ (λ (i y : ℕ). put_field t i k y) place (sym (joined-rest p.held p.count v held.small (omega (arith, held.few)))))
            ∙ ap (λ (j : ℕ). put_field s (8 * p.to) j all) whole ∙ sym at_once,
      )

  pub pours : (t : List ℕ) (x : Pouring) → x ≡ holding p n v → t ≡ filling s p n v → Pours t x
  unfolding holding filling
  pours t x ex et = go (dec_lt (p.count + n) 64)
    where
      go : Dec (p.count + n < 64) → Pours t x
      go (yes l) = rw (ex, et, lt-ltb (p.count + n) 64 l) (pours_few l)
      go (no l) = let many : 64 ≤ p.count + n = omega arith in rw (ex, et, le-ltb (p.count + n) 64 many) (pours_word many)

-- the last bits put, and zeros above them
pub poured-out : (s t : List ℕ) (p : Pouring) → Holds p → t ≡ put_field s (8 * p.to) (8 * bytes_for p.count) p.held
    → t ≡ put_field (poured s p) (8 * p.to + p.count) (8 * bytes_for p.count - p.count) 0
unfolding poured
poured-out s t p held e =
    let n = 8 * bytes_for p.count - p.count in
    let whole : 8 * bytes_for p.count ≡ p.count + n = omega arith in
    e ∙ ap₂ (put_field s (8 * p.to)) whole (omega arith) ∙ sym (joined-put p.held p.count 0 held.small s (8 * p.to) n)
