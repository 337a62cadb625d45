-- The bits on the line as one number: the past first, and then the bits to come. One bit more is a shift by one. Assumes nothing.
use mathlib.Core.Path.{◌≡◌, refl, sym, ap, ap₂, ◌∙◌}
use Prim.Native.Nat.{ℕ, zero, suc, ◌+◌, ◌-◌, ◌*◌, ◌%◌, ◌/◌, ◌^◌, ◌≤◌, ◌<◌}
use mathlib.Core.Bool.{Bool, true, false}
use mathlib.Core.List.{List, [], ◌∷◌, ◌++◌}
use native.Mathlib.Nat.{zero-add, suc-add, add_comm, mul_comm, div-one, mod-lt}
use native.Mathlib.Omega.{arith}
use lib.Bits.{bit_or, bit_xor, xor_shr, or_shifted_r}
use lib.ListN.{length}
use lib.Pow.{pow_pos, shl_exact, shr-shr, mod-pow-add, mod-mod-pow, field as pow-field, high as pow-high, low as pow_low}
use Rattle.standard.specs.Bits.{◌⊕◌, weight, positive, odd, bit, field, number_of, bits_of}
use Rattle.standard.specs.Scrambler.{taps, push, push_all, scramble, descramble}
use Rattle.standard.proofs.Bits.{xor_cancel, weight-lt, odd-weight, weight-odd, bit-suc, field_lt, field-bit, field_ext, field_is}
use Rattle.standard.proofs.Bits.{number_of-lt, length-bits_of, bits_back, field_split}
use Rattle.standard.proofs.Scrambler.{length-scramble, scramble-append, push_all-append, push_all-lt}
use Rattle.standard.proofs.Words.{half, bits_ext, number_append, bits-number}
use Rattle.bits.proofs.Bits.{low_bit, down_bit, xor-bit}
use Rattle.coding.specs.Past.{in_time, turned, Scrambled}

-- ---- bits of numbers, as lists

bits_split : (m n d : ℕ) → bits_of (m + n) d ≡ bits_of m d ++ bits_of n (d / 2 ^ m)
unfolding bits_of
bits_split zero n d = ap₂ bits_of (zero-add n) (sym (div-one d))
bits_split (suc m) n d =
    ap (λ (k : ℕ). bits_of k d) (suc-add m n)
    ∙ ap (λ (bs : List Bool). odd d ∷ bs) (bits_split m n (d / 2) ∙ ap (λ (x : ℕ). bits_of m (d / 2) ++ bits_of n x) (half d m))

-- ---- the past

turned_bit : (h j : ℕ) → j < 23 → bit (turned h) j ≡ bit h (22 - j)
unfolding turned
turned_bit h j l = field-bit (in_time h) 0 23 j l ∙ ap (in_time h) (zero-add j)

pub turned_lt : (h : ℕ) → turned h < 2 ^ 23
unfolding turned
turned_lt h = field_lt (in_time h) 0 23

-- turned twice it is the history
pub turned-back : (h : ℕ) → h < 2 ^ 23 → turned (turned h) ≡ h
unfolding turned
turned-back h l =
    field_is (in_time (turned h)) 0 23 h
    (λ j q.
    let e : 22 - (22 - j) ≡ j = omega arith in
    ap (in_time (turned h)) (zero-add j) ∙ turned_bit h (22 - j) (omega arith) ∙ ap (bit h) e) l

turned-push : (h : ℕ) (s : Bool) → turned (push h s) ≡ turned h / 2 + 2 ^ 22 * weight s
unfolding turned field push
turned-push h s =
    let n = 2 * h + weight s in
    let o : n % 2 ≡ weight s % 2 = omega arith in
    let d : n / 2 ≡ h = omega (arith, weight-lt s) in
    let last : bit (n % 2 ^ 23) 0 ≡ s = low_bit 23 n 0 (omega arith) ∙ ap odd (div-one n) ∙ ap positive o ∙ odd-weight s in
    let low : field (in_time (n % 2 ^ 23)) 0 22 ≡ field (in_time h) 1 22 =
    field_ext (in_time (n % 2 ^ 23)) (in_time h) 0 1 22
    (λ j l.
    let a : 22 - (0 + j) ≡ suc (21 - j) = omega arith in
    let b : 21 - j ≡ 22 - (1 + j) = omega arith in
    ap (bit (n % 2 ^ 23)) a ∙ low_bit 23 n (suc (21 - j)) (omega arith) ∙ bit-suc n (21 - j) ∙ ap₂ bit d b) in
    omega (arith, field_split (in_time (n % 2 ^ 23)) 0 22 1, low, ap weight last, weight-lt (in_time h 0))

-- ---- the stream

-- the past of h, and then the bits of w
abbrev stream : ℕ → ℕ → ℕ
stream h w = turned h + 2 ^ 23 * w

stream_bit : (h w j : ℕ) → j < 23 → bit (stream h w) j ≡ bit (turned h) j
stream_bit h w j l =
    let e : stream h w % 2 ^ 23 ≡ turned h = omega (arith, turned_lt h) in
    sym (low_bit 23 (stream h w) j l) ∙ ap (λ (x : ℕ). bit x j) e

stream_next : (h w : ℕ) → stream (push h (odd w)) (w / 2) ≡ stream h w / 2
stream_next h w = omega (arith, turned-push h (odd w), weight-odd w)

stream_after : (k h w : ℕ) → stream (push_all h (bits_of k w)) (w / 2 ^ k) ≡ stream h w / 2 ^ k
unfolding bits_of push_all
stream_after zero h w = ap (stream h) (div-one w) ∙ sym (div-one (stream h w))
stream_after (suc k) h w =
    ap (stream (push_all (push h (odd w)) (bits_of k (w / 2)))) (sym (half w k)) ∙ stream_after k (push h (odd w)) (w / 2)
    ∙ ap (λ (x : ℕ). x / 2 ^ k) (stream_next h w) ∙ half (stream h w) k

-- the past after k bits
turned-after : (k h w : ℕ) → turned (push_all h (bits_of k w)) ≡ stream h w / 2 ^ k % 2 ^ 23
turned-after k h w =
    let g = push_all h (bits_of k w) in
    let e : turned g ≡ stream g (w / 2 ^ k) % 2 ^ 23 = omega (arith, turned_lt g) in
    e ∙ ap (λ (x : ℕ). x % 2 ^ 23) (stream_after k h w)

-- ---- the taps

-- bits w with the bits of a that the taps reach
abbrev pub mix : ℕ → ℕ → ℕ
mix w a = bit_xor (bit_xor w (a / 2 ^ 5)) a

mix_bit : (w a j : ℕ) → bit (mix w a) j ≡ bit w j ⊕ (bit a (5 + j) ⊕ bit a j)
mix_bit w a j = xor-bit (bit_xor w (a / 2 ^ 5)) a j ∙ ap (λ (b : Bool). b ⊕ bit a j)
    (xor-bit w (a / 2 ^ 5) j ∙ ap (λ (b : Bool). bit w j ⊕ b) (down_bit a 5 j)) ∙ assoc (bit w j) (bit a (5 + j)) (bit a j)
  where
    assoc : (x y z : Bool) → x ⊕ y ⊕ z ≡ x ⊕ (y ⊕ z)
    assoc true true true = refl
    assoc true true false = refl
    assoc true false z = refl
    assoc false y z = refl

mix_half : (w a : ℕ) → mix w a / 2 ≡ mix (w / 2) (a / 2)
mix_half w a =
    let e : a / 2 ^ 5 / 2 ≡ a / 2 / 2 ^ 5 = omega arith in
    xor_shr (bit_xor w (a / 2 ^ 5)) a 1 ∙ ap (λ (x : ℕ). bit_xor x (a / 2)) (xor_shr w (a / 2 ^ 5) 1 ∙ ap (bit_xor (w / 2)) e)

mix_odd : (h w : ℕ) → odd (mix w (stream h w)) ≡ odd w ⊕ taps h
unfolding taps
mix_odd h w =
    let a = stream h w in
    let at : (j : ℕ) → j < 23 → bit a j ≡ bit h (22 - j) = λ j l. stream_bit h w j l ∙ turned_bit h j l in
    ap odd (sym (div-one (mix w a))) ∙ mix_bit w a 0 ∙ ap₂ ◌⊕◌ (ap odd (div-one w)) (ap₂ ◌⊕◌ (at 5 (omega arith)) (at 0 (omega arith)))

descramble_mix : (k h w : ℕ) → descramble h (bits_of k w) ≡ bits_of k (mix w (stream h w))
unfolding bits_of descramble
descramble_mix zero h w = refl
descramble_mix (suc k) h w =
    ap₂ ◌∷◌ (sym (mix_odd h w))
    (descramble_mix k (push h (odd w)) (w / 2) ∙ ap (λ (x : ℕ). bits_of k (mix (w / 2) x)) (stream_next h w)
    ∙ ap (bits_of k) (sym (mix_half w (stream h w))))

scramble-descramble : (h : ℕ) (ss : List Bool) → scramble h (descramble h ss) ≡ ss
unfolding scramble descramble
scramble-descramble h [] = refl
scramble-descramble h (s ∷ ss) = rw (xor_cancel s (taps h)) (ap (λ (r : List Bool). s ∷ r) (scramble-descramble (push h s) ss))

-- up to 18 bits depend on the past alone
scramble_mix : (n h d : ℕ) → n ≤ 18 → scramble h (bits_of n d) ≡ bits_of n (mix d (turned h) % 2 ^ n)
scramble_mix n h d few =
    let p = turned h in
    let w = mix d p % 2 ^ n in
    let same : (j : ℕ) → j < n → bit (mix w (stream h w)) j ≡ bit d j =
    λ j l.
    mix_bit w (stream h w) j
    ∙ ap₂ ◌⊕◌ (low_bit n (mix d p) j l ∙ mix_bit d p j) (ap₂ ◌⊕◌ (stream_bit h w (5 + j) (omega arith)) (stream_bit h w j (omega arith)))
    ∙ xor_cancel (bit d j) (bit p (5 + j) ⊕ bit p j) in
    ap (scramble h) (sym (descramble_mix n h w ∙ bits_ext n (mix w (stream h w)) d same)) ∙ scramble-descramble h (bits_of n w)

-- ---- as code makes them

-- 23 bits of a word
in_word : (x n : ℕ) → n ≤ 41 → x % 2 ^ 64 / 2 ^ n % 2 ^ 23 ≡ x / 2 ^ n % 2 ^ 23
in_word x n few =
    let e : 64 ≡ 41 - n + 23 + n = omega arith in
    ap (λ (k : ℕ). x % 2 ^ k / 2 ^ n % 2 ^ 23) e ∙ ap (λ (y : ℕ). y % 2 ^ 23) (pow-field x (41 - n + 23) n)
    ∙ mod-mod-pow (x / 2 ^ n) (41 - n) 23

module _ (p w : ℕ) (low : p < 2 ^ 23) where
  abbrev all : ℕ
  all = bit_or p (w * 2 ^ 23 % 2 ^ 64)

  -- the stream in 64 bits
  all_is : all ≡ stream (turned p) w % 2 ^ 64
  all_is =
      let a : w * 2 ^ 23 % 2 ^ 64 ≡ w % 2 ^ 41 * 2 ^ 23 = mod-pow-add (w * 2 ^ 23) 41 23 ∙ omega arith in
      let q : stream (turned p) w ≡ p + 2 ^ 23 * w = ap (λ (x : ℕ). x + 2 ^ 23 * w) (turned-back p low) in
      let b : stream (turned p) w / 2 ^ 23 ≡ w = omega arith in
      let c : stream (turned p) w % 2 ^ 23 ≡ p = omega arith in
      ap (bit_or p) a ∙ or_shifted_r (w % 2 ^ 41) 23 p low
      ∙ sym (mod-pow-add (stream (turned p) w) 41 23 ∙ ap₂ (λ (x y : ℕ). x % 2 ^ 41 * 2 ^ 23 + y) b c)

  pub descrambled : (n : ℕ) → n ≤ 48 → mix w all % 2 ^ n ≡ number_of (descramble (turned p) (bits_of n w))
  descrambled n few =
      let a = stream (turned p) w in
      let v = mix w all in
      let at : (j : ℕ) → j < 64 → bit all j ≡ bit a j = λ j l. ap (λ (x : ℕ). bit x j) all_is ∙ low_bit 64 a j l in
      sym (bits-number n (v % 2 ^ n) (mod-lt v (pow_pos n)))
      ∙ ap number_of (bits_ext n (v % 2 ^ n) (mix w a)
      (λ j l.
      low_bit n v j l ∙ mix_bit w all j ∙ ap (λ (b : Bool). bit w j ⊕ b) (ap₂ ◌⊕◌ (at (5 + j) (omega arith)) (at j (omega arith)))
      ∙ sym (mix_bit w a j)) ∙ sym (descramble_mix n (turned p) w))

  -- the past after n bits of the 64
  pub after_some : (n : ℕ) → n ≤ 41 → all / 2 ^ n % 2 ^ 23 ≡ turned (push_all (turned p) (bits_of n w))
  after_some n few =
      let a = stream (turned p) w in
      ap (λ (x : ℕ). x / 2 ^ n % 2 ^ 23) all_is ∙ in_word a n few ∙ sym (turned-after n (turned p) w)

  -- and after 14 bits or more, which leave nine bits of the past at most
  pub after_frame : (n : ℕ) → 14 ≤ n → n ≤ 48 → bit_or (p / 2 ^ 14) (w * 2 ^ 9 % 2 ^ 64) / 2 ^ (n - 14) % 2 ^ 23
      ≡ turned (push_all (turned p) (bits_of n w))
  after_frame n many few =
      let a = stream (turned p) w in
      let q : a ≡ p + 2 ^ 23 * w = ap (λ (x : ℕ). x + 2 ^ 23 * w) (turned-back p low) in
      let up : w * 2 ^ 9 % 2 ^ 64 ≡ w % 2 ^ 55 * 2 ^ 9 = omega arith in
      let few-left : p / 2 ^ 14 < 2 ^ 9 = omega arith in
      let high : a / 2 ^ 14 ≡ w * 2 ^ 9 + p / 2 ^ 14 = omega arith in
      let cut : a / 2 ^ 14 % 2 ^ 64 ≡ w % 2 ^ 55 * 2 ^ 9 + p / 2 ^ 14
      = ap (λ (x : ℕ). x % 2 ^ 64) high ∙ mod-pow-add (w * 2 ^ 9 + p / 2 ^ 14) 55 9
      ∙ ap₂ (λ (x y : ℕ). x % 2 ^ 55 * 2 ^ 9 + y) (pow-high w 9 few-left) (pow_low w 9 few-left) in
      let e : 14 + (n - 14) ≡ n = omega arith in
      ap (λ (x : ℕ). x / 2 ^ (n - 14) % 2 ^ 23) (ap (bit_or (p / 2 ^ 14)) up ∙ or_shifted_r (w % 2 ^ 55) 9 (p / 2 ^ 14) few-left ∙ sym cut)
      ∙ in_word (a / 2 ^ 14) (n - 14) (omega arith) ∙ ap (λ (x : ℕ). x % 2 ^ 23) (shr-shr a 14 (n - 14) ∙ ap (λ (k : ℕ). a / 2 ^ k) e)
      ∙ sym (turned-after n (turned p) w)

pub scrambled : (p d n w q : ℕ) → p < 2 ^ 23 → n ≤ 18 → w ≡ mix d p % 2 ^ n → q ≡ turned (push_all (turned p) (bits_of n w))
    → Scrambled p d n w q
scrambled p d n w q l few ew eq =
    let list : bits_of n w ≡ scramble (turned p) (bits_of n d)
    = ap (bits_of n) (ew ∙ ap (λ (x : ℕ). mix d x % 2 ^ n) (sym (turned-back p l))) ∙ sym (scramble_mix n (turned p) d few) in
    let small : w < 2 ^ n = rw ew (mod-lt (mix d p) (pow_pos n)) in
    record {
      out = sym (bits-number n w small) ∙ ap number_of list;
      left = eq ∙ ap
          (λ (ss : List Bool). turned (push_all (turned p) ss)) list;
    }

-- ---- two parts, joined

pub scrambled_lt : {p d n w q : ℕ} → Scrambled p d n w q → (w < 2 ^ n) × (q < 2 ^ 23)
scrambled_lt {p} {d} {n} r =
    let ss = scramble (turned p) (bits_of n d) in
    let long : length ss ≡ n = length-scramble (turned p) (bits_of n d) ∙ length-bits_of n d in
    (rw r.out (rw long at (number_of-lt ss)), rw r.left (turned_lt (push_all (turned p) ss)))

pub scrambled_join : (p d m n k v w q r : ℕ) → m + n ≡ k → k ≤ 64 → Scrambled p d m v q → Scrambled q (d / 2 ^ m) n w r
    → Scrambled p d k (bit_or v (w * 2 ^ m % 2 ^ 64)) r
scrambled_join p d m n k v w q r e fits a b =
    let h = turned p in
    let one = scramble h (bits_of m d) in
    let g = push_all h one in
    let two = scramble g (bits_of n (d / 2 ^ m)) in
    let back : turned q ≡ g = ap turned a.left ∙ turned-back g (push_all-lt h one (turned_lt p)) in
    let whole : one ++ two ≡ scramble h (bits_of k d)
    = sym (scramble-append h (bits_of m d) (bits_of n (d / 2 ^ m))) ∙ ap (scramble h)
    (sym (bits_split m n d) ∙ ap (λ (j : ℕ). bits_of j d) e) in
    let long : length one ≡ m = length-scramble h (bits_of m d) ∙ length-bits_of m d in
    record {
      out =
          ap (bit_or v) (shl_exact n m 64 (scrambled_lt b).0 (omega arith)) ∙ or_shifted_r w m v (scrambled_lt a).0
          ∙ add_comm (w * 2 ^ m) v
          ∙ ap₂ ◌+◌ a.out
          (mul_comm w (2 ^ m) ∙ ap₂ (λ (j x : ℕ). 2 ^ j * x) (sym long)
          (b.out ∙ ap (λ (x : ℕ). number_of (scramble x (bits_of n (d / 2 ^ m)))) back))
          ∙ sym (number_append one two) ∙ ap number_of whole;
      left =
          b.left ∙ ap (λ (x : ℕ). turned (push_all x (scramble x (bits_of n (d / 2 ^ m))))) back
          ∙ ap turned (sym (push_all-append h one two) ∙ ap (push_all h) whole);
    }

-- ---- a frame's bits, the first n of m

pub scrambled_first : (p d n m v cut q l : ℕ) → n ≤ m → Scrambled p d m v q → cut ≡ 2 ^ n
    → l ≡ turned (push_all (turned p) (bits_of n (v % cut))) → Scrambled p d n (v % cut) l
scrambled_first p d n m v cut q l few r ec el =
    let h = turned p in
    let one = scramble h (bits_of n d) in
    let two = scramble (push_all h one) (bits_of (m - n) (d / 2 ^ n)) in
    let long : length one ≡ n = length-scramble h (bits_of n d) ∙ length-bits_of n d in
    let e : n + (m - n) ≡ m = omega arith in
    let whole : scramble h (bits_of m d) ≡ one ++ two
    = ap (scramble h) (ap (λ (j : ℕ). bits_of j d) (sym e) ∙ bits_split n (m - n) d)
    ∙ scramble-append h (bits_of n d) (bits_of (m - n) (d / 2 ^ n)) in
    let value : v ≡ number_of two * 2 ^ n + number_of one
    = r.out ∙ ap number_of whole ∙ number_append one two ∙ ap (λ (j : ℕ). number_of one + 2 ^ j * number_of two) long
    ∙ add_comm (number_of one) (2 ^ n * number_of two) ∙ ap (λ (x : ℕ). x + number_of one) (mul_comm (2 ^ n) (number_of two)) in
    let out : v % cut ≡ number_of one = ap₂ ◌%◌ value ec ∙ pow_low (number_of two) n (rw long at (number_of-lt one)) in
    record { out = out; left = el ∙ ap (λ (bs : List Bool). turned (push_all h bs)) (ap (bits_of n) out ∙ bits_back n one long) }

-- ---- seen from the history h, into which the bits bs went

pub from_past : (h q : ℕ) (bs : List Bool) → h < 2 ^ 23 → q ≡ turned (push_all h bs) → turned q ≡ push_all h bs
from_past h q bs l e = ap turned e ∙ turned-back (push_all h bs) (push_all-lt h bs l)
