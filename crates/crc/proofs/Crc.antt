-- The CRC register, many bits at a time: to take bits is to XOR them into the register and then to take as many zero bits. Assumes nothing.
use mathlib.Core.Path.{◌≡◌, refl, sym, ap, ap₂, ◌∙◌}
use Prim.Native.Nat.{ℕ, zero, suc, ◌+◌, ◌-◌, ◌*◌, ◌/◌, ◌%◌, ◌^◌, ◌≤◌, ◌<◌}
use mathlib.Core.Bool.{Bool, true, false, cond}
use native.Mathlib.Nat.{add-zero, zero-add, suc-add, mul-one, mul_assoc, mul-mod_left, pow-suc, div-one, div-eq_of_lt, mod-lt, mod-le}
use native.Mathlib.Nat.{lt_of_lt_of_le, lt_of_le_of_lt}
use native.Mathlib.Omega.{arith}
use borrow.Author.Tests.{eq-eqb, ne_eqb}
use lib.Bits.{bit_xor, xor_lt, xor_shr, xor_zero_r}
use lib.Dec.{T, eqb, eqb→eq, lit<}
use lib.Pow.{pow_pos, pow_mono, mod-pow-add, shl-shr, shr-shr}
use Rattle.standard.specs.Lists.{list_from, after}
use Rattle.standard.specs.Bits.{◌⊕◌, positive, odd, bit, field, number_of, bits_of}
use Rattle.standard.specs.Crc.{crc_step, crc_over}
use Rattle.standard.specs.Cp.{start_bit}
use Rattle.standard.proofs.Lists.{every, every_at, list_from-append, after-append}
use Rattle.standard.proofs.Bits.{bits-field}
use Rattle.standard.proofs.Words.{half, bits_ext, bits-number}
use Rattle.standard.proofs.Crc.{crc_step-lt, crc_over_skip, crc_over-run}
use Rattle.bits.proofs.Bits.{low_bit, xor-bit}
use Rattle.crc.specs.Crc.{crc_zeros}

-- ---- XOR in either order

bits_swap : (x y z : Bool) → x ⊕ y ⊕ z ≡ x ⊕ z ⊕ y
bits_swap true true true = refl
bits_swap true true false = refl
bits_swap true false true = refl
bits_swap true false false = refl
bits_swap false true true = refl
bits_swap false true false = refl
bits_swap false false true = refl
bits_swap false false false = refl

xors_bit : (a b c j : ℕ) → bit (bit_xor (bit_xor a b) c) j ≡ bit a j ⊕ bit b j ⊕ bit c j
xors_bit a b c j = xor-bit (bit_xor a b) c j ∙ ap (λ (x : Bool). x ⊕ bit c j) (xor-bit a b j)

xor_swap : (n a b c : ℕ) → a < 2 ^ n → b < 2 ^ n → c < 2 ^ n → bit_xor (bit_xor a b) c ≡ bit_xor (bit_xor a c) b
xor_swap n a b c la lb lc =
    let l = bit_xor (bit_xor a b) c in
    let r = bit_xor (bit_xor a c) b in
    sym (bits-number n l (xor_lt n (bit_xor a b) c (xor_lt n a b la lb) lc))
    ∙ ap number_of (bits_ext n l r (λ j h. xors_bit a b c j ∙ bits_swap (bit a j) (bit b j) (bit c j) ∙ sym (xors_bit a c b j)))
    ∙ bits-number n r (xor_lt n (bit_xor a c) b (xor_lt n a c la lc) lb)

-- ---- bits that are XORed in

-- the lowest is taken, and the others are left
step_xor : (r w : ℕ) → r < 2 ^ 16 → w < 2 ^ 16 → crc_step (bit_xor r w) false ≡ bit_xor (crc_step r (odd w)) (w / 2)
unfolding crc_step
step_xor r w lr lw = ap₂ (λ (b : Bool) (x : ℕ). cond b (bit_xor x 0x8408) x) lowest (xor_shr r w 1) ∙ go (odd r ⊕ odd w)
  where
    keep : (b : Bool) → b ⊕ false ≡ b
    keep true = refl
    keep false = refl

    lowest : odd (bit_xor r w) ⊕ false ≡ odd r ⊕ odd w
    lowest = keep (odd (bit_xor r w)) ∙ simp div-one at (xor-bit r w 0)

    go : (b : Bool) → cond b (bit_xor (bit_xor (r / 2) (w / 2)) 0x8408) (bit_xor (r / 2) (w / 2))
        ≡ bit_xor (cond b (bit_xor (r / 2) 0x8408) (r / 2)) (w / 2)
    go true = xor_swap 16 (r / 2) (w / 2) 0x8408 (omega arith) (omega arith) (lit< tt)
    go false = refl

zeros-xor : (n r w : ℕ) → r < 2 ^ 16 → w < 2 ^ 16 → crc_zeros n (bit_xor r w) ≡ bit_xor (after crc_step r (bits_of n w)) (w / 2 ^ n)
unfolding crc_zeros after bits_of
zeros-xor zero r w lr lw = ap (bit_xor r) (sym (div-one w))
zeros-xor (suc n) r w lr lw =
    ap (crc_zeros n) (step_xor r w lr lw) ∙ zeros-xor n (crc_step r (odd w)) (w / 2) (crc_step-lt r (odd w) lr) (omega arith)
    ∙ ap (bit_xor (after crc_step (crc_step r (odd w)) (bits_of n (w / 2)))) (half w n)

-- ---- n bits as code takes them

zeros-add : (m n x : ℕ) → crc_zeros (m + n) x ≡ crc_zeros n (crc_zeros m x)
unfolding crc_zeros
zeros-add zero n x = ap (λ (k : ℕ). crc_zeros k x) (zero-add n)
zeros-add (suc m) n x = ap (λ (k : ℕ). crc_zeros k x) (suc-add m n) ∙ zeros-add m n (crc_step x false)

-- where the lowest bits are zeros, the others move down
step_down : (z x : ℕ) → x ≡ z * 2 → crc_step x false ≡ z
unfolding crc_step
step_down z x e =
    let low : x % 2 ≡ 0 = omega arith in
    let rest : x / 2 ≡ z = omega arith in
    ap₂ (λ (a b : ℕ). cond (positive a ⊕ false) (bit_xor b 0x8408) b) low rest

zeros_down : (m y : ℕ) → crc_zeros m (y * 2 ^ m) ≡ y
unfolding crc_zeros
zeros_down zero y = mul-one y
zeros_down (suc m) y =
    let up : y * 2 ^ suc m ≡ y * 2 ^ m * 2 = ap (λ (x : ℕ). y * x) (pow-suc 2 m) ∙ sym (mul_assoc y (2 ^ m) 2) in
    ap (crc_zeros m) (step_down (y * 2 ^ m) (y * 2 ^ suc m) up) ∙ zeros_down m y

-- the n lowest bits of x, and then x without them
zeros-parts : (n x : ℕ) → x < 2 ^ 16 → bit_xor (crc_zeros n (x % 2 ^ n)) (x / 2 ^ n) ≡ crc_zeros n x
zeros-parts n x l =
    let y = x % 2 ^ n in
    let none : y / 2 ^ n ≡ 0 = div-eq_of_lt (mod-lt x (pow_pos n)) in
    let low : crc_zeros n y ≡ after crc_step 0 (bits_of n x)
    = zeros-xor n 0 y (lit< tt) (lt_of_le_of_lt (mod-le x (2 ^ n)) l) ∙ ap (bit_xor (after crc_step 0 (bits_of n y))) none
    ∙ xor_zero_r (after crc_step 0 (bits_of n y)) ∙ ap (after crc_step 0) (bits_ext n y x (low_bit n x)) in
    ap (λ (z : ℕ). bit_xor z (x / 2 ^ n)) low ∙ sym (zeros-xor n 0 x (lit< tt) l)

shifted_out : (x n k : ℕ) → x * 2 ^ k % 2 ^ (n + k) ≡ x % 2 ^ n * 2 ^ k
shifted_out x n k =
    mod-pow-add (x * 2 ^ k) n k ∙ ap₂ (λ (a b : ℕ). a % 2 ^ n * 2 ^ k + b) (shl-shr x k) (mul-mod_left x (2 ^ k))
    ∙ add-zero (x % 2 ^ n * 2 ^ k)

pub some_taken : (r w n : ℕ) → r < 2 ^ 16 → w < 2 ^ n → 1 ≤ n → n ≤ 16
    → bit_xor (crc_zeros 8 (crc_zeros 8 (bit_xor r w * 2 ^ (16 - n) % 2 ^ 16))) (bit_xor r w / 2 ^ (n - 1) / 2 ^ 1)
    ≡ after crc_step r (bits_of n w)
some_taken r w n lr lw one few =
    let x = bit_xor r w in
    let k = 16 - n in
    let lw' : w < 2 ^ 16 = lt_of_lt_of_le lw (pow_mono few) in
    let whole : 16 ≡ n + k = omega arith in
    let turn : n + k ≡ k + n = omega arith in
    let up : n - 1 + 1 ≡ n = omega arith in
    let none : w / 2 ^ n ≡ 0 = div-eq_of_lt lw in
    let zeros : crc_zeros 8 (crc_zeros 8 (x * 2 ^ k % 2 ^ 16)) ≡ crc_zeros n (x % 2 ^ n)
    = sym (zeros-add 8 8 (x * 2 ^ k % 2 ^ 16)) ∙ ap (λ (m : ℕ). crc_zeros m (x * 2 ^ k % 2 ^ m)) whole
    ∙ ap₂ crc_zeros turn (shifted_out x n k) ∙ zeros-add k n (x % 2 ^ n * 2 ^ k) ∙ ap (crc_zeros n) (zeros_down k (x % 2 ^ n)) in
    ap₂ bit_xor zeros (shr-shr x (n - 1) 1 ∙ ap (λ (m : ℕ). x / 2 ^ m) up) ∙ zeros-parts n x (xor_lt 16 r w lr lw') ∙ zeros-xor n r w lr lw'
    ∙ ap (bit_xor (after crc_step r (bits_of n w))) none ∙ xor_zero_r (after crc_step r (bits_of n w))

-- ---- eight zero bits as code makes them

abbrev mixed : ℕ → ℕ
mixed u = bit_xor u (u * 2 ^ 4 % 2 ^ 16) % 256

abbrev eight : ℕ → ℕ
eight u = bit_xor (bit_xor (mixed u * 2 ^ 8 % 2 ^ 16) (mixed u * 2 ^ 3 % 2 ^ 16)) (mixed u / 2 ^ 4)

-- the one computed test, at every low byte
abbrev same : ℕ → Bool
same u = eqb (eight u) (after crc_step 0 (bits_of 8 u))

all_same : T (every same 256)
unfolding crc_step after bits_of
all_same = tt

pub zeros_eight : (x : ℕ) → x < 2 ^ 16 → bit_xor (eight (x % 256)) (x / 2 ^ 8) ≡ crc_zeros 8 x
zeros_eight x l =
    let low = x % 2 ^ 8 in
    let e : eight low ≡ after crc_step 0 (bits_of 8 x)
    = eqb→eq (eight low) (after crc_step 0 (bits_of 8 low)) (every_at same 256 all_same low (omega arith))
    ∙ ap (after crc_step 0) (bits_ext 8 low x (low_bit 8 x)) in
    ap (λ (y : ℕ). bit_xor y (x / 2 ^ 8)) e ∙ sym (zeros-xor 8 0 x (lit< tt) l)

-- ---- bits of a buffer

module _ (f : ℕ → Bool) where
  -- n bits more
  pub crc_more : (r₀ at done n r r' w : ℕ) → r ≡ after crc_step r₀ (list_from f at done) → w ≡ field f (at + done) n
      → r' ≡ after crc_step r (bits_of n w) → r' ≡ after crc_step r₀ (list_from f at (done + n))
  crc_more r₀ at done n r r' w e ew e' =
      e' ∙ ap₂ (after crc_step) e (ap (bits_of n) ew ∙ bits-field f (at + done) n)
      ∙ sym (ap (after crc_step r₀) (list_from-append f at done n) ∙ after-append crc_step r₀ (list_from f at done) (list_from f (at + done) n))

  -- a CP's word more, and the start bit after it
  pub crc_word : (i r r' : ℕ) → r ≡ crc_over start_bit f 18 (17 * i) → r' ≡ after crc_step r (list_from f (18 + 17 * i) 16)
      → r' ≡ crc_over start_bit f 18 (17 * (i + 1))
  crc_word i r r' e e' =
      let next : 17 * i + 16 + 1 ≡ 17 * (i + 1) = omega arith in
      e' ∙ ap (λ (x : ℕ). after crc_step x (list_from f (18 + 17 * i) 16)) e
      ∙ sym (crc_over-run start_bit f 18 (17 * i) 16 (λ j l. ne_eqb ((18 + 17 * i + j) % 17) 0 (omega arith)))
      ∙ sym (crc_over_skip start_bit f 18 (17 * i + 16) (eq-eqb ((18 + (17 * i + 16)) % 17) 0 (omega arith)))
      ∙ ap (crc_over start_bit f 18) next
