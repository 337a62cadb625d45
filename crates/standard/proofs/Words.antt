-- Bits of numbers as code tests and sets them, and a number that grows by a bit at the top. Assumes nothing.
use mathlib.Core.Path.{◌≡◌, refl, sym, ap, ap₂, ◌∙◌}
use Prim.Native.Nat.{ℕ, zero, suc, ◌+◌, ◌*◌, ◌/◌, ◌%◌, ◌^◌, ◌≤◌, ◌<◌}
use mathlib.Core.Bool.{Bool, true, false, not, true≢false, beq}
use mathlib.Core.List.{List, [], ◌∷◌, ◌++◌}
use native.Mathlib.Nat.{not-suc-le-zero, div-one, zero-div, pow-suc, pow-succ', one-mul, mul_comm, mul_assoc}
use native.Mathlib.Numerals.{one-add}
use native.Mathlib.Omega.{arith}
use borrow.Author.Tests.{ne_eqb}
use lib.Bits.{bit_and, bit_or, and_mask, or_shifted_r}
use lib.Dec.{eqb}
use lib.ListN.{length, get_or, take, drop, replicate, length-append}
use lib.Pow.{shl_exact, shr-shr}
use mir.Val.{bool_byte}
use Rattle.standard.specs.Bits.{◌⊕◌, weight, positive, odd, bit, nth, number_of, bits_of}
use Rattle.standard.proofs.Bits.{weight-lt, weight-odd, bit-suc, number_of-lt, bits_back}

-- ---- bits as code has them

pub byte_weight : (b : Bool) → bool_byte b ≡ weight b
byte_weight true = refl
byte_weight false = refl

pub xor-test : (a b : Bool) → not (beq a b) ≡ a ⊕ b
xor-test true true = refl
xor-test true false = refl
xor-test false true = refl
xor-test false false = refl

pub odd-test : (n : ℕ) → eqb (n % 2) 1 ≡ odd n
odd-test n = go (n % 2) (omega arith)
  where
    go : (x : ℕ) → x < 2 → eqb x 1 ≡ positive x
    go zero h = refl
    go (suc zero) h = refl
    go (suc (suc x)) h = absurd (omega arith)

pub positive-test : (n : ℕ) → not (eqb n 0) ≡ positive n
positive-test zero = refl
positive-test (suc n) = ap not (ne_eqb (suc n) 0 (omega arith))

pub positive_pos : (n : ℕ) → positive n ≡ true → 0 < n
positive_pos zero e = absurd (true≢false (sym e))
positive_pos (suc n) e = omega arith

pub pos_positive : (n : ℕ) → 0 < n → positive n ≡ true
pos_positive zero h = absurd (not-suc-le-zero h)
pos_positive (suc n) h = refl

pub low_test : (n : ℕ) → eqb (bit_and n 1) 1 ≡ odd n
low_test n = ap (λ (x : ℕ). eqb x 1) (and_mask n 1) ∙ odd-test n

pub top_bit : (w n : ℕ) (b : Bool) → n < 64 → w < 2 ^ n → bit_or w (bool_byte b * 2 ^ n % 2 ^ 64) ≡ w + weight b * 2 ^ n
top_bit w n b h l =
    ap (λ (x : ℕ). bit_or w (x * 2 ^ n % 2 ^ 64)) (byte_weight b)
    ∙ ap (bit_or w) (shl_exact 1 n 64 (weight-lt b) (omega arith))
    ∙ or_shifted_r (weight b) n w l
    ∙ omega arith

-- a number above six bits
pub above_six : (s n : ℕ) → s < 64 → n < 2 ^ 48 → bit_or s (n * 64 % 2 ^ 64) ≡ s + 64 * n
above_six s n hs hn = ap (bit_or s) (shl_exact 48 6 64 hn (omega arith)) ∙ or_shifted_r n 6 s hs ∙ omega arith

-- 2 to the power k, by a shift
pub one_shifted : (k : ℕ) → k < 64 → 1 * 2 ^ k % 2 ^ 64 ≡ 2 ^ k
one_shifted k h = shl_exact 1 k 64 (omega arith) (omega arith) ∙ one-mul (2 ^ k)

-- ---- one bit more

pub number_append : (a b : List Bool) → number_of (a ++ b) ≡ number_of a + 2 ^ length a * number_of b
unfolding number_of
number_append [] b = omega arith
number_append (x ∷ a) b =
    omega (arith, number_append a b, ap (λ (y : ℕ). y * number_of b) (pow-succ' 2 (length a)) ∙ mul_assoc 2 (2 ^ length a) (number_of b))

number_of_snoc : (bs : List Bool) (b : Bool) → number_of (bs ++ (b ∷ [])) ≡ number_of bs + weight b * 2 ^ length bs
unfolding number_of
number_of_snoc bs b =
    let z : weight b + 2 * 0 ≡ weight b = omega arith in
    number_append bs (b ∷ []) ∙ ap (λ (x : ℕ). number_of bs + 2 ^ length bs * x) z
    ∙ ap (λ (x : ℕ). number_of bs + x) (mul_comm (2 ^ length bs) (weight b))

-- a number that holds the n bits bs
pub record Held (bs : List Bool) (w n : ℕ) : Type 0 where
  pub long : length bs ≡ n
  pub value : w ≡ number_of bs
  pub small : w < 2 ^ n

pub held : (bs : List Bool) (w n : ℕ) → length bs ≡ n → w ≡ number_of bs → Held bs w n
held bs w n l e = record { long = l; value = e; small = rw (e, ← l) (number_of-lt bs) }

pub held_none : Held [] 0 0
unfolding number_of
held_none = held [] 0 0 refl refl

pub held_more : {bs bs' : List Bool} {w w' n : ℕ} (b : Bool) → Held bs w n → w' ≡ w + weight b * 2 ^ n → bs' ≡ bs ++ (b ∷ [])
    → Held bs' w' (n + 1)
held_more {bs} {bs'} {w} {w'} {n} b k e q =
    held bs' w' (n + 1) (ap length q ∙ length-append bs (b ∷ []) ∙ ap (λ (x : ℕ). x + 1) k.long)
    (e ∙ ap₂ (λ (x y : ℕ). x + weight b * 2 ^ y) k.value (sym k.long) ∙ sym (ap number_of q ∙ number_of_snoc bs b))

-- ---- the bits of a number, and the number of bits

-- the half of a number, shifted down
pub half : (x k : ℕ) → x / 2 / 2 ^ k ≡ x / 2 ^ suc k
half x k = shr-shr x 1 k ∙ ap (λ (n : ℕ). x / 2 ^ n) (one-add k)

-- numbers with the same bits below k
pub bits_ext : (k x y : ℕ) → ((j : ℕ) → j < k → bit x j ≡ bit y j) → bits_of k x ≡ bits_of k y
unfolding bits_of
bits_ext zero x y h = refl
bits_ext (suc k) x y h =
    ap₂ ◌∷◌ (ap odd (sym (div-one x)) ∙ h 0 (omega arith) ∙ ap odd (div-one y))
    (bits_ext k (x / 2) (y / 2) (λ j l. sym (bit-suc x j) ∙ h (suc j) (omega arith) ∙ bit-suc y j))

pub bits-take : (k n w : ℕ) → k ≤ n → take k (bits_of n w) ≡ bits_of k w
unfolding bits_of
bits-take zero n w h = refl
bits-take (suc k) zero w h = absurd (not-suc-le-zero h)
bits-take (suc k) (suc n) w h = ap (λ (bs : List Bool). odd w ∷ bs) (bits-take k n (w / 2) (omega arith))

bits_at : (k w i : ℕ) → i < k → get_or (bits_of k w) i false ≡ bit w i
unfolding bits_of
bits_at zero w i h = absurd (not-suc-le-zero h)
bits_at (suc k) w zero h = ap odd (sym (div-one w))
bits_at (suc k) w (suc i) h = bits_at k (w / 2) i (omega arith) ∙ sym (bit-suc w i)

-- bit i of the number that bits form is bit i of them
pub number_bit : (bs : List Bool) (i : ℕ) → i < length bs → bit (number_of bs) i ≡ nth bs i
unfolding nth
number_bit bs i h = sym (bits_at (length bs) (number_of bs) i h) ∙ ap (λ (xs : List Bool). get_or xs i false) (bits_back (length bs) bs refl)

-- its lowest bits are the first of them
pub number-take : (k : ℕ) (bs : List Bool) → k ≤ length bs → bits_of k (number_of bs) ≡ take k bs
number-take k bs h = sym (bits-take k (length bs) (number_of bs) h) ∙ ap (take k) (bits_back (length bs) bs refl)

-- and its higher ones are those that follow
pub number-drop : (k : ℕ) (bs : List Bool) → number_of bs / 2 ^ k ≡ number_of (drop k bs)
unfolding number_of
number-drop zero bs = div-one (number_of bs)
number-drop (suc k) [] = zero-div (2 ^ suc k)
number-drop (suc k) (b ∷ bs) =
    let e : (weight b + 2 * number_of bs) / 2 ≡ number_of bs = omega (arith, weight-lt b) in
    sym (half (weight b + 2 * number_of bs) k) ∙ ap (λ (x : ℕ). x / 2 ^ k) e ∙ number-drop k bs

-- a number of k bits is that of its k lowest bits
pub bits-number : (k n : ℕ) → n < 2 ^ k → number_of (bits_of k n) ≡ n
unfolding bits_of number_of
bits-number zero n h = omega arith
bits-number (suc k) n h = omega (arith, bits-number k (n / 2) (omega (arith, pow-suc 2 k)), weight-odd n)

pub zero_bits : (k : ℕ) → bits_of k 0 ≡ replicate k false
unfolding bits_of
zero_bits zero = refl
zero_bits (suc k) = ap (λ (bs : List Bool). false ∷ bs) (zero_bits k)

pub zero_number : (k : ℕ) → number_of (replicate k false) ≡ 0
unfolding number_of
zero_number zero = refl
zero_number (suc k) = omega (arith, zero_number k)
