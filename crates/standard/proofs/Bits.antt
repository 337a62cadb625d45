-- Laws of bits, numbers and bytes. Assumes nothing.
use mathlib.Core.Path.{◌≡◌, refl, sym, ap, ap₂, ◌∙◌}
use Prim.Native.Nat.{ℕ, zero, suc, ◌+◌, ◌*◌, ◌/◌, ◌%◌, ◌^◌, ◌≤◌, ◌<◌, suc-le-suc}
use mathlib.Core.Bool.{Bool, true, false}
use mathlib.Core.List.{List, [], ◌∷◌, ◌++◌, append-nil}
use native.Mathlib.Nat.{add-zero, zero-add, add-suc, suc-add, mul_assoc, pow-suc, mod-one, div-one, mod-eq_of_lt, zero-div, not-suc-le-zero}
use native.Mathlib.Nat.{zero-lt-suc, le_of_suc-le-suc, suc-ne-zero, suc_inj}
use native.Mathlib.Numerals.{add-one, one-add}
use native.Mathlib.Omega.{arith}
use lib.Dec.{lit<}
use lib.ListN.{length, get_or, take, get_or-append}
use lib.Pow.{shr-shr, mod-pow-add}
use lib.Seq.{get_or-take, length-take-le, ext_get_or}
use Rattle.standard.specs.Lists.{list_from}
use Rattle.standard.specs.Bits.{◌⊕◌, weight, positive, odd, bit, bit_at, bits_in, field, bytes_of, nth, number_of, bits_of}
use Rattle.standard.proofs.Lists.{length-list_from, get_d_list_from, get_d_list, list_from_is, list_from_ext}

-- ---- bits of numbers

pub xor_cancel : (a b : Bool) → a ⊕ b ⊕ b ≡ a
xor_cancel true true = refl
xor_cancel true false = refl
xor_cancel false true = refl
xor_cancel false false = refl

pub weight-lt : (b : Bool) → weight b < 2
weight-lt true = omega arith
weight-lt false = omega arith

pub odd-weight : (b : Bool) → odd (weight b) ≡ b
odd-weight true = refl
odd-weight false = refl

-- a remainder by 2 is the weight of the lowest bit
pub weight-odd : (n : ℕ) → weight (odd n) ≡ n % 2
weight-odd n = go (n % 2) (omega arith)
  where
    go : (x : ℕ) → x < 2 → weight (positive x) ≡ x
    go zero h = refl
    go (suc zero) h = refl
    go (suc (suc x)) h = absurd (omega arith)

odd_digit : (b : Bool) (n : ℕ) → odd (weight b + 2 * n) ≡ b
odd_digit true n = let e : (1 + 2 * n) % 2 ≡ 1 = omega arith in rw e
odd_digit false n = let e : (0 + 2 * n) % 2 ≡ 0 = omega arith in rw e

half_digit : (b : Bool) (n : ℕ) → (weight b + 2 * n) / 2 ≡ n
half_digit b n = omega (arith, weight-lt b)

-- the half of a number has its higher bits
pub bit-suc : (w n : ℕ) → bit w (suc n) ≡ bit (w / 2) n
bit-suc w n = ap (λ (k : ℕ). odd (w / 2 ^ k)) (sym (one-add n)) ∙ ap odd (sym (shr-shr w 1 n))

-- ---- fields

pub field_lt : (f : ℕ → Bool) (p k : ℕ) → field f p k < 2 ^ k
unfolding field
field_lt f p zero = lit< tt
field_lt f p (suc k) = rw (pow-suc 2 k) (omega (arith, weight-lt (f p), field_lt f (suc p) k))

pub field-bit : (f : ℕ → Bool) (p k j : ℕ) → j < k → bit (field f p k) j ≡ f (p + j)
unfolding field
field-bit f p zero j h = absurd (not-suc-le-zero h)
field-bit f p (suc k) zero h =
    ap odd (div-one (weight (f p) + 2 * field f (suc p) k)) ∙ odd_digit (f p) (field f (suc p) k) ∙ ap f (sym (add-zero p))
field-bit f p (suc k) (suc j) h =
    bit-suc (weight (f p) + 2 * field f (suc p) k) j ∙ ap (λ (x : ℕ). bit x j) (half_digit (f p) (field f (suc p) k))
    ∙ field-bit f (suc p) k j (le_of_suc-le-suc h) ∙ ap f (suc-add p j ∙ sym (add-suc p j))

pub field_ext : (f g : ℕ → Bool) (p q k : ℕ) → ((j : ℕ) → j < k → f (p + j) ≡ g (q + j)) → field f p k ≡ field g q k
unfolding field
field_ext f g p q zero e = refl
field_ext f g p q (suc k) e =
    ap₂ (λ (a : Bool) (b : ℕ). weight a + 2 * b) (ap f (sym (add-zero p)) ∙ e zero (zero-lt-suc k) ∙ ap g (add-zero q))
    (field_ext f g (suc p) (suc q) k (λ j h. ap f (suc-add p j ∙ sym (add-suc p j)) ∙ e (suc j) (suc-le-suc h)
    ∙ ap g (add-suc q j ∙ sym (suc-add q j))))

-- a field in two parts
pub field_split : (f : ℕ → Bool) (p a b : ℕ) → field f p (a + b) ≡ field f p a + 2 ^ a * field f (p + a) b
unfolding field
field_split f p zero b =
    let e : 0 + 2 ^ 0 * field f (p + 0) b ≡ field f (p + 0) b = omega arith in
    ap (field f p) (zero-add b) ∙ ap (λ (q : ℕ). field f q b) (sym (add-zero p)) ∙ sym e
field_split f p (suc a) b =
    let e : 2 ^ suc a * field f (p + suc a) b ≡ 2 * (2 ^ a * field f (suc p + a) b)
    = ap₂ (λ (x q : ℕ). x * field f q b) (pow-suc 2 a) (add-suc p a ∙ sym (suc-add p a))
    ∙ omega (arith, mul_assoc (2 ^ a) 2 (field f (suc p + a) b), mul_assoc 2 (2 ^ a) (field f (suc p + a) b)) in
    ap (field f p) (suc-add a b) ∙ omega (arith, field_split f (suc p) a b, e)

-- the bits of a number from place p on
pub field-number : (w p k : ℕ) → field (bit w) p k ≡ w / 2 ^ p % 2 ^ k
unfolding field
field-number w p zero = sym (mod-one (w / 2 ^ p))
field-number w p (suc k) =
    ap₂ (λ (x y : ℕ). x + 2 * y) (weight-odd (w / 2 ^ p)) (field-number w (suc p) k)
    ∙ ap (λ (x : ℕ). w / 2 ^ p % 2 + 2 * (x % 2 ^ k)) (ap (λ (n : ℕ). w / 2 ^ n) (sym (add-one p)) ∙ sym (shr-shr w p 1))
    ∙ swap (w / 2 ^ p % 2) (w / 2 ^ p / 2 % 2 ^ k)
    ∙ sym (mod-pow-add (w / 2 ^ p) k 1)
    ∙ ap (λ (n : ℕ). w / 2 ^ p % 2 ^ n) (add-one k)
  where
    swap : (a b : ℕ) → a + 2 * b ≡ b * 2 + a
    swap a b = omega arith

-- a field whose bits are those of a number that has no more is that number
pub field_is : (f : ℕ → Bool) (p k w : ℕ) → ((j : ℕ) → j < k → f (p + j) ≡ bit w j) → w < 2 ^ k → field f p k ≡ w
field_is f p k w e h =
    field_ext f (bit w) p 0 k (λ j l. e j l ∙ ap (bit w) (sym (zero-add j)))
    ∙ field-number w 0 k ∙ ap (λ (x : ℕ). x % 2 ^ k) (div-one w) ∙ mod-eq_of_lt h

-- ---- bytes

pub length-bytes_of : (n : ℕ) (f : ℕ → Bool) → length (bytes_of n f) ≡ n
unfolding bytes_of
length-bytes_of n f = length-list_from (λ k. field f (8 * k) 8) 0 n

pub bytes_of_ext : (n : ℕ) (f g : ℕ → Bool) → ((p : ℕ) → p < 8 * n → f p ≡ g p) → bytes_of n f ≡ bytes_of n g
unfolding bytes_of
bytes_of_ext n f g h =
    list_from_ext (λ k. field f (8 * k) 8) (λ k. field g (8 * k) 8) n
    (λ k b. field_ext f g (8 * k) (8 * k) 8 (λ j l. h (8 * k + j) (omega arith)))

-- the bits of the bytes of a bit string are its own
pub bit_at-bytes : (n : ℕ) (f : ℕ → Bool) (t : List ℕ) (p : ℕ) → p < 8 * n → bit_at (bytes_of n f ++ t) p ≡ f p
unfolding bit_at bytes_of
bit_at-bytes n f t p h =
    let k : p / 8 < n = omega arith in
    let e : 8 * (p / 8) + p % 8 ≡ p = omega arith in
    let q : p / 8 < length (bytes_of n f) = omega (arith, length-bytes_of n f) in
    ap (λ (x : ℕ). bit x (p % 8)) (get_or-append (bytes_of n f) t 0 (p / 8) q ∙ get_d_list (λ k. field f (8 * k) 8) 0 n (p / 8) k)
    ∙ field-bit f (8 * (p / 8)) 8 (p % 8) (omega arith) ∙ ap f e

pub bit_at-own : (n : ℕ) (f : ℕ → Bool) (p : ℕ) → p < 8 * n → bit_at (bytes_of n f) p ≡ f p
bit_at-own n f p h = ap (λ (t : List ℕ). bit_at t p) (sym (append-nil (bytes_of n f))) ∙ bit_at-bytes n f [] p h

-- the bytes of the bits of bytes are these
pub bytes_back : (n : ℕ) (s : List ℕ) → ((i : ℕ) → get_or s i 0 < 256) → n ≤ length s → bytes_of n (bit_at s) ≡ take n s
unfolding bytes_of bit_at
bytes_back n s b h =
    sym (list_from_is (λ k. field (bit_at s) (8 * k) 8) 0 n (take n s) (length-take-le n s h) (λ k l. get_or-take n s k 0 l ∙ sym (byte k)))
  where
    byte : (k : ℕ) → field (bit_at s) (8 * k) 8 ≡ get_or s k 0
    byte k =
        field_is (bit_at s) (8 * k) 8 (get_or s k 0)
        (λ j l.
        let d : (8 * k + j) / 8 ≡ k = omega arith in
        let m : (8 * k + j) % 8 ≡ j = omega arith in
        ap₂ (λ (x y : ℕ). bit (get_or s x 0) y) d m)
        (b k)

-- ---- lists of bits

pub length-bits_in : (n : ℕ) (s : List ℕ) → length (bits_in n s) ≡ n
unfolding bits_in
length-bits_in n s = length-list_from (bit_at s) 0 n

-- bits that were written into bytes are read from them
pub bits_written : (k n : ℕ) (bs : List Bool) (t : List ℕ) → length bs ≡ k → k ≤ 8 * n → bits_in k (bytes_of n (nth bs) ++ t) ≡ bs
unfolding bits_in nth
bits_written k n bs t e h =
    sym (list_from_is (bit_at (bytes_of n (nth bs) ++ t)) false k bs e (λ p l. sym (bit_at-bytes n (nth bs) t p (omega arith))))

pub number_of-lt : (bs : List Bool) → number_of bs < 2 ^ length bs
unfolding number_of
number_of-lt [] = omega arith
number_of-lt (b ∷ bs) = omega (arith, pow-suc 2 (length bs), number_of-lt bs, weight-lt b)

pub length-bits_of : (k n : ℕ) → length (bits_of k n) ≡ k
unfolding bits_of
length-bits_of zero n = refl
length-bits_of (suc k) n = ap suc (length-bits_of k (n / 2))

-- bit i of each
pub bits_of-at : (k n i : ℕ) → i < k → nth (bits_of k n) i ≡ bit n i
unfolding bits_of nth
bits_of-at zero n i h = absurd (not-suc-le-zero h)
bits_of-at (suc k) n zero h = ap odd (sym (div-one n))
bits_of-at (suc k) n (suc i) h = bits_of-at k (n / 2) i (le_of_suc-le-suc h) ∙ sym (bit-suc n i)

pub number_of-at : (bs : List Bool) (i : ℕ) → bit (number_of bs) i ≡ nth bs i
unfolding number_of nth
number_of-at [] i = ap odd (zero-div (2 ^ i))
number_of-at (b ∷ bs) zero = ap odd (div-one (weight b + 2 * number_of bs)) ∙ odd_digit b (number_of bs)
number_of-at (b ∷ bs) (suc i) =
    bit-suc (weight b + 2 * number_of bs) i ∙ ap (λ (x : ℕ). bit x i) (half_digit b (number_of bs)) ∙ number_of-at bs i

-- the bits of a field, as a list
pub bits-field : (f : ℕ → Bool) (p k : ℕ) → bits_of k (field f p k) ≡ list_from f p k
unfolding nth
bits-field f p k =
    ext_get_or false (bits_of k (field f p k)) (list_from f p k) (length-bits_of k (field f p k) ∙ sym (length-list_from f p k))
    (λ i h. let l : i < k = rw (length-bits_of k (field f p k)) at h in bits_of-at k (field f p k) i l ∙ field-bit f p k i l
    ∙ sym (get_d_list_from f false p k i l))

-- the bits of the number that bits form
pub bits_back : (k : ℕ) (bs : List Bool) → length bs ≡ k → bits_of k (number_of bs) ≡ bs
unfolding bits_of number_of
bits_back zero [] e = refl
bits_back zero (b ∷ bs) e = absurd (suc-ne-zero (length bs) e)
bits_back (suc k) [] e = absurd (suc-ne-zero k (sym e))
bits_back (suc k) (b ∷ bs) e = ap₂ ◌∷◌ (odd_digit b (number_of bs)) (ap (bits_of k) (half_digit b (number_of bs)) ∙ bits_back k bs (suc_inj e))
