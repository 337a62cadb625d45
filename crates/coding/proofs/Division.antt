-- The labels of a number, by products with reciprocals and in two halves. Assumes nothing.
use mathlib.Core.Path.{◌≡◌, refl, sym, ap, ◌∙◌}
use mathlib.Core.Logic.{◌⊎◌, inl, inr}
use Prim.Native.Nat.{ℕ, zero, suc, ◌+◌, ◌*◌, ◌/◌, ◌%◌, ◌^◌, ◌≤◌, ◌<◌}
use mathlib.Core.List.{List, [], ◌∷◌}
use native.Mathlib.Nat.{mul_comm, mul_assoc, suc-mul, mul-pos, mul-le-mul, mul-le-mul_left, mul-le-mul_right, lt_of_lt_of_le}
use native.Mathlib.Nat.{eq-zero-or-pos, not-suc-le-zero}
use native.Mathlib.Nat.{mod-lt, div-mul-le_self, div-le_self, div-div-eq-div-mul, div-lt_iff_lt-mul, lt-div-mul-add}
use native.Mathlib.Numerals.{add-one}
use native.Mathlib.Decide.{dec_lt}
use native.Mathlib.Omega.{arith}
use lib.Arith.{digits_div, digits_mod, mod-mul}
use lib.ListN.{length, get_or}
use Rattle.standard.specs.Lists.{list_from}
use Rattle.standard.specs.Modulus.{product, labels}
use Rattle.standard.proofs.Lists.{get_d_list, list_from_is}
use Rattle.standard.proofs.Modulus.{product-zero}
use Rattle.coding.specs.Reciprocals.{reciprocal, reciprocal_of}

-- ---- a quotient by a reciprocal

-- v times M is 2 ^ 28, or little more
pub record Inverse (M v : ℕ) : Type 0 where
  pub enough : 2 ^ 28 ≤ v * M
  pub near : v * M ≤ 2 ^ 28 + 127
  pub small : v ≤ 2 ^ 28

pub inverse : (M v : ℕ) → 0 < M → M ≤ 128 → v ≡ reciprocal M → Inverse M v
unfolding reciprocal
inverse zero v pos few e = absurd (not-suc-le-zero pos)
inverse (suc k) v pos few e =
    let x = 0xfffffff / suc k in
    let grown : v * suc k ≡ x * suc k + suc k = ap (λ (y : ℕ). y * suc k) (e ∙ add-one x) ∙ suc-mul x (suc k) in
    let below = div-mul-le_self 0xfffffff (suc k) in
    let above = lt-div-mul-add {a = 0xfffffff} pos in
    record { enough = omega arith; near = omega arith; small = omega (arith, div-le_self 0xfffffff (suc k)) }

pub quotient : (n M v : ℕ) → n < 2 ^ 21 → 0 < M → Inverse M v → n * v / 2 ^ 28 ≡ n / M
quotient n M v small pos i =
    let q = n / M in
    let low : q * 2 ^ 28 ≤ n * v =
    let a = mul-le-mul_left q i.enough in
    let b = mul-le-mul_right v (div-mul-le_self n M) in
    let e : q * (v * M) ≡ q * M * v = ap (λ (x : ℕ). q * x) (mul_comm v M) ∙ sym (mul_assoc q M v) in
    omega arith in
    omega (arith, low, high (dec_lt (n * v) (q * 2 ^ 28 + 2 ^ 28)))
  where
    high : Dec (n * v < n / M * 2 ^ 28 + 2 ^ 28) → n * v < n / M * 2 ^ 28 + 2 ^ 28
    high (yes l) = l
    high (no h) =
        let x = n / M * 2 ^ 28 + 2 ^ 28 in
        let over : x * M ≤ n * v * M = mul-le-mul_right M (omega arith) in
        let near : n * (v * M) ≤ n * (2 ^ 28 + 127) = mul-le-mul_left n i.near in
        let whole : x * M ≡ (n / M * M + M) * 2 ^ 28 = spread (n / M) in
        absurd (omega (arith, lt-div-mul-add {a = n} pos, mul_assoc n v M))
      where
        spread : (q : ℕ) → (q * 2 ^ 28 + 2 ^ 28) * M ≡ (q * M + M) * 2 ^ 28
        spread q =
            ap (λ (y : ℕ). y * M) (sym (suc-mul q (2 ^ 28))) ∙ mul_assoc (suc q) (2 ^ 28) M
            ∙ ap (λ (y : ℕ). suc q * y) (mul_comm (2 ^ 28) M)
            ∙ sym (mul_assoc (suc q) M (2 ^ 28)) ∙ ap (λ (y : ℕ). y * 2 ^ 28) (suc-mul q M)

-- what is left is no larger
pub left-small : (n M q : ℕ) → n < 2 ^ 21 → q ≡ n / M → q < 2 ^ 21
left-small n M q h e = omega (arith, div-le_self n M)

-- ---- six labels, in two halves

module _ (a b c d e f R : ℕ) (pa : 0 < a) (pb : 0 < b) (pc : 0 < c) where
  abbrev three : ℕ
  three = a * b * c

  abbrev r : ℕ
  r = R % three

  abbrev q : ℕ
  q = R / three

  first : r ≡ R / a % (c * b) * a + R % a
  first =
      let e : three ≡ c * b * a = mul_assoc a b c ∙ mul_comm a (b * c) ∙ ap (λ (x : ℕ). x * a) (mul_comm b c) in
      ap (λ (x : ℕ). R % x) e ∙ mod-mul R (mul-pos pc pb) pa

  left : r / a ≡ R / a / b % c * b + R / a % b
  left = ap (λ (x : ℕ). x / a) first ∙ digits_div (R / a % (c * b)) (mod-lt R pa) ∙ mod-mul (R / a) pc pb

  halves : q ≡ R / a / b / c
  halves = sym (ap (λ (x : ℕ). x / c) (div-div-eq-div-mul R a b) ∙ div-div-eq-div-mul R (a * b) c)

  pub two_halves : r % a ∷ r / a % b ∷ r / a / b ∷ q % d ∷ q / d % e ∷ q / d / e ∷ [] ≡ labels (a ∷ b ∷ c ∷ d ∷ e ∷ f ∷ []) R
  unfolding labels
  two_halves =
      let x0 : r % a ≡ R % a = ap (λ (x : ℕ). x % a) first ∙ digits_mod (R / a % (c * b)) (mod-lt R pa) in
      let x1 : r / a % b ≡ R / a % b = ap (λ (x : ℕ). x % b) left ∙ digits_mod (R / a / b % c) (mod-lt (R / a) pb) in
      let x2 : r / a / b ≡ R / a / b % c = ap (λ (x : ℕ). x / b) left ∙ digits_div (R / a / b % c) (mod-lt (R / a) pb) in
      rw (x0, x1, x2, halves)

-- the sizes Ms of a frame and its number R, as the modulus encoder has them

abbrev pub three_of : List ℕ → ℕ
three_of Ms = get_or Ms 0 0 * get_or Ms 1 0 * get_or Ms 2 0

pub record Sized (Ms : List ℕ) (R : ℕ) : Type 0 where
  pub long : length Ms ≡ 6
  pub positive : (i : ℕ) → i < 6 → 0 < get_or Ms i 0
  pub few : (i : ℕ) → get_or Ms i 0 ≤ 128
  pub pair : get_or Ms 0 0 * get_or Ms 1 0 ≤ 2 ^ 14
  pub three : three_of Ms ≤ 2 ^ 21
  pub some : 0 < three_of Ms
  pub low : R % three_of Ms < 2 ^ 21
  pub high : R / three_of Ms < 2 ^ 21

module _ (Ms : List ℕ) (R : ℕ) where
  abbrev M : ℕ → ℕ
  M i = get_or Ms i 0

  apart : length Ms ≡ 6 → Ms ≡ M 0 ∷ M 1 ∷ M 2 ∷ M 3 ∷ M 4 ∷ M 5 ∷ []
  unfolding list_from
  apart six = list_from_is M 0 6 Ms six (λ k h. refl)

  pub sized : length Ms ≡ 6 → ((i : ℕ) → M i ≤ 128) → R < product Ms → Sized Ms R
  unfolding product
  sized six few below =
      let some = mul-pos (mul-pos (positive 0 (omega arith)) (positive 1 (omega arith))) (positive 2 (omega arith)) in
      let e : product Ms ≡ M 3 * M 4 * M 5 * three_of Ms = ap product (apart six) ∙ regroup (M 0) (M 1) (M 2) (M 3) (M 4) (M 5) in
      record {
        long = six;
        positive = positive;
        few = few;
        pair = mul-le-mul (few 0) (few 1);
        three = at_most 0 1 2;
        some = some;
        low = lt_of_lt_of_le (mod-lt R some) (at_most 0 1 2);
        high = lt_of_lt_of_le ((div-lt_iff_lt-mul some).1 (rw e at below)) (at_most 3 4 5);
      }
    where
      positive : (i : ℕ) → i < 6 → 0 < M i
      positive i h = go (eq-zero-or-pos (M i))
        where
          go : (M i ≡ 0) ⊎ (0 < M i) → 0 < M i
          go (inl e) = absurd (omega (arith, product-zero Ms i (omega arith) e))
          go (inr p) = p

      at_most : (i j k : ℕ) → M i * M j * M k ≤ 2 ^ 21
      at_most i j k = mul-le-mul (mul-le-mul (few i) (few j)) (few k)

      regroup : (a b c d e f : ℕ) → a * (b * (c * (d * (e * (f * 1))))) ≡ d * e * f * (a * b * c)
      regroup a b c d e f =
          let x : d * (e * (f * 1)) ≡ d * e * f = ap (λ (y : ℕ). d * (e * y)) (omega arith) ∙ sym (mul_assoc d e f) in
          ap (λ (y : ℕ). a * (b * (c * y))) x ∙ sym (mul_assoc a b (c * (d * e * f))) ∙ sym (mul_assoc (a * b) c (d * e * f))
          ∙ mul_comm (a * b * c) (d * e * f)

  -- a number m can be divided by size i
  pub by_size : (vs : List ℕ) → Sized Ms R → vs ≡ list_from (reciprocal_of Ms) 0 6 → (i : ℕ) → i < 6 → (m : ℕ) → m < 2 ^ 21
      → (m < 2 ^ 21) × (0 < M i) × (M i ≤ 128) × (get_or vs i 0 ≡ reciprocal (M i))
  by_size vs s e i h m l = (l, s.positive i h, s.few i, ap (λ (xs : List ℕ). get_or xs i 0) e ∙ get_d_list (reciprocal_of Ms) 0 6 i h)

  pub six_labels : (x0 x1 x2 x3 x4 x5 q0 q3 : ℕ) → Sized Ms R → (x0 ≡ R % three_of Ms % M 0) × (q0 ≡ R % three_of Ms / M 0) → (x1 ≡ q0 % M 1)
      × (x2 ≡ q0 / M 1)
      → (x3 ≡ R / three_of Ms % M 3) × (q3 ≡ R / three_of Ms / M 3) → (x4 ≡ q3 % M 4) × (x5 ≡ q3 / M 4)
      → x0 ∷ x1 ∷ x2 ∷ x3 ∷ x4 ∷ x5 ∷ [] ≡ labels Ms R
  six_labels x0 x1 x2 x3 x4 x5 q0 q3 s a b c d =
      rw (a.0, b.0, b.1, a.1, c.0, d.0, d.1, c.1)
      (two_halves (M 0) (M 1) (M 2) (M 3) (M 4) (M 5) R (s.positive 0 (omega arith)) (s.positive 1 (omega arith))
      (s.positive 2 (omega arith))
      ∙ ap (λ (xs : List ℕ). labels xs R) (sym (apart s.long)))
