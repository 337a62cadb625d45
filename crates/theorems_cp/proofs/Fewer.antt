-- B10: with one Ucode fewer than full masks the product is below 2^42. Assumes nothing.
use mathlib.Core.Path.{◌≡◌, refl, sym, ap, ap₂, ◌∙◌}
use mathlib.Core.Logic.{◌⊎◌, inl, inr}
use Prim.Native.Nat.{ℕ, zero, suc, ◌+◌, ◌*◌, ◌/◌, ◌%◌, ◌^◌, ◌≤◌, ◌<◌}
use mathlib.Core.Bool.{Bool, true, false, not, ◌&&◌}
use mathlib.Core.List.{List, [], ◌∷◌, ◌++◌}
use native.Mathlib.Nat.{eq-or-lt_of_le, le_of_suc-le-suc, mul-le-mul, one-le-pow, pow-succ'}
use native.Mathlib.Omega.{arith}
use borrow.Author.Tests.{lt-ltb, le-ltb, eq-eqb, ne_eqb}
use lib.Dec.{lit<, lit≤, eqb, ltb}
use lib.ListN.{get_or}
use Rattle.standard.specs.Lists.{list_from}
use Rattle.standard.specs.First.{bare, Test, test, first}
use Rattle.standard.specs.Bits.{weight, bit, field}
use Rattle.standard.specs.Record.{index_of, in_mask}
use Rattle.standard.specs.Cp.{within}
use Rattle.standard.specs.Constellation.{size_of, member, size, sizes}
use Rattle.standard.specs.Modulus.{product}
use Rattle.standard.specs.Refusals.{index_too_large, drn_too_large, granted_below_full_rate, interval_empty, product_too_small, empty_test}
use Rattle.standard.specs.Refusals.{empty_tests, rate_tests, record_tests}
use Rattle.standard.specs.declared.Record.{Record}
use Rattle.standard.proofs.Lists.{get_d_list, none_any}
use Rattle.standard.proofs.First.{None, first_hit, first_skip, first-append, first-left, none-list_from}
use Rattle.standard.proofs.Bits.{weight-lt, field-bit}
use Rattle.standard.proofs.Constellation.{size_of-le, label-below}
use Rattle.theorems_cp.specs.Examples.{Fewer}

-- a mask that lacks a Ucode has fewer than all
lacks : (m : ℕ → Bool) (n u : ℕ) → u < n → m u ≡ false → size_of m n < n
unfolding size_of
lacks m zero u h e = absurd (omega arith)
lacks m (suc n) u h e = go (lacks m n u) (eq-or-lt_of_le (le_of_suc-le-suc h))
  where
    go : (u < n → m u ≡ false → size_of m n < n) → (u ≡ n) ⊎ (u < n) → size_of m (suc n) < suc n
    go ih (inl q) = let z : weight (m n) ≡ 0 = ap weight (rw q at e) in omega (arith, size_of-le m n)
    go ih (inr l) = omega (arith, ih l e, weight-lt (m n))

-- n sizes of at most 128, of which one is less
module _ (M : ℕ → ℕ) (small : (k : ℕ) → M k ≤ 128) where
  product_le : (i n : ℕ) → product (list_from M i n) ≤ 128 ^ n
  unfolding product list_from
  product_le i zero = lit≤ tt
  product_le i (suc n) = rw pow-succ' (mul-le-mul (small i) (product_le (suc i) n))

  product_lt : (i n k : ℕ) → i ≤ k → k < i + n → M k < 128 → product (list_from M i n) < 128 ^ n
  unfolding product list_from
  product_lt i zero k a b h = absurd (omega arith)
  product_lt i (suc n) k a b h = rw pow-succ' (go (eq-or-lt_of_le a) (product_lt (suc i) n k))
    where
      P : ℕ
      P = product (list_from M (suc i) n)

      go : (i ≡ k) ⊎ (i < k) → (suc i ≤ k → k < suc i + n → M k < 128 → P < 128 ^ n) → M i * P < 128 * 128 ^ n
      go (inl e) ih =
          let l : M i ≤ 127 = rw e (omega arith) in
          let p : M i * P ≤ 127 * 128 ^ n = mul-le-mul l (product_le (suc i) n) in
          omega (arith, one-le-pow n 128 (lit< tt))
      go (inr l) ih =
          let p : M i * P ≤ 128 * P = mul-le-mul (small i) (omega arith) in
          omega (arith, ih l (omega arith) h)

and-false : (b : Bool) → b && false ≡ false
and-false true = refl
and-false false = refl

module _ (r : Record) (i u : ℕ) (fewer : Fewer r i u) where
  too_small : product_too_small r ≡ true
  unfolding product_too_small sizes
  too_small =
      ap (λ (x : ℕ). within 1 28 x && ltb (product (sizes r)) (2 ^ (x + 14))) fewer.rate
      ∙ lt-ltb (product (sizes r)) (2 ^ 42)
      (product_lt (size r) (λ k. size_of-le (member r k) 128) 0 6 i (omega arith) (omega arith)
      (lacks (member r i) 128 u fewer.ucode fewer.lacks))

  rate : drn_too_large r ≡ false
  unfolding drn_too_large
  rate = rw fewer.rate

  granted : granted_below_full_rate r ≡ false
  unfolding granted_below_full_rate
  granted = rw fewer.rate (and-false r.granted)

  none : None (empty_tests r)
  unfolding empty_tests empty_test
  none = none-list_from (empty_test r) 0 6 (λ k l. fewer.masks (0 + k) (omega arith))

  abbrev stage : List Test
  stage = empty_tests r ++ (test 11 (product_too_small r) ∷ [])

  told : first stage ≡ bare 11
  told = first-append (empty_tests r) _ none ∙ sym (first_hit 11 (product_too_small r) [] too_small)

  pub one_fewer_lem : first (record_tests r) ≡ bare 11
  unfolding record_tests rate_tests
  one_fewer_lem =
      sym
      (first_skip _ _ fewer.indices
      (first_skip _ _ rate (first_skip _ _ granted (sym (first-left stage _ (rw told (lit< tt)) ∙ told)))))

-- ---- an instance for each interval i and Ucode u: i has mask 1, all but u, and the others have mask 0, all

abbrev inside : ℕ → ℕ → ℕ → Bool
inside u zero v = true
inside u (suc zero) v = not (eqb v u)
inside u (suc (suc m)) v = false

abbrev lacking : ℕ → ℕ → Record
lacking i u =
    record {
      granted = false;
      drn = 28;
      acknowledge = false;
      index = list_from (λ k. weight (eqb k i)) 0 6;
      mask = list_from (λ h. field (inside u (h / 2)) (64 * (h % 2)) 64) 0 12;
    }

module _ (i u : ℕ) where
  index_at : (k : ℕ) → k < 6 → index_of (lacking i u) k ≡ weight (eqb k i)
  index_at k h = get_d_list (λ k. weight (eqb k i)) 0 6 k h

  member-at : (k v : ℕ) → k < 6 → v < 128 → member (lacking i u) k v ≡ inside u (weight (eqb k i)) v
  unfolding member in_mask
  member-at k v h l =
      let m = weight (eqb k i) in
      let b = weight-lt (eqb k i) in
      let d : (2 * weight (eqb k i) + v / 64) / 2 ≡ weight (eqb k i) = omega arith in
      let p : 64 * ((2 * weight (eqb k i) + v / 64) % 2) + v % 64 ≡ v = omega arith in
      ap (λ (x : ℕ). bit (get_or (lacking i u).mask (2 * x + v / 64) 0) (v % 64)) (index_at k h)
      ∙ ap (λ (x : ℕ). bit x (v % 64)) (get_d_list (λ h. field (inside u (h / 2)) (64 * (h % 2)) 64) 0 12 (2 * m + v / 64) (omega arith))
      ∙ field-bit (inside u ((2 * m + v / 64) / 2)) (64 * ((2 * m + v / 64) % 2)) 64 (v % 64) (omega arith)
      ∙ ap₂ (inside u) d p

  other : (u : ℕ) → (w : ℕ) × (w < 128) × (eqb w u ≡ false)
  other zero = (1, lit< tt, refl)
  other (suc u) = (0, lit< tt, ne_eqb 0 (suc u) (omega arith))

  not_empty : (k : ℕ) → k < 6 → interval_empty (lacking i u) k ≡ false
  unfolding interval_empty
  not_empty k h =
      let o = other u in
      ne_eqb (size (lacking i u) k) 0
      (λ (z : size (lacking i u) k ≡ 0). omega
      (arith, label-below (member (lacking i u) k) 128 o.0 o.1 (member-at k o.0 h o.1 ∙ go o.0 o.2 (eqb k i))))
    where
      go : (w : ℕ) → eqb w u ≡ false → (b : Bool) → inside u (weight b) w ≡ true
      go w e true = ap not e
      go w e false = refl

  index-fits : index_too_large (lacking i u) ≡ false
  unfolding index_too_large
  index-fits = none_any (λ k. ltb 5 (index_of (lacking i u) k)) 0 6
      (λ k a b. ap (ltb 5) (index_at k b) ∙ le-ltb 5 (weight (eqb k i)) (omega (arith, weight-lt (eqb k i))))

  pub each_fewer : i < 6 → u < 128 → first (record_tests (lacking i u)) ≡ bare 11
  each_fewer h k =
      one_fewer_lem (lacking i u) i u
      (record {
        rate = refl;
        interval = h;
        ucode = k;
        lacks = member-at i u h k ∙ ap (λ (b : Bool). inside u (weight b) u) (eq-eqb i i refl) ∙ ap not (eq-eqb u u refl);
        indices = index-fits;
        masks = not_empty;
      })
