-- What the planner's answers come to. Assumes nothing.
use mathlib.Core.Path.{◌≡◌, refl, sym, ap, subst, ◌∙◌}
use Prim.Native.Nat.{ℕ, ◌+◌, ◌*◌, ◌-◌, ◌/◌, ◌%◌, ◌^◌, ◌≤◌, ◌<◌}
use mathlib.Core.Bool.{Bool, true, false, cond, and-false, true≢false}
use mathlib.Core.List.{◌∷◌}
use native.Mathlib.Decide.{dec_lt}
use native.Mathlib.Nat.{zero-add}
use native.Mathlib.Omega.{arith}
use borrow.Author.Tests.{leb-true, ltb-true, ltb-false, lt-ltb, le-ltb, ne_eqb}
use lib.Dec.{leb, eqb, lit<}
use lib.ListN.{replicate, get_or-replicate}
use lib.Pow.{pow_pos}
use Rattle.standard.specs.Lists.{list_from, any, largest, lowest_from, list_where}
use Rattle.standard.specs.First.{Answer, bare, first}
use Rattle.standard.specs.Bits.{bit}
use Rattle.standard.specs.Record.{top_index, half_of, in_mask}
use Rattle.standard.specs.Cp.{within}
use Rattle.standard.specs.Constellation.{size_of, member, size, sizes}
use Rattle.standard.specs.Octets.{magnitude, magnitude_in}
use Rattle.standard.specs.Plan.{points_for, linear_values, clear_of_zero, sum_of_squares, Suits, sum_of, looked_at, choice_at, lowest_mask}
use Rattle.standard.specs.Refusals.{index_too_large, drn_too_large, granted_below_full_rate, interval_empty, product_too_small, mask_above_indices}
use Rattle.standard.specs.Refusals.{empty_test, empty_tests, rate_tests, record_tests, rate_or_spacing_outside, no_mask, sum_exceeds_ceiling, plan_tests}
use Rattle.standard.specs.Calls.{PlanCall, plan_refusal, plan_points, plan_mask, plan_halves, one_mask}
use Rattle.standard.specs.declared.Law.TheVariants.{Mu}
use Rattle.standard.specs.declared.Record.{Record}
use Rattle.standard.proofs.Lists.{list_from_ext}
use Rattle.standard.proofs.First.{None, first-none, none-append, none-list_from}
use Rattle.standard.proofs.Bits.{field-bit}
use Rattle.standard.proofs.Constellation.{size_of_ext, size_of-full}
use Rattle.standard.proofs.Modulus.{product-same}
use Rattle.standard.proofs.Refusals.{le-within}
use Rattle.standard.proofs.Plan.{values_from, in_mask_lem}
use Rattle.standard.proofs.Plan.{inside-le, points-enough, points-least, size-wanted}
use Rattle.standard.proofs.Plan.{mask-neighbours, mask-smallest, mask-points, mask-least, mask-only, accepted-mask}
use Rattle.theorems_cp.specs.Plan.{Inside, Fits, IsLeast, PlanTold}

module _ (c : PlanCall) where
  abbrev M : ℕ
  M = points_for c.k

  abbrev lowest : ℕ → Bool
  lowest = lowest_mask c.law c.spacing M

  abbrev too_few : Bool
  too_few = no_mask c.k c.law c.spacing

  -- ---- what each test says

  inside-test : Inside c → rate_or_spacing_outside c.k c.spacing ≡ false
  unfolding rate_or_spacing_outside
  inside-test i =
      rw (le-within 15 42 c.k i.rate.0 i.rate.1, le-within 1 65535 c.spacing i.spacing.0 i.spacing.1)

  test-inside : rate_or_spacing_outside c.k c.spacing ≡ false → Inside c
  test-inside e = let b = inside-le c.k c.spacing e in record { rate = b.0; spacing = b.1 }

  module _ (i : Inside c) where
    fits-test : (m : ℕ → Bool) → Fits c m → too_few ≡ false
    unfolding no_mask
    fits-test m s = let e = mask-points c.law c.spacing M i.spacing.0 m s in rw e (le-ltb M M (omega arith))

    lowest-fits : too_few ≡ false → Fits c lowest
    unfolding no_mask
    lowest-fits e =
        let l = ltb-false (size_of lowest 128) M e in
        record {
          points = omega (arith, size-wanted c.law c.spacing M 128);
          neighbours = mask-neighbours c.law c.spacing M;
          smallest = mask-smallest c.law c.spacing M;
        }

    lowest-least : too_few ≡ false → IsLeast c lowest
    lowest-least e = record { suits = lowest-fits e; least = mask-least c.law c.spacing M i.spacing.0 }

    -- every least mask has the sum of this one
    same_sum : (m : ℕ → Bool) → IsLeast c m → sum_of c.law m ≡ sum_of c.law lowest
    same_sum m s =
        omega (
          arith,
          mask-least c.law c.spacing M i.spacing.0 m s.suits,
          s.least lowest (lowest-fits (fits-test m s.suits)),
        )

  -- ---- what each answer says, by its number

  abbrev Says : ℕ → Type 0
  Says n = number (eqb n 26) (eqb n 27) (eqb n 28)
    where
      number : Bool → Bool → Bool → Type 0
      number true b d = Inside c → ⊥
      number false true d = Inside c × ((m : ℕ → Bool) → Fits c m → ⊥)
      number false false true = Inside c × ((m : ℕ → Bool) × IsLeast c m × (c.ceiling < sum_of c.law m))
      number false false false = Inside c × ((m : ℕ → Bool) × IsLeast c m × (sum_of c.law m ≤ c.ceiling))

  says : Says (plan_refusal c).number
  unfolding plan_refusal plan_tests first sum_exceeds_ceiling
  says = go (rate_or_spacing_outside c.k c.spacing) too_few (sum_exceeds_ceiling c.k c.law c.spacing c.ceiling) refl refl refl
    where
      go : (x y z : Bool) → rate_or_spacing_outside c.k c.spacing ≡ x → too_few ≡ y
          → sum_exceeds_ceiling c.k c.law c.spacing c.ceiling ≡ z
          → Says (cond x (bare 26) (cond y (bare 27) (cond z (bare 28) (bare 0)))).number
      go true y z p q r = λ i. true≢false (sym p ∙ inside-test i)
      go false true z p q r = (test-inside p, λ m s. true≢false (sym q ∙ fits-test (test-inside p) m s))
      go false false true p q r = (test-inside p, (lowest, lowest-least (test-inside p) q, ltb-true c.ceiling (sum_of c.law lowest) r))
      go false false false p q r = (test-inside p, (lowest, lowest-least (test-inside p) q, ltb-false c.ceiling (sum_of c.law lowest) r))

  answers : (n : ℕ) → plan_refusal c ≡ bare n → Says n
  answers n e = subst Says (ap (λ (a : Answer). a.number) e) says

  -- ---- and the other way round

  says_outside : (Inside c → ⊥) → plan_refusal c ≡ bare 26
  unfolding plan_refusal plan_tests first
  says_outside o = go (rate_or_spacing_outside c.k c.spacing) refl
    where
      go : (b : Bool) → rate_or_spacing_outside c.k c.spacing ≡ b → plan_refusal c ≡ bare 26
      go true e = rw e
      go false e = absurd (o (test-inside e))

  module _ (i : Inside c) where
    says_no_mask : ((m : ℕ → Bool) → Fits c m → ⊥) → plan_refusal c ≡ bare 27
    unfolding plan_refusal plan_tests first
    says_no_mask none = go too_few refl
      where
        go : (b : Bool) → too_few ≡ b → plan_refusal c ≡ bare 27
        go true e = rw (inside-test i, e)
        go false e = absurd (none lowest (lowest-fits i e))

    module _ (m : ℕ → Bool) (s : IsLeast c m) where
      says_above : c.ceiling < sum_of c.law m → plan_refusal c ≡ bare 28
      unfolding plan_refusal plan_tests first sum_exceeds_ceiling
      says_above h =
          rw (inside-test i, fits-test i m s.suits, lt-ltb c.ceiling (sum_of c.law lowest) (omega (arith, same_sum i m s)))

      says_within : sum_of c.law m ≤ c.ceiling → plan_refusal c ≡ bare 0
      unfolding plan_refusal plan_tests first sum_exceeds_ceiling
      says_within h =
          rw (inside-test i, fits-test i m s.suits, le-ltb c.ceiling (sum_of c.law lowest) (omega (arith, same_sum i m s)))

  -- ---- the mask given

  module _ (e : plan_refusal c ≡ bare 0) where
    inside : Inside c
    inside = (answers 0 e).0

    found : too_few ≡ false
    found = let a = (answers 0 e).1 in fits-test inside a.0 a.1.suits

    mask_is : plan_mask c ≡ lowest
    mask_is = accepted-mask c e

    given : IsLeast c (plan_mask c)
    given = rw mask_is (lowest-least inside found)

    points-given : plan_points c ≡ M
    unfolding plan_points
    points-given = rw e

    only : (m : ℕ → Bool) → IsLeast c m → (u : ℕ) → u < 128 → m u ≡ plan_mask c u
    only m s u b =
        rw mask_is (mask-only c.law c.spacing M inside.spacing.0 m s.suits (omega (arith, same_sum inside m s)) u b)

    -- a record with it in all six intervals
    module _ (r : Record) (d : r.drn ≡ c.k - 14) (all : (i u : ℕ) → i < 6 → u < 128 → member r i u ≡ plan_mask c u) where
      size_is : (i : ℕ) → i < 6 → size r i ≡ M
      size_is i h = size_of_ext (member r i) (plan_mask c) 128 (λ u b. all i u h b) ∙ given.suits.points

      rate_is : r.drn + 14 ≡ c.k
      rate_is = omega (arith, inside.rate.0)

      enough : 2 ^ (r.drn + 14) ≤ M ^ 6
      enough = rw rate_is (points-enough c.k inside.rate.1)

      not_empty : (i : ℕ) → i < 6 → interval_empty r i ≡ false
      unfolding interval_empty
      not_empty i h = rw (size_is i h, ne_eqb M 0 some, and-false)
        where
          some : M ≡ 0 → ⊥
          some z = let p : 2 ^ (r.drn + 14) ≤ 0 ^ 6 = rw z at enough in omega (arith, pow_pos (r.drn + 14))

      sizes_are : sizes r ≡ replicate 6 M
      unfolding sizes list_from
      sizes_are = list_from_ext (size r) (λ i. M) 6 size_is

      not-small : product_too_small r ≡ false
      unfolding product_too_small
      not-small = rw (sizes_are, product-same M 6, le-ltb (M ^ 6) (2 ^ (r.drn + 14)) enough, and-false)

    -- and the record with it alone
    abbrev alone : Record
    alone = one_mask c.k (plan_halves c)

    alone-has : (i u : ℕ) → i < 6 → u < 128 → member alone i u ≡ plan_mask c u
    unfolding member in_mask one_mask plan_halves list_from
    alone-has i u h b = ap (λ (x : ℕ). bit (half_of alone (2 * x + u / 64)) (u % 64)) (get_or-replicate 6 i 0 0 h) ∙ rw zero-add (go (dec_lt u 64))
      where
        go : Dec (u < 64) → bit (half_of alone (u / 64)) (u % 64) ≡ plan_mask c u
        go (yes l) =
            let d : u / 64 ≡ 0 = omega arith in
            let m : u % 64 ≡ u = omega arith in
            rw (d, m) (field-bit (plan_mask c) 0 64 u l ∙ ap (plan_mask c) (zero-add u))
        go (no l) =
            let d : u / 64 ≡ 1 = omega arith in
            let m : u % 64 ≡ u - 64 = omega arith in
            let z : 64 + (u - 64) ≡ u = omega arith in
            rw (d, m) (field-bit (plan_mask c) 64 64 (u - 64) (omega arith) ∙ ap (plan_mask c) z)

    alone-rate : alone.drn ≡ c.k - 14
    unfolding one_mask
    alone-rate = refl

    rates : None (rate_tests alone)
    unfolding rate_tests empty_tests empty_test one_mask drn_too_large granted_below_full_rate
    rates = (
      le-ltb 28 (c.k - 14) (omega (arith, inside.rate.1)),
      (
        refl,
        none-append (empty_tests alone) _ (none-list_from (empty_test alone) 0 6 (λ i h. not_empty alone alone-rate alone-has (0 + i) (omega arith)))
            (not-small alone alone-rate alone-has, tt),
      ),
    )

    writes : first (record_tests alone) ≡ bare 0
    unfolding record_tests one_mask plan_halves list_from index_too_large mask_above_indices any top_index largest
    writes = first-none (record_tests alone) (refl, none-append (rate_tests alone) _ rates (refl, tt))

-- ---- µ-law at K = 42

all-points : points_for 42 ≡ 128
unfolding points_for lowest_from
all-points = refl

first-value : (m : ℕ → Bool) → m 0 ≡ true → linear_values Mu m 128 ≡ 0 ∷ values_from Mu m 1 127
unfolding linear_values magnitude magnitude_in
first-value m e = in_mask_lem Mu m 0 127 e

no_spacing : (d : ℕ) (m : ℕ → Bool) → 0 < d → Suits Mu d 128 m → ⊥
unfolding clear_of_zero
no_spacing d m p s =
    let z : leb d (2 * 0) ≡ true = rw (first-value m (size_of-full m 128 s.points 0 (lit< tt))) at s.smallest in
    omega (arith, leb-true d (2 * 0) z)

mu_full_lem : (c : PlanCall) → Inside c → c.k ≡ 42 → c.law ≡ Mu → plan_refusal c ≡ bare 27
mu_full_lem c i k l = says_no_mask c i (λ m s. no_spacing c.spacing m i.spacing.0 (rw (k, all-points, l) at s))

pub plan_told : PlanTold
unfolding first list_where lowest_from size_of magnitude magnitude_in points_for linear_values sum_of_squares looked_at choice_at lowest_mask
    rate_or_spacing_outside no_mask sum_exceeds_ceiling plan_tests plan_refusal plan_mask
plan_told =
    record {
      enough = points-enough;
      least = points-least;
      outside = λ c. (answers c 26, says_outside c);
      no_mask = λ c. (answers c 27, λ p. says_no_mask c p.0 p.1);
      above = λ c. (answers c 28, λ p. says_above c p.0 p.1.0 p.1.1 p.1.2);
      within = λ c. (answers c 0, λ p. says_within c p.0 p.1.0 p.1.1 p.1.2);
      mask = λ c e. (given c e, points-given c e);
      only = only;
      sizes = λ c e r d all. (not_empty c e r d all, not-small c e r d all);
      writes = writes;
      mu_full = mu_full_lem;
      example = refl;
      edges = refl;
    }
