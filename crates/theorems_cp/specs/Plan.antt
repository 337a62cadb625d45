-- Document 02, A.10, 'Masks for a wanted rate': what the planner's answers come to. Assumes nothing.
use Rattle.std.specs.Prelude.{◌≡◌, ℕ, ◌-◌, ◌^◌, ◌≤◌, ◌<◌, Bool, false, [], ◌∷◌, map}
use Rattle.standard.specs.First.{bare, first}
use Rattle.standard.specs.Constellation.{member}
use Rattle.standard.specs.Plan.{points_for, linear_values, Suits, sum_of, Least}
use Rattle.standard.specs.Refusals.{interval_empty, product_too_small, record_tests}
use Rattle.standard.specs.Calls.{PlanCall, plan_call, plan_refusal, plan_points, plan_mask, plan_halves, one_mask}
use Rattle.standard.specs.declared.Law.TheVariants.{Mu, A}
use Rattle.standard.specs.declared.Record.{Record}

-- 'K is outside 15 to 42 or the spacing outside its range' does not hold
pub record Inside (c : PlanCall) : Type 0 where
  pub rate : (15 ≤ c.k) × (c.k ≤ 42)
  pub spacing : (1 ≤ c.spacing) × (c.spacing ≤ 65535)

-- a mask with M points that keeps the spacing, and one of which, 'of all such masks its sum is least'
abbrev pub Fits : PlanCall → (ℕ → Bool) → Type 0
Fits c m = Suits c.law c.spacing (points_for c.k) m

abbrev pub IsLeast : PlanCall → (ℕ → Bool) → Type 0
IsLeast c m = Least c.law c.spacing (points_for c.k) m

-- one holds where the other does, and only there
infix 5 ◌⇔◌
abbrev pub ◌⇔◌ : Type 0 → Type 0 → Type 0
P ⇔ Q = (P → Q) × (Q → P)

-- the largest ceiling
abbrev most : ℕ
most = 0xffff_ffff_ffff_ffff

pub record PlanTold : Type 0 where
  -- 'M the least whole number with M^6 at least 2^K'
  pub enough : (k : ℕ) → k ≤ 42 → 2 ^ k ≤ points_for k ^ 6
  pub least : (k : ℕ) → k ≤ 42 → (j : ℕ) → 2 ^ k ≤ j ^ 6 → points_for k ≤ j
  -- 26: 'K is outside 15 to 42 or the spacing outside its range'
  pub outside : (c : PlanCall) → (plan_refusal c ≡ bare 26) ⇔ (Inside c → ⊥)
  -- 27: 'no mask of M points keeps the spacing'
  pub no_mask : (c : PlanCall) → (plan_refusal c ≡ bare 27) ⇔ (Inside c × ((m : ℕ → Bool) → Fits c m → ⊥))
  -- 28: 'the least sum exceeds the ceiling'
  pub above : (c : PlanCall) → (plan_refusal c ≡ bare 28) ⇔ (Inside c × ((m : ℕ → Bool) × IsLeast c m × (c.ceiling < sum_of c.law m)))
  -- accepted: it does not
  pub within : (c : PlanCall) → (plan_refusal c ≡ bare 0) ⇔ (Inside c × ((m : ℕ → Bool) × IsLeast c m × (sum_of c.law m ≤ c.ceiling)))
  -- then the mask given is such a one, and there is no other
  pub mask : (c : PlanCall) → plan_refusal c ≡ bare 0 → IsLeast c (plan_mask c) × (plan_points c ≡ points_for c.k)
  pub only : (c : PlanCall) → plan_refusal c ≡ bare 0 → (m : ℕ → Bool) → IsLeast c m → (u : ℕ) → u < 128 → m u ≡ plan_mask c u
  -- a record with this mask in all six intervals and drn = K − 14 is not declined for 25 or 11
  pub sizes : (c : PlanCall) → plan_refusal c ≡ bare 0 → (r : Record) → r.drn ≡ c.k - 14
      → ((i u : ℕ) → i < 6 → u < 128 → member r i u ≡ plan_mask c u)
      → ((i : ℕ) → i < 6 → interval_empty r i ≡ false) × (product_too_small r ≡ false)
  -- and the one with this mask alone is declined for nothing
  pub writes : (c : PlanCall) → plan_refusal c ≡ bare 0 → first (record_tests (one_mask c.k (plan_halves c))) ≡ bare 0
  -- Ucode 0 of µ-law has the value 0, so no 128 points keep any spacing
  pub mu_full : (c : PlanCall) → Inside c → c.k ≡ 42 → c.law ≡ Mu → plan_refusal c ≡ bare 27
  -- a worked example: six points of µ-law whose neighbours differ by 100 or more, and answers about the edges of each test
  pub example : linear_values Mu (plan_mask (plan_call 15 Mu 100 962_704)) 128 ≡ 56 ∷ 164 ∷ 276 ∷ 396 ∷ 524 ∷ 652 ∷ []
  pub edges : map (λ c. (plan_refusal c).number)
      (plan_call 15 Mu 100 962_704 ∷ plan_call 15 Mu 100 962_703 ∷ plan_call 15 Mu 5_496 most ∷ plan_call 15 Mu 5_497 most ∷ plan_call 42 A 16 most
      ∷ plan_call 42 A 17 most ∷ plan_call 14 A 1 most ∷ plan_call 43 A 1 most ∷ plan_call 15 A 0 most ∷ plan_call 15 A 65_536 most ∷ [])
      ≡ 0 ∷ 28 ∷ 0 ∷ 27 ∷ 0 ∷ 27 ∷ 26 ∷ 26 ∷ 26 ∷ 26 ∷ []
