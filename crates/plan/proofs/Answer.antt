-- What the planner answers, by what came of the choice. Assumes nothing.
use mathlib.Core.Path.{◌≡◌, refl, ap, ◌∙◌}
use Prim.Native.Nat.{ℕ, ◌+◌, ◌≤◌, ◌<◌}
use mathlib.Core.Bool.{true, false}
use mathlib.Core.List.{[], ◌∷◌}
use native.Mathlib.Omega.{arith}
use borrow.Author.Tests.{lt-ltb, le-ltb}
use Rattle.std.specs.Prelude.{Err}
use Rattle.standard.specs.Lists.{list_from, list_where}
use Rattle.standard.specs.First.{bare, first}
use Rattle.standard.specs.Bits.{field}
use Rattle.standard.specs.Constellation.{size_of}
use Rattle.standard.specs.Plan.{Choice, points_for, linear_values, sum_of_squares, sum_of, lowest_mask}
use Rattle.standard.specs.Refusals.{refusal_answer, rate_or_spacing_outside, no_mask, sum_exceeds_ceiling, plan_tests}
use Rattle.standard.specs.Calls.{PlanCall, accepted, plan_call, plan_refusal, plan_points, plan_mask, plan_halves, plan_sum}
use Rattle.standard.specs.declared.Law.{Law}
use Rattle.standard.specs.declared.Planned.{Planned}
use Rattle.standard.specs.declared.Refusal.{Refusal}
use Rattle.standard.proofs.Stages.{refused_not}
use Rattle.standard.proofs.Plan.{size-wanted, accepted-mask}
use Rattle.choosing.specs.Choosing.{Before}
use Rattle.choosing.specs.declared.Chosen.{Chosen}

module _ (k : ℕ) (l : Law) (d ceiling : ℕ) where
  abbrev call : PlanCall
  call = plan_call k l d ceiling

  -- nothing stands beside a call that is not accepted
  pub none_given : accepted (plan_refusal call) ≡ false → (0 ≡ plan_points call) × (0 ∷ 0 ∷ [] ≡ plan_halves call) × (0 ≡ plan_sum call)
  unfolding plan_points plan_halves plan_sum plan_mask list_from field linear_values list_where sum_of_squares
  none_given n = (rw n, rw n, rw n)

  -- nothing stands beside a refusal
  pub nothing : (x : Refusal) → refusal_answer x ≡ plan_refusal call
      → (0 ≡ plan_points call) × (0 ∷ 0 ∷ [] ≡ plan_halves call) × (0 ≡ plan_sum call)
  nothing x e = none_given (refused_not {X = Planned} (Err x) x (plan_refusal call) refl e)

  pub outside : rate_or_spacing_outside k d ≡ true → bare 26 ≡ plan_refusal call
  unfolding plan_refusal plan_tests first
  outside e = rw e

  module _ (inside : rate_or_spacing_outside k d ≡ false) (M : ℕ) (m : M ≡ points_for k) (high : Chosen) (b : Before l d M 128 high) where
    size-left : size_of (lowest_mask l d (points_for k)) 128 + high.wanted ≡ points_for k
    size-left =
        rw (← m) (ap (λ (c : Choice). size_of (lowest_mask l d M) 128 + c.wanted) b.choice ∙ size-wanted l d M 128)

    sum_is : high.sum ≡ sum_of l (lowest_mask l d (points_for k))
    sum_is = rw (← m) b.sum_is

    pub too_few : 0 < high.wanted → bare 27 ≡ plan_refusal call
    unfolding plan_refusal plan_tests first no_mask
    too_few h = rw (inside, lt-ltb (size_of (lowest_mask l d (points_for k)) 128) (points_for k) (omega (arith, size-left)))

    module _ (h : high.wanted ≡ 0) where
      enough : no_mask k l d ≡ false
      unfolding no_mask
      enough = le-ltb (size_of (lowest_mask l d (points_for k)) 128) (points_for k) (omega (arith, size-left))

      pub above : ceiling < high.sum → bare 28 ≡ plan_refusal call
      unfolding plan_refusal plan_tests first sum_exceeds_ceiling
      above s = rw (inside, enough, lt-ltb ceiling (sum_of l (lowest_mask l d (points_for k))) (omega (arith, sum_is)))

      pub within : high.sum ≤ ceiling → plan_refusal call ≡ bare 0
      unfolding plan_refusal plan_tests first sum_exceeds_ceiling
      within s = rw (inside, enough, le-ltb ceiling (sum_of l (lowest_mask l d (points_for k))) (omega (arith, sum_is)))

      pub points_given : high.sum ≤ ceiling → M ≡ plan_points call
      unfolding plan_points
      points_given s = rw (within s) m

      pub mask_given : high.sum ≤ ceiling → (low : Chosen) → low.bits ≡ field (lowest_mask l d M) 0 64 → high.bits ≡ field (lowest_mask l d M) 64 64
          → low.bits ∷ high.bits ∷ [] ≡ plan_halves call
      unfolding plan_halves list_from
      mask_given s low p q =
          let a : plan_mask call ≡ lowest_mask l d (points_for k) = accepted-mask call (within s) in
          rw (a, p, q, m)

      pub sum_given : high.sum ≤ ceiling → high.sum ≡ plan_sum call
      unfolding plan_sum
      sum_given s =
          let a : plan_mask call ≡ lowest_mask l d (points_for k) = accepted-mask call (within s) in
          rw a sum_is
