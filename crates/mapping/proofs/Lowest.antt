-- The lowest one of a number. Assumes nothing.
use mathlib.Core.Path.{◌≡◌, refl, sym, ap, ◌∙◌}
use Prim.Native.Nat.{ℕ, zero, suc, ◌*◌, ◌-◌, ◌/◌, ◌%◌, ◌^◌, ◌<◌}
use mathlib.Core.Bool.{Bool, true, false}
use native.Mathlib.Nat.{div-one, not-suc-le-zero}
use native.Mathlib.Numerals.{add-one}
use native.Mathlib.Omega.{arith}
use lib.Bits.{bit_and, and_step, and_self}
use lib.Count.{count_trailing_zeros, under}
use lib.Pow.{shr_lt}
use Rattle.standard.specs.Bits.{odd, positive, bit}
use Rattle.standard.proofs.Bits.{bit-suc}

-- t is the smallest number that f holds at, and g holds where f does but at t
pub record Lowest (f : ℕ → Bool) (t : ℕ) (g : ℕ → Bool) : Type 0 where
  pub there : f t ≡ true
  pub least : (j : ℕ) → j < t → f j ≡ false
  pub gone : g t ≡ false
  pub rest : (j : ℕ) → (j ≡ t → ⊥) → g j ≡ f j

bit-zero : (n r : ℕ) → n % 2 ≡ r → bit n 0 ≡ positive r
bit-zero n r e = ap odd (div-one n) ∙ ap positive e

module _ (n y : ℕ) (even : y % 2 ≡ 0) where
  at_once : n % 2 ≡ 1 → y / 2 ≡ n / 2 → Lowest (bit n) 0 (bit y)
  at_once o h =
      record {
        there = bit-zero n 1 o;
        least = λ j l. absurd (not-suc-le-zero l);
        gone = bit-zero y 0 even;
        rest = λ j ne. go j ne;
      }
    where
      go : (j : ℕ) → (j ≡ 0 → ⊥) → bit y j ≡ bit n j
      go zero ne = absurd (ne refl)
      go (suc j) ne = bit-suc y j ∙ ap (λ (x : ℕ). bit x j) h ∙ sym (bit-suc n j)

  higher : (t : ℕ) → n % 2 ≡ 0 → Lowest (bit (n / 2)) t (bit (y / 2)) → Lowest (bit n) (suc t) (bit y)
  higher t o p =
      record {
        there = bit-suc n t ∙ p.there;
        least = λ j l. below j l;
        gone = bit-suc y t ∙ p.gone;
        rest = λ j ne. go j ne;
      }
    where
      below : (j : ℕ) → j < suc t → bit n j ≡ false
      below zero l = bit-zero n 0 o
      below (suc j) l = bit-suc n j ∙ p.least j (omega arith)

      go : (j : ℕ) → (j ≡ suc t → ⊥) → bit y j ≡ bit n j
      go zero ne = bit-zero y 0 even ∙ sym (bit-zero n 0 o)
      go (suc j) ne = bit-suc y j ∙ p.rest j (λ e. ne (ap suc e)) ∙ sym (bit-suc n j)

-- 'and' with the number below takes the lowest one off
pub lowest-one : (k n : ℕ) → 0 < n → n < 2 ^ k → (count_trailing_zeros k n < k) × Lowest (bit n) (count_trailing_zeros k n) (bit (bit_and n (n - 1)))
unfolding count_trailing_zeros
lowest-one zero n p h = absurd (omega arith)
lowest-one (suc k) n p h = go (n % 2) refl (λ q. lowest-one k (n / 2) q (shr_lt k 1 (rw (← add-one k) at h)))
  where
    odd_step : n % 2 ≡ 1 → bit_and n (n - 1) ≡ n / 2 * 2
    odd_step e =
        let a : (n - 1) / 2 ≡ n / 2 = omega arith in
        let b : (n - 1) % 2 ≡ 0 = omega arith in
        and_step n (n - 1) ∙ rw (a, b, e, and_self) (omega arith)

    even_step : n % 2 ≡ 0 → bit_and n (n - 1) ≡ bit_and (n / 2) (n / 2 - 1) * 2
    even_step e =
        let a : (n - 1) / 2 ≡ n / 2 - 1 = omega arith in
        and_step n (n - 1) ∙ rw (a, e) (omega arith)

    go : (r : ℕ) → n % 2 ≡ r
        → (0 < n / 2 → (count_trailing_zeros k (n / 2) < k) × Lowest (bit (n / 2)) (count_trailing_zeros k (n / 2)) (bit (bit_and (n / 2) (n / 2 - 1))))
        → (under r (count_trailing_zeros k (n / 2)) < suc k) × Lowest (bit n) (under r (count_trailing_zeros k (n / 2))) (bit (bit_and n (n - 1)))
    go zero e ih =
        let next = ih (omega arith) in
        let y = bit_and n (n - 1) in
        let half : y / 2 ≡ bit_and (n / 2) (n / 2 - 1) = omega (arith, even_step e) in
        (omega (arith, next.0), higher n y (omega (arith, even_step e)) _ e (rw half next.1))
    go (suc r) e ih =
        let one : n % 2 ≡ 1 = omega arith in
        (omega arith, at_once n (bit_and n (n - 1)) (omega (arith, odd_step one)) one (omega (arith, odd_step one)))
