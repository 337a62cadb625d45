-- Document 02, A.10, 'Masks for a wanted rate': what is asked of a mask, and the mask that is given. Assumes nothing.
use Rattle.std.specs.Prelude.{◌≡◌, ℕ, zero, suc, ◌+◌, ◌*◌, ◌-◌, ◌/◌, ◌^◌, ◌≤◌, Bool, true, cond, ◌&&◌, List, [], ◌∷◌, map, leb}
use Rattle.standard.specs.Lists.{lowest_from, list_where}
use Rattle.standard.specs.Bits.{positive}
use Rattle.standard.specs.Constellation.{size_of}
use Rattle.standard.specs.Octets.{magnitude}
use Rattle.standard.specs.declared.Law.{Law}

-- ---- what is asked. l is the law, d the spacing, m a mask as a function of the Ucode

-- 'M the least whole number with M^6 at least 2^K'; for K up to 42 that is 128 at most
unfoldable pub points_for : ℕ → ℕ
points_for K = lowest_from (λ M. leb (2 ^ K) (M ^ 6)) 0 128

-- the linear values of the mask's Ucodes below n, the smallest first
unfoldable pub linear_values : Law → (ℕ → Bool) → ℕ → List ℕ
linear_values l m n = map (magnitude l) (list_where m 0 n)

-- 'Neighbouring linear values differ by at least the spacing'
unfoldable pub apart : ℕ → List ℕ → Bool
apart d [] = true
apart d (x ∷ []) = true
apart d (x ∷ y ∷ ys) = leb (x + d) y && apart d (y ∷ ys)

-- 'and twice the smallest value is at least the spacing'
unfoldable pub clear_of_zero : ℕ → List ℕ → Bool
clear_of_zero d [] = true
clear_of_zero d (x ∷ xs) = leb d (2 * x)

-- 'the sum of squared linear values'
unfoldable pub sum_of_squares : List ℕ → ℕ
sum_of_squares [] = 0
sum_of_squares (x ∷ xs) = x * x + sum_of_squares xs

-- a mask with M points that keeps the spacing
pub record Suits (l : Law) (d M : ℕ) (m : ℕ → Bool) : Type 0 where
  pub points : size_of m 128 ≡ M
  pub neighbours : apart d (linear_values l m 128) ≡ true
  pub smallest : clear_of_zero d (linear_values l m 128) ≡ true

-- 'its sum'
abbrev pub sum_of : Law → (ℕ → Bool) → ℕ
sum_of l m = sum_of_squares (linear_values l m 128)

-- 'Of all such masks its sum is least.'
pub record Least (l : Law) (d M : ℕ) (m : ℕ → Bool) : Type 0 where
  pub suits : Suits l d M m
  pub least : (m' : ℕ → Bool) → Suits l d M m' → sum_of l m ≤ sum_of l m'

-- ---- what is given: from Ucode 0 up, each Ucode that keeps the spacing to those taken before it, until there are M

-- before a Ucode is looked at: the least value that can be taken, and how many points are still wanted
pub record Choice : Type 0 where
  pub floor : ℕ
  pub wanted : ℕ

-- whether the value v is taken
abbrev pub takes : Choice → ℕ → Bool
takes c v = positive c.wanted && leb c.floor v

-- after it was looked at
unfoldable pub looked_at : ℕ → Choice → ℕ → Choice
looked_at d c v = cond (takes c v) (record { floor = v + d; wanted = c.wanted - 1 }) c

module _ (l : Law) (d M : ℕ) where
  -- before Ucode u; twice the smallest value is at least d where that value is at least d / 2, rounded up
  unfoldable pub choice_at : ℕ → Choice
  choice_at zero = record { floor = (d + 1) / 2; wanted = M }
  choice_at (suc u) = looked_at d (choice_at u) (magnitude l u)

  -- whether Ucode u is taken
  unfoldable pub lowest_mask : ℕ → Bool
  lowest_mask u = takes (choice_at u) (magnitude l u)
