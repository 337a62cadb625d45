-- Laws of octets: both laws of V.90 Table 1, there and back, by one computed test over the table; and of linear values. Assumes nothing.
use mathlib.Core.Path.{◌≡◌}
use mathlib.Core.Logic.{◌⊎◌, inl, inr}
use Prim.Native.Nat.{ℕ, zero, suc, ◌^◌, ◌<◌}
use mathlib.Core.Bool.{Bool, true, false, ◌&&◌, beq}
use native.Mathlib.Nat.{mod-lt, not-suc-le-zero, le_of_suc-le-suc, eq-or-lt_of_le, lt_trans}
use native.Mathlib.Omega.{arith}
use lib.Dec.{T, eqb, ltb, eqb→eq, ltb→lt, lit<}
use Rattle.standard.specs.Octets.{positive_octet, octet, sign_of, ucode_of, magnitude_in, magnitude}
use Rattle.standard.specs.declared.Law.{Law}
use Rattle.standard.specs.declared.Law.TheVariants.{Mu, A}
use Rattle.standard.proofs.Lists.{every, every_at, and_left, and_right, beq→eq}

-- ---- the rows of Table 1

abbrev row_back : Law → Bool → ℕ → Bool
row_back l s u = ltb (octet l s u) 256 && (beq (sign_of (octet l s u)) s && eqb (ucode_of l (octet l s u)) u)

rows_back : (l : Law) (s : Bool) → T (every (row_back l s) 128)
unfolding positive_octet octet sign_of ucode_of
rows_back Mu true = tt
rows_back Mu false = tt
rows_back A true = tt
rows_back A false = tt

module _ (l : Law) (s : Bool) (u : ℕ) (h : u < 128) where
  row : T (row_back l s u)
  row = every_at (row_back l s) 128 (rows_back l s) u h

  both : T (beq (sign_of (octet l s u)) s && eqb (ucode_of l (octet l s u)) u)
  both = and_right (ltb (octet l s u) 256) _ row

  pub sign-back : sign_of (octet l s u) ≡ s
  sign-back = beq→eq (sign_of (octet l s u)) s (and_left (beq (sign_of (octet l s u)) s) _ both)

  pub ucode-back : ucode_of l (octet l s u) ≡ u
  ucode-back = eqb→eq (ucode_of l (octet l s u)) u (and_right (beq (sign_of (octet l s u)) s) _ both)

pub ucode-lt : (l : Law) (o : ℕ) → ucode_of l o < 128
unfolding ucode_of
ucode-lt l o = mod-lt (positive_octet l o) (lit< tt)

-- every octet is that of its own sign and Ucode
abbrev octet_back : Law → ℕ → Bool
octet_back l o = eqb (octet l (sign_of o) (ucode_of l o)) o

octets-back : (l : Law) → T (every (octet_back l) 256)
unfolding positive_octet octet sign_of ucode_of
octets-back Mu = tt
octets-back A = tt

pub octet-back : (l : Law) (o : ℕ) → o < 256 → octet l (sign_of o) (ucode_of l o) ≡ o
octet-back l o h = eqb→eq (octet l (sign_of o) (ucode_of l o)) o (every_at (octet_back l) 256 (octets-back l) o h)

-- ---- linear values

-- each fits in 15 bits, by one computed test
abbrev small : Law → ℕ → Bool
small l u = ltb (magnitude l u) (2 ^ 15)

all_small : (l : Law) → T (every (small l) 128)
unfolding magnitude magnitude_in
all_small Mu = tt
all_small A = tt

pub magnitude-lt : (l : Law) (u : ℕ) → u < 128 → magnitude l u < 2 ^ 15
magnitude-lt l u h = ltb→lt (magnitude l u) (2 ^ 15) (every_at (small l) 128 (all_small l) u h)

-- they rise with the Ucode, by another
abbrev rises : Law → ℕ → Bool
rises l u = ltb (magnitude l u) (magnitude l (suc u))

all_rise : (l : Law) → T (every (rises l) 127)
unfolding magnitude magnitude_in
all_rise Mu = tt
all_rise A = tt

pub magnitude_rises : (l : Law) (u w : ℕ) → u < w → w < 128 → magnitude l u < magnitude l w
magnitude_rises l u zero h b = absurd (not-suc-le-zero h)
magnitude_rises l u (suc w) h b = go (λ k. magnitude_rises l u w k (omega arith)) (eq-or-lt_of_le (le_of_suc-le-suc h))
  where
    next : magnitude l w < magnitude l (suc w)
    next = ltb→lt (magnitude l w) (magnitude l (suc w)) (every_at (rises l) 127 (all_rise l) w (omega arith))

    go : (u < w → magnitude l u < magnitude l w) → (u ≡ w) ⊎ (u < w) → magnitude l u < magnitude l (suc w)
    go ih (inl e) = rw e next
    go ih (inr k) = lt_trans (ih k) next
