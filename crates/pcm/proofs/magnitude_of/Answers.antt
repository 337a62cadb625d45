-- `pcm::magnitude_of` meets its contract: the arithmetic gives Table 1's linear value at every law and Ucode. Assumes nothing.
use mathlib.Core.Path.{◌≡◌}
use Prim.Native.Nat.{ℕ, zero, suc, ◌+◌, ◌*◌, ◌-◌, ◌/◌, ◌%◌, ◌^◌, ◌≤◌, ◌<◌}
use mathlib.Core.Bool.{Bool, not, ◌&&◌}
use native.Mathlib.Omega.{arith}
use borrow.Author.Tests.{ne_eqb}
use lib.Dec.{T, eqb, leb, eqb→eq, leb→le}
use mir.Val.{bool_byte}
use Rattle.standard.specs.Octets.{magnitude_in, magnitude}
use Rattle.standard.specs.declared.Law.TheVariants.{Mu, A}
use Rattle.standard.proofs.Lists.{every, every_at, and_left, and_right}
use Rattle.standard.proofs.Octets.{magnitude-lt}
use Rattle.pcm.proofs.magnitude_of.Goals as goal

-- 1 from Uchord 1 on
abbrev up : ℕ → ℕ
up s = bool_byte (not (eqb s 0))

up_le : (s : ℕ) → (up s ≤ s) × (up s ≤ 1)
up_le zero = (omega arith, omega arith)
up_le (suc s) = rw (ne_eqb (suc s) 0 (omega arith)) (omega arith, omega arith)

-- what the code shifts
abbrev mu_shifted : ℕ → ℕ
mu_shifted u = (8 * (u % 16) + 132) * 2 ^ (u / 16) % 2 ^ 32

abbrev a_shifted : ℕ → ℕ
a_shifted u = (16 * (u % 16) + 8 + 256 * up (u / 16)) * 2 ^ (u / 16 - up (u / 16)) % 2 ^ 32

-- the computed test of each law: 128 cases
abbrev mu_same : ℕ → Bool
mu_same u = leb 132 (mu_shifted u) && eqb (mu_shifted u - 132) (magnitude Mu u)

abbrev a_same : ℕ → Bool
a_same u = eqb (a_shifted u) (magnitude A u)

all-mu : T (every mu_same 128)
unfolding magnitude magnitude_in
all-mu = tt

all-a : T (every a_same 128)
unfolding magnitude magnitude_in
all-a = tt

-- and what holds at each
module _ (u : ℕ) (h : u < 128) where
  mu-least : 132 ≤ mu_shifted u
  mu-least = leb→le 132 (mu_shifted u) (and_left (leb 132 (mu_shifted u)) _ (every_at mu_same 128 all-mu u h))

  mu-is : mu_shifted u - 132 ≡ magnitude Mu u
  mu-is = eqb→eq (mu_shifted u - 132) (magnitude Mu u) (and_right (leb 132 (mu_shifted u)) _ (every_at mu_same 128 all-mu u h))

  a-is : a_shifted u ≡ magnitude A u
  a-is = eqb→eq (a_shifted u) (magnitude A u) (every_at a_same 128 all-a u h)

pub overflow_sub-result : goal.overflow_sub-result
overflow_sub-result c = mu-least c.args.ucode c.requires

pub overflow_mul-result-in-A-2 : goal.overflow_mul-result-in-A-2
overflow_mul-result-in-A-2 c = omega (arith, up_le (c.args.ucode / 16))

pub overflow_add-result-in-A-2 : goal.overflow_add-result-in-A-2
overflow_add-result-in-A-2 c = omega (arith, up_le (c.args.ucode / 16))

pub overflow_sub-result-in-A : goal.overflow_sub-result-in-A
overflow_sub-result-in-A c = omega (arith, up_le (c.args.ucode / 16))

pub returns-in-Mu : goal.returns-in-Mu
returns-in-Mu c =
    let e = mu-is c.args.ucode c.requires in
    rw c.in-Mu.is (e, rw e (magnitude-lt Mu c.args.ucode c.requires))

pub returns-in-A : goal.returns-in-A
returns-in-A c =
    let e = a-is c.args.ucode c.requires in
    rw c.in-A.is (e, rw e (magnitude-lt A c.args.ucode c.requires))
