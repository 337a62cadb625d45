-- `pcm::octet_of` meets its contract: the arithmetic gives Table 1's octet at every law, sign and Ucode. Assumes nothing.
use mathlib.Core.Path.{◌≡◌}
use Prim.Native.Nat.{ℕ, ◌*◌, ◌%◌, ◌^◌, ◌<◌}
use mathlib.Core.Bool.{Bool, true, false, not}
use native.Mathlib.Omega.{arith}
use lib.Bits.{bit_xor}
use lib.Dec.{T, eqb, eqb→eq}
use mir.Val.{bool_byte}
use Rattle.standard.specs.Octets.{positive_octet, octet}
use Rattle.standard.specs.declared.Law.{Law}
use Rattle.standard.specs.declared.Law.TheVariants.{Mu, A}
use Rattle.standard.proofs.Lists.{every, every_at}
use Rattle.pcm.proofs.octet_of.Goals as goal

abbrev arithmetic : Law → Bool → ℕ → ℕ
arithmetic l s u = bit_xor (bit_xor (positive_octet l 0) u) (bool_byte (not s) * 2 ^ 7 % 2 ^ 8)

-- the one computed test: 512 cases
abbrev same : Law → Bool → ℕ → Bool
same l s u = eqb (arithmetic l s u) (octet l s u)

all_same : (l : Law) (s : Bool) → T (every (same l s) 128)
unfolding positive_octet octet
all_same Mu true = tt
all_same Mu false = tt
all_same A true = tt
all_same A false = tt

-- and the equation at each
arithmetic-is : (l : Law) (s : Bool) (u : ℕ) → u < 128 → arithmetic l s u ≡ octet l s u
arithmetic-is l s u h = eqb→eq (arithmetic l s u) (octet l s u) (every_at (same l s) 128 (all_same l s) u h)

pub returns : goal.returns
returns c =
    let a = c.args in
    rw c.first_octet.ensures (arithmetic-is a.law a.sign (a.ucode % 128) (omega arith))
