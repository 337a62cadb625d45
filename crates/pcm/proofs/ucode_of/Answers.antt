-- `pcm::ucode_of` meets its contract: the XOR rule, at any octet. Assumes nothing.
use mathlib.Core.Path.{◌≡◌, refl}
use Prim.Native.Nat.{ℕ, ◌%◌}
use native.Mathlib.Omega.{arith}
use lib.Bits.{bit_xor}
use Rattle.standard.specs.Octets.{positive_octet, ucode_of}
use Rattle.standard.specs.declared.Law.{Law}
use Rattle.standard.specs.declared.Law.TheVariants.{Mu, A}
use Rattle.pcm.proofs.ucode_of.Goals as goal

ucode : (l : Law) (o : ℕ) → bit_xor o (positive_octet l 0) % 128 ≡ ucode_of l o
unfolding positive_octet ucode_of
ucode Mu o = refl
ucode A o = refl

pub returns : goal.returns
returns c = rw c.first_octet.ensures (ucode c.args.law c.args.octet, omega arith)
