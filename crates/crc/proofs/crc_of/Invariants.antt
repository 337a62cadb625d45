-- The register when i words, each with the start bit after it, have passed. Assumes nothing.
use mathlib.Core.Path.{◌≡◌}
use Prim.Native.Nat.{◌*◌}
use Rattle.standard.specs.Bits.{bit_at}
use Rattle.standard.specs.Crc.{crc_over}
use Rattle.standard.specs.Cp.{start_bit}
use Rattle.crc.proofs.crc_of.Given as goal

abbrev pub invariant-loop-i : goal.invariant-loop-i
invariant-loop-i l = l.register ≡ crc_over start_bit (bit_at l.cp) 18 (17 * l.i)
