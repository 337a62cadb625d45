-- Turn i fills in byte i. Assumes nothing.
use Prim.Native.Nat.{◌*◌}
use lib.ListN.{length}
use Rattle.standard.specs.Bits.{bit_at, field}
use Rattle.standard.proofs.Filling.{Filled}
use Rattle.unaligned.specs.Later.{later}
use Rattle.unaligned.proofs.copy_bits.Given as goal

abbrev pub invariant-loop-i : goal.invariant-loop-i
invariant-loop-i l = Filled (λ k. field (later l.at (bit_at l.bytes)) (8 * k) 8) (length l.initial.out) l.out l.i
