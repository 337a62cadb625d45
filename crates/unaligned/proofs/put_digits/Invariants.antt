-- Turn i writes digit i. Assumes nothing.
use Prim.Native.Nat.{◌+◌}
use lib.ListN.{length}
use Rattle.standard.specs.Bits.{weight, bit}
use Rattle.standard.proofs.Filling.{Filled}
use Rattle.unaligned.proofs.put_digits.Given as goal

abbrev pub invariant-loop-i : goal.invariant-loop-i
invariant-loop-i l = Filled (λ k. 48 + weight (bit l.word (k + 2))) (length l.initial.digits) l.digits l.i
