-- After i turns the count is that of the first i bits, and so at most i. Assumes nothing.
use Rattle.standard.specs.Bits.{bit_at}
use Rattle.unaligned.proofs.Later.{Counted}
use Rattle.unaligned.proofs.differing.Given as goal

abbrev pub invariant-loop-i : goal.invariant-loop-i
invariant-loop-i l = Counted (bit_at l.a) (bit_at l.b) l.at l.differ l.i
