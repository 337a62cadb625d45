-- After i turns they are the bits of the first i frames. Assumes nothing.
use Rattle.streams.proofs.Widths.{Summed}
use Rattle.streams.proofs.bits_in.Given as goal

abbrev pub invariant-loop-i : goal.invariant-loop-i
invariant-loop-i l = Summed l.r l.control l.place l.bits l.i
