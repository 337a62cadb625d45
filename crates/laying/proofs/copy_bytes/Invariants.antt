-- Byte after byte. Assumes nothing.
use lib.ListN.{length}
use Rattle.laying.proofs.Laying.{Pasting}
use Rattle.laying.proofs.copy_bytes.Given as goal

abbrev pub invariant-loop-i : goal.invariant-loop-i
invariant-loop-i l = Pasting l.initial.out l.bytes l.to (length l.bytes) l.out l.i
