-- Turn i writes the octet of interval i. Assumes nothing.
use Rattle.standard.proofs.Filling.{Filled}
use Rattle.sending.specs.Parts.{octet_in}
use Rattle.sending.proofs.write_octets.Given as goal

abbrev pub invariant-loop-i : goal.invariant-loop-i
invariant-loop-i l = Filled (octet_in l.law l.points l.labels l.signs) 6 l.octets l.i
