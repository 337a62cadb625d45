-- Turn i fills in the size of interval i. Assumes nothing.
use Rattle.standard.specs.Constellation.{size}
use Rattle.standard.proofs.Filling.{Filled}
use Rattle.constellation.proofs.sizes_of.Given as goal

abbrev pub invariant-loop-i : goal.invariant-loop-i
invariant-loop-i l = Filled (size l.r) 6 l.size-items l.i
