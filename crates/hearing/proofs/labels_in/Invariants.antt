-- Turn i looks up the label of interval i. Assumes nothing.
use Rattle.standard.proofs.Filling.{Filled}
use Rattle.hearing.specs.Legible.{label_in}
use Rattle.hearing.proofs.labels_in.Given as goal

abbrev pub invariant-loop-i : goal.invariant-loop-i
invariant-loop-i l = Filled (label_in l.law l.labels l.octets) 6 l.label-items l.i
