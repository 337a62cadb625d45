-- The labels from interval i on form the number. Assumes nothing.
use Rattle.hearing.proofs.Hearing.{Formed}
use Rattle.hearing.proofs.number_of.Given as goal

abbrev pub invariant-loop-i : goal.invariant-loop-i
invariant-loop-i l = Formed l.sizes l.found l.number l.i
