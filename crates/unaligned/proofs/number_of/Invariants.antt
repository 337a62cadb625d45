-- After each turn the digits from place i on form the number. Assumes nothing.
use Rattle.unaligned.proofs.Digits.{Formed}
use Rattle.unaligned.proofs.number_of.Given as goal

abbrev pub invariant-loop-i : goal.invariant-loop-i
invariant-loop-i l = Formed l.digits l.number l.i
