-- After i turns i reciprocals are found. Assumes nothing.
use Rattle.standard.proofs.Filling.{Filled}
use Rattle.coding.specs.Reciprocals.{reciprocal_of}
use Rattle.coding.proofs.modulus.reciprocals_of.Given as goal

abbrev pub invariant-loop-i : goal.invariant-loop-i
invariant-loop-i l = Filled (reciprocal_of l.sizes) 6 l.inverse-items l.i
