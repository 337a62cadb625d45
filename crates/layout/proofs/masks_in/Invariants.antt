-- Turn h fills in half h. Assumes nothing.
use Rattle.standard.specs.Bits.{bit_at}
use Rattle.standard.specs.Cp.{half_in}
use Rattle.standard.proofs.Filling.{Filled}
use Rattle.layout.proofs.masks_in.Given as goal

abbrev pub invariant-loop-h : goal.invariant-loop-h
invariant-loop-h l = Filled (half_in (bit_at l.cp) l.g) 12 l.mask l.h
