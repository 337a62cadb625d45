-- Turn h fills in half h. Assumes nothing.
use Rattle.standard.proofs.Filling.{Filled}
use Rattle.forms.specs.RecordBytes.{half_at}
use Rattle.forms.proofs.masks_at.Given as goal

abbrev pub invariant-loop-h : goal.invariant-loop-h
invariant-loop-h l = Filled (half_at l.bytes) 12 l.half-items l.h
