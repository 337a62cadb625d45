-- Turn h fills in half h. Assumes nothing.
use mathlib.Core.Path.{◌≡◌, refl}
use Rattle.standard.proofs.Filling.{filled_none, filled_more, filled-all}
use native.Mathlib.Omega.{arith}
use Rattle.layout.proofs.masks_in.Goals as goal

pub loop-h-preserved : goal.loop-h-preserved
loop-h-preserved c = filled_more _ c.loop-h.invariant (omega arith) c.half_in.ensures

pub returns : goal.returns
returns c = let e : c.loop-h.h ≡ 12 = omega arith in filled-all (rw e at c.loop-h.invariant)

pub loop-h-init : goal.loop-h-init
loop-h-init c = filled_none _ 12 _ refl
