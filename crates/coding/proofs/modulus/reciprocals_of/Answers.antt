-- After i turns i reciprocals are found. Assumes nothing.
use mathlib.Core.Path.{◌≡◌, refl}
use native.Mathlib.Omega.{arith}
use Rattle.standard.proofs.Filling.{filled_none, filled_more, filled-all}
use Rattle.coding.proofs.modulus.reciprocals_of.Goals as goal

pub loop-i-preserved : goal.loop-i-preserved
loop-i-preserved c = filled_more _ c.loop-i.invariant (omega arith) c.reciprocal_of.ensures

pub returns : goal.returns
returns c = let e : c.loop-i.i ≡ 6 = omega arith in filled-all (rw e at c.loop-i.invariant)

pub loop-i-init : goal.loop-i-init
loop-i-init c = filled_none _ 6 _ refl
