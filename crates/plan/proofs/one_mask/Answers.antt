-- Assumes nothing.
use mathlib.Core.Path.{refl}
use Rattle.standard.specs.Calls.{one_mask}
use Rattle.plan.proofs.one_mask.Goals as goal

pub returns : goal.returns
unfolding one_mask
returns c = refl
