-- Assumes nothing.
use mathlib.Core.Path.{refl}
use Rattle.standard.specs.Refusals.{rate_or_spacing_outside}
use Rattle.plan.proofs.is_outside.Goals as goal

pub returns : goal.returns
unfolding rate_or_spacing_outside
returns c = refl
