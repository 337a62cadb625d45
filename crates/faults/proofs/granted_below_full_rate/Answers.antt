-- Both tests together. Assumes nothing.
use mathlib.Core.Path.{refl}
use Rattle.standard.specs.Refusals.{granted_below_full_rate}
use Rattle.faults.proofs.granted_below_full_rate.Goals as goal

pub returns : goal.returns
unfolding granted_below_full_rate
returns c = refl
