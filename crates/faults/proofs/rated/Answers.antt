-- Both comparisons together. Assumes nothing.
use mathlib.Core.Path.{refl}
use Rattle.faults.proofs.rated.Goals as goal

pub returns : goal.returns
returns c = refl
