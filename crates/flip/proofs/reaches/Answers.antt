-- Assumes nothing.
use mathlib.Core.Path.{refl}
use Rattle.flip.proofs.reaches.Goals as goal

pub returns : goal.returns
returns c = refl
