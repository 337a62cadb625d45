-- The fields one by one. Assumes nothing.
use mathlib.Core.Path.{refl}
use Rattle.start_bits.proofs.with_line.Goals as goal

pub returns : goal.returns
returns c = refl
