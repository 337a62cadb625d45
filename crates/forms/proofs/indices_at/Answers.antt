-- The six bytes from byte 3 on. Assumes nothing.
use mathlib.Core.Path.{◌∙◌}
use native.Mathlib.Omega.{arith}
use Rattle.states.proofs.Bytes.{part_listed}
use Rattle.forms.proofs.indices_at.Goals as goal

pub returns : goal.returns
returns c = c.copy_from_slice.ensures.after ∙ part_listed c.args.bytes.now 3 6 (omega arith)
