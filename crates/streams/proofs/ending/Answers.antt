-- It is a control frame, and the last of sixteen. Assumes nothing.
use native.Mathlib.Omega.{arith}
use Rattle.streams.proofs.ending.Goals as goal

pub returns : goal.returns
returns c = (omega arith, omega arith)
