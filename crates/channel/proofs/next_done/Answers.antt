-- In a control frame alone. Assumes nothing.
use native.Mathlib.Omega.{arith}
use Rattle.channel.proofs.next_done.Goals as goal

pub returns-then-control : goal.returns-then-control
returns-then-control c = (rw c.if-control.true, omega arith)
