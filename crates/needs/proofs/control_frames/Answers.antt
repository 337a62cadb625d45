-- Of 64 frames one is a control frame. Assumes nothing.
use native.Mathlib.Omega.{arith}
use Rattle.needs.proofs.control_frames.Goals as goal

pub returns-then-control : goal.returns-then-control
returns-then-control c = (rw c.if-control.true, omega arith)

pub returns : goal.returns
returns c = (rw c.if-control.false, omega arith)
