-- Where the channel is on. Assumes nothing.
use native.Mathlib.Omega.{arith}
use Rattle.channel.proofs.next_place.Goals as goal

pub returns-then-on : goal.returns-then-on
returns-then-on c = (rw c.if-on.true, omega arith)
