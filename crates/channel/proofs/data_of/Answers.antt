-- The bits above the six control bits, in a control frame. Assumes nothing.
use Rattle.channel.proofs.data_of.Goals as goal

pub returns-then-control : goal.returns-then-control
returns-then-control c = rw c.if-control.true
