-- In a control frame alone. Assumes nothing.
use Rattle.channel.proofs.keep.Goals as goal

pub returns-then-control : goal.returns-then-control
returns-then-control c = rw c.if-control.true c.keep_bits.ensures
