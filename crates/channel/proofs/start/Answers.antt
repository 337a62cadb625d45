-- Where one starts. Assumes nothing.
use Rattle.channel.proofs.start.Goals as goal

pub returns-then-starts : goal.returns-then-starts
returns-then-starts c = rw c.if-starts.true c.write_sequence.ensures
