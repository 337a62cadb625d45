-- Judged where a sequence ends. Assumes nothing.
use Rattle.frames_received.proofs.say.Goals as goal

pub returns-then-ends : goal.returns-then-ends
returns-then-ends c = rw c.if-ends.true c.judge.ensures
