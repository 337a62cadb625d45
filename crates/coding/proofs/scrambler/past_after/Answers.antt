-- 23 bits of the stream, as a frame leaves them. Assumes nothing.
use Rattle.coding.proofs.Stream.{after_frame}
use Rattle.coding.proofs.scrambler.past_after.Goals as goal

pub returns : goal.returns
returns c = after_frame c.args.past c.args.line c.requires.0 c.args.count c.requires.1 c.requires.2
