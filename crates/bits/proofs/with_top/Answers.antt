-- Bits that do not meet are joined by OR as by a sum. Assumes nothing.
use Rattle.standard.proofs.Words.{top_bit}
use Rattle.bits.proofs.with_top.Goals as goal

pub returns : goal.returns
returns c = top_bit c.args.word c.args.n c.args.top c.requires.0 c.requires.1
