-- Bits that do not meet are joined by OR. Assumes nothing.
use Rattle.bits.proofs.Joining.{joined_word}
use Rattle.bits.proofs.joined_word.Goals as goal

pub returns : goal.returns
returns c = joined_word c.args.held c.args.count c.args.value c.requires.1 c.requires.0
