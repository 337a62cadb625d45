-- The signs by their one computed test. Assumes nothing.
use Rattle.coding.proofs.SixSigns.{coded_is}
use Rattle.coding.proofs.signs.signs_of.Goals as goal

pub returns : goal.returns
returns c = coded_is c.args.before c.args.line
