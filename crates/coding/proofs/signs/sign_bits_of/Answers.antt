-- The sign bits by their one computed test. Assumes nothing.
use Rattle.coding.proofs.SixSigns.{back_is}
use Rattle.coding.proofs.signs.sign_bits_of.Goals as goal

pub returns : goal.returns
returns c = back_is c.args.before c.args.signs
