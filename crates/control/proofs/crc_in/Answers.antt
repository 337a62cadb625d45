-- The register of ones takes bits 16 to 77. Assumes nothing.
use mathlib.Core.Path.{◌∙◌}
use Rattle.standard.specs.Bits.{bit_at}
use Rattle.control.proofs.Writing.{crc_is}
use Rattle.control.proofs.crc_in.Goals as goal

pub returns : goal.returns
returns c = c.crc_from.ensures ∙ crc_is (bit_at c.args.sequence.now)
