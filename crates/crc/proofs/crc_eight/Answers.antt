-- The formula of the low byte, and the high byte shifted down. Assumes nothing.
use native.Mathlib.Omega.{arith}
use Rattle.crc.proofs.Crc.{zeros_eight}
use Rattle.crc.proofs.crc_eight.Goals as goal

pub returns : goal.returns
returns c = zeros_eight c.args.register (omega arith)
