-- Every 64th frame and the first are control frames, and sixteen of those make a sequence. Assumes nothing.
use native.Mathlib.Omega.{arith}
use Rattle.streams.proofs.sequences_in.Goals as goal

pub returns : goal.returns
returns c = (omega arith, omega arith)
