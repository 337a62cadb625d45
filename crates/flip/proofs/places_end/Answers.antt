-- Assumes nothing.
use native.Mathlib.Omega.{arith}
use Rattle.flip.proofs.places_end.Goals as goal

pub returns : goal.returns
returns c = (omega (arith, c.next_sign.ensures.0), omega (arith, c.next_sign.ensures.1))
