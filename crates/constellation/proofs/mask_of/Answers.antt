-- The halves of mask m are elements 2 m and 2 m + 1. Assumes nothing.
use mathlib.Core.Path.{refl}
use Rattle.constellation.specs.Mask.{mask_of}
use Rattle.constellation.proofs.mask_of.Goals as goal

pub returns : goal.returns
unfolding mask_of
returns c = refl
