-- The mask of interval i has as many members as its size says. Assumes nothing.
use mathlib.Core.Path.{ap, ap₂, ◌∙◌}
use Prim.Native.Nat.{ℕ}
use mathlib.Core.Bool.{Bool, ◌&&◌}
use lib.Dec.{eqb}
use Rattle.standard.specs.Constellation.{size_of}
use Rattle.standard.specs.Refusals.{interval_empty}
use Rattle.constellation.specs.Mask.{has}
use Rattle.constellation.specs.declared.Mask.{Mask}
use Rattle.constellation.proofs.Masks.{mask_size}
use Rattle.faults.proofs.interval_empty.Goals as goal

pub returns : goal.returns
unfolding interval_empty
returns c =
    let a = c.args in
    ap₂ (λ (b : Bool) (n : ℕ). b && eqb n 0) c.rated.ensures
    (c.size_of.ensures ∙ ap (λ (m : Mask). size_of (has m) 128) c.mask_of.ensures ∙ mask_size a.r a.i)
