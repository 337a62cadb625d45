-- Turn i fills in the size of interval i. Assumes nothing.
use mathlib.Core.Path.{◌≡◌, refl, ap, ◌∙◌}
use Prim.Native.Nat.{◌<◌}
use native.Mathlib.Omega.{arith}
use Rattle.standard.specs.Constellation.{size_of, size, sizes}
use Rattle.constellation.specs.Mask.{has}
use Rattle.constellation.specs.declared.Mask.{Mask}
use Rattle.standard.proofs.Filling.{filled_none, filled_more, filled-all}
use Rattle.constellation.proofs.Masks.{mask_size}
use Rattle.constellation.proofs.sizes_of.Goals as goal

pub loop-i-init : goal.loop-i-init
loop-i-init c = filled_none _ 6 _ refl

pub mask_of-requires : goal.mask_of-requires
mask_of-requires c = let l : c.loop-i.i < 6 = omega arith in (l, c.requires c.loop-i.i l)

pub loop-i-preserved : goal.loop-i-preserved
loop-i-preserved c =
    let l = c.loop-i in
    let r = c.args.r in
    let e : c.size_of.result ≡ size r l.i = c.size_of.ensures ∙ ap (λ (m : Mask). size_of (has m) 128) c.mask_of.ensures
    ∙ mask_size r l.i in
    filled_more _ l.invariant (omega arith) e

pub returns : goal.returns
unfolding sizes
returns c =
    let e : c.loop-i.i ≡ 6 = omega arith in
    filled-all (rw e at c.loop-i.invariant)
