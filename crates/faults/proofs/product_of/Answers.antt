-- The product of the first sizes, at most 128 each. Assumes nothing.
use mathlib.Core.Path.{◌≡◌, refl, ap, ◌∙◌}
use Prim.Native.Nat.{◌+◌, ◌*◌, ◌<◌}
use native.Mathlib.Omega.{arith}
use lib.ListN.{length, get_or, take}
use lib.Seq.{take_all}
use Rattle.standard.specs.Constellation.{sizes}
use Rattle.standard.specs.Modulus.{product}
use Rattle.faults.proofs.Faults.{product_next, product_lt, length-sizes}
use Rattle.faults.proofs.product_of.Goals as goal

-- one size more
next : (c : goal.In-loop-size) → c.loop-size.found * get_or c.sizes_of-size-items.result c.loop-size.size-index 0
    ≡ product (take (c.loop-size.size-index + 1) (sizes c.args.r))
next c =
    let l = c.loop-size in
    let h : l.size-index < length (sizes c.args.r) = omega (arith, length-sizes c.args.r) in
    rw (l.invariant, c.sizes_of-size-items.ensures) (product_next (sizes c.args.r) l.size-index h)

pub loop-size-init : goal.loop-size-init
unfolding product
loop-size-init c = refl

pub overflow_mul-found : goal.overflow_mul-found
overflow_mul-found c = record { fits = rw (next c) (product_lt c.args.r (c.loop-size.size-index + 1) (omega arith)) }

pub loop-size-preserved : goal.loop-size-preserved
loop-size-preserved c = next c

pub returns : goal.returns
returns c =
    let r = c.args.r in
    c.loop-size.invariant ∙ ap product (take_all c.loop-size.size-index (sizes r) (omega (arith, length-sizes r)))
