-- After i turns the count is that of the first i bits, and so at most i. Assumes nothing.
use mathlib.Core.Path.{◌≡◌, ap, ◌∙◌}
use native.Mathlib.Omega.{arith}
use Rattle.standard.specs.Bits.{bit_at}
use Rattle.unaligned.specs.Later.{differing}
use Rattle.unaligned.proofs.Later.{counted_none, counted_more}
use Rattle.unaligned.proofs.differing.Goals as goal

pub overflow_add-differ : goal.overflow_add-differ
overflow_add-differ c =
    let more = counted_more c.loop-i.invariant c.bit_at.ensures c.bit_at-in-loop-i.ensures in
    omega arith

pub loop-i-preserved : goal.loop-i-preserved
loop-i-preserved c = counted_more c.loop-i.invariant c.bit_at.ensures c.bit_at-in-loop-i.ensures

pub returns : goal.returns
returns c =
    let a = c.args in
    let e : c.loop-i.i ≡ a.count = omega arith in
    c.loop-i.invariant.value ∙ ap (differing (bit_at a.a.now) (bit_at a.b.now) a.at) e

pub loop-i-init : goal.loop-i-init
loop-i-init c = counted_none _ _ _
