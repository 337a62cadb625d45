-- After i turns they are the bits of the first i frames. Assumes nothing.
use mathlib.Core.Path.{◌≡◌}
use native.Mathlib.Omega.{arith}
use Rattle.streams.proofs.Widths.{summed_none, summed_more}
use Rattle.streams.proofs.bits_in.Goals as goal

pub loop-i-preserved : goal.loop-i-preserved
loop-i-preserved c =
    let l = c.loop-i in
    summed_more _ c.requires.1 l.invariant c.width_at-bits.ensures

pub returns : goal.returns
returns c =
    let l = c.loop-i in
    let e : l.i ≡ c.args.frames = omega arith in
    let s = rw e at l.invariant in
    (s.value, s.least, s.most)

pub loop-i-init : goal.loop-i-init
loop-i-init c = summed_none _ _ _
