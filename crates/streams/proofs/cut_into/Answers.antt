-- After n turns the first n frames are cut. Assumes nothing.
use mathlib.Core.Path.{◌≡◌}
use native.Mathlib.Omega.{arith}
use Rattle.streams.proofs.Widths.{cutting_none, cutting_more, cutting_ends, cut_all}
use Rattle.streams.proofs.cut_into.Goals as goal

pub loop-frames-init : goal.loop-frames-init
loop-frames-init c = cutting_none _ _ _ _

pub returns-then-left-next : goal.returns-then-left-next
returns-then-left-next c =
    let a = c.args in
    cutting_ends a.r a.control a.place _ c.requires.1 c.loop-frames.invariant
    c.width_at-next.ensures.0 c.cut_rest.ensures

pub loop-frames-preserved : goal.loop-frames-preserved
loop-frames-preserved c =
    let a = c.args in
    cutting_more a.r a.control a.place _ c.requires.1 c.loop-frames.invariant
    c.width_at-next.ensures.0 (omega arith)

pub returns : goal.returns
returns c =
    let l = c.loop-frames in
    let e : l.frames ≡ 1024 = omega arith in
    cut_all _ _ _ _ _ _ c.requires.1 c.requires.2 (rw e at l.invariant)
