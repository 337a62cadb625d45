-- Turn i draws up the tables of interval i. Assumes nothing.
use mathlib.Core.Path.{◌≡◌}
use Prim.Native.Nat.{◌<◌}
use native.Mathlib.Omega.{arith}
use Rattle.mapping.proofs.Tables.{before-none, before_more, before-all, mapped}
use Rattle.mapping.proofs.draw_up.Goals as goal

pub loop-i-init : goal.loop-i-init
loop-i-init c = before-none _ _ _ (omega arith) (omega arith)

pub draw_interval-requires : goal.draw_interval-requires
draw_interval-requires c =
    let l = c.loop-i in
    let h : l.i < 6 = omega arith in
    (h, c.requires l.i h, l.invariant)

pub loop-i-preserved : goal.loop-i-preserved
loop-i-preserved c =
    let l = c.loop-i in
    let r = c.args.r in
    let d = c.draw_interval.ensures in
    rw (d.0, d.1) (before_more r l.points l.labels l.i (omega arith) l.invariant)

pub returns : goal.returns
returns c =
    let l = c.loop-i in
    let e : l.i ≡ 6 = omega arith in
    let all = before-all _ l.points l.labels (rw e at l.invariant) in
    (mapped _ _ _ _ c.k_of.ensures c.d_of.ensures c.sizes_of.ensures, all.0, all.1)
