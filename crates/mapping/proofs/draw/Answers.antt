-- The lower half, and then the upper one. Assumes nothing.
use native.Mathlib.Omega.{arith}
use Rattle.constellation.specs.Mask.{has}
use Rattle.mapping.proofs.Drawing.{drawing_low, drawing_high, drawing_done}
use Rattle.mapping.proofs.draw.Goals as goal

pub draw_half-requires : goal.draw_half-requires
draw_half-requires c = let m = c.args.m in
    (omega arith, (has m, drawing_low m _ c.size_of.ensures))

pub draw_half-requires-2 : goal.draw_half-requires-2
draw_half-requires-2 c =
    let m = c.args.m in
    let low = c.draw_half.ensures (has m)
    (drawing_low m _ c.size_of.ensures) in
    (omega arith, (has m, drawing_high m _ _ _ c.label_of.ensures low))

pub returns : goal.returns
returns c =
    let m = c.args.m in
    let low = c.draw_half.ensures (has m)
    (drawing_low m _ c.size_of.ensures) in
    drawing_done m _ _ (c.draw_half-2.ensures (has m) (drawing_high m _ _ _ c.label_of.ensures low))
