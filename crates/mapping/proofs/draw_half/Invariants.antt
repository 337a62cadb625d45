-- A turn takes the lowest one off what is left of the half. Assumes nothing.
use Prim.Native.Nat.{ℕ, ◌^◌, ◌<◌}
use mathlib.Core.Bool.{Bool}
use Rattle.mapping.specs.Drawing.{left_in, Drawing}
use Rattle.mapping.proofs.draw_half.Given as goal

abbrev pub invariant-loop-left : goal.invariant-loop-left
invariant-loop-left l =
    (l.left < 2 ^ 64)
    × ((m : ℕ → Bool) → Drawing m (left_in l.half l.first m) l.initial.points l.initial.labels l.end → Drawing m (left_in l.left l.first m) l.points l.labels l.c)

abbrev pub decreases-loop-left : goal.decreases-loop-left
decreases-loop-left l = l.left
