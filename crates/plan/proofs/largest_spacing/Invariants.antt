-- No spacing above the one at hand is accepted. Assumes nothing.
use mathlib.Core.Path.{◌≡◌}
use Prim.Native.Nat.{◌-◌}
use Rattle.plan.specs.Spacing.{highest, is_accepted, largest_spacing}
use Rattle.plan.proofs.largest_spacing.Given as goal

abbrev pub invariant-loop-spacing : goal.invariant-loop-spacing
invariant-loop-spacing l = largest_spacing l.k l.law l.ceiling ≡ highest (is_accepted l.k l.law l.ceiling) (l.spacing - 1)
