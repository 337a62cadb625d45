-- High byte first, down to the low one. Assumes nothing.
use mathlib.Core.Path.{◌≡◌}
use Prim.Native.Nat.{◌+◌, ◌-◌, ◌*◌, ◌^◌, ◌<◌, ◌≤◌}
use Rattle.standard.specs.Settings.{little_at}
use Rattle.entries.proofs.number_at.Given as goal

abbrev pub invariant-loop-i : goal.invariant-loop-i
invariant-loop-i l = (l.i ≤ l.w) × (l.value ≡ little_at l.s (l.at + l.i) (l.w - l.i)) × (l.value < 2 ^ (8 * (l.w - l.i)))
