-- Low byte first. Assumes nothing.
use mathlib.Core.Path.{◌≡◌}
use Prim.Native.Nat.{◌-◌}
use lib.ListN.{drop}
use Rattle.standard.specs.Settings.{little}
use Rattle.laying.proofs.Laying.{Pasting}
use Rattle.laying.proofs.put_number.Given as goal

abbrev pub invariant-loop-i : goal.invariant-loop-i
invariant-loop-i l = Pasting l.initial.out (little l.w l.v) l.to l.w l.out l.i × (drop l.i (little l.w l.v) ≡ little (l.w - l.i) l.rest)
