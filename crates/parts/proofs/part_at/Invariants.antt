-- Turn i goes to the start of part i + 1. Assumes nothing.
use mathlib.Core.Path.{◌≡◌}
use Prim.Native.Nat.{◌-◌, ◌≤◌}
use lib.ListN.{length, drop}
use Rattle.parts.specs.Parts.{parts_from}
use Rattle.parts.proofs.part_at.Given as goal

abbrev pub invariant-loop-i : goal.invariant-loop-i
invariant-loop-i l = (l.i ≤ l.k) × (l.start ≤ length l.text) × (parts_from l.e l.k l.text ≡ parts_from l.e (l.k - l.i) (drop l.start l.text))
