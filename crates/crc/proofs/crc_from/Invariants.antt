-- The register when the first `done` bits have passed. Assumes nothing.
use mathlib.Core.Path.{◌≡◌}
use Prim.Native.Nat.{◌-◌, ◌≤◌}
use Rattle.standard.specs.Lists.{list_from, after}
use Rattle.standard.specs.Bits.{bit_at}
use Rattle.standard.specs.Crc.{crc_step}
use Rattle.crc.proofs.crc_from.Given as goal

abbrev pub invariant-loop-done : goal.invariant-loop-done
invariant-loop-done l = (l.done ≤ l.count) × (l.crc ≡ after crc_step l.register (list_from (bit_at l.bytes) l.at l.done))

abbrev pub decreases-loop-done : goal.decreases-loop-done
decreases-loop-done l = l.count - l.done
