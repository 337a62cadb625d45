-- `bits::field_by_bits` meets its contract. The loop's invariant: the value is the field of the bits from bit i on. Assumes nothing.
use mathlib.Core.Path.{◌≡◌}
use Prim.Native.Nat.{◌+◌, ◌-◌}
use Rattle.standard.specs.Bits.{bit_at, field}
use Rattle.bits.proofs.field_by_bits.Given as goal

abbrev pub invariant-loop-i : goal.invariant-loop-i
invariant-loop-i l = l.value ≡ field (bit_at l.bytes) (l.at + l.i) (l.width - l.i)
