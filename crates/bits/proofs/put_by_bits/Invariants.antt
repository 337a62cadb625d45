-- `bits::put_by_bits` meets its contract. The loop's invariant: the i lowest bits of `value` are put. Assumes nothing.
use mathlib.Core.Path.{◌≡◌}
use Rattle.bits.specs.PutField.{put_field}
use Rattle.bits.proofs.put_by_bits.Given as goal

abbrev pub invariant-loop-i : goal.invariant-loop-i
invariant-loop-i l = l.bytes ≡ put_field l.initial.bytes l.at l.i l.value
