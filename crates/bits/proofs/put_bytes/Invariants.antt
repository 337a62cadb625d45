-- After j turns the first j bytes of the word are put. Assumes nothing.
use mathlib.Core.Path.{◌≡◌}
use Prim.Native.Nat.{◌*◌}
use Rattle.bits.specs.PutField.{put_field}
use Rattle.bits.proofs.put_bytes.Given as goal

abbrev pub invariant-loop-j : goal.invariant-loop-j
invariant-loop-j l = l.bytes ≡ put_field l.initial.bytes (8 * l.i) (8 * l.j) l.word
