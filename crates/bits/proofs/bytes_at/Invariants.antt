-- After j turns the word is the field of the first j bytes. Assumes nothing.
use mathlib.Core.Path.{◌≡◌}
use Prim.Native.Nat.{◌*◌}
use Rattle.standard.specs.Bits.{bit_at, field}
use Rattle.bits.proofs.bytes_at.Given as goal

abbrev pub invariant-loop-j : goal.invariant-loop-j
invariant-loop-j l = l.word ≡ field (bit_at l.bytes) (8 * l.i) (8 * l.j)
