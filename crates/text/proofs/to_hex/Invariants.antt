-- Turn k puts the two characters of byte k. Assumes nothing.
use Prim.Native.Nat.{◌*◌}
use lib.ListN.{length}
use Rattle.text.specs.Hex.{char_of}
use Rattle.text.proofs.Putting.{Put}
use Rattle.text.proofs.to_hex.Given as goal

abbrev pub invariant-loop-k : goal.invariant-loop-k
invariant-loop-k l = Put (char_of l.bytes) l.initial.text (2 * length l.bytes) l.text (2 * l.k)
