-- Turn k puts byte k. Assumes nothing.
use Rattle.text.specs.Hex.{byte_in}
use Rattle.text.proofs.Putting.{Put}
use Rattle.text.proofs.from_hex.Given as goal

abbrev pub invariant-loop-k : goal.invariant-loop-k
invariant-loop-k l = Put (byte_in l.text) l.initial.bytes l.count l.bytes l.k
