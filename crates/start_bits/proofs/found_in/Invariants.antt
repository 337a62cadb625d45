-- `found_in` meets its contract. The loop's invariant is `Finding`: what is left to look at gives what is found. Assumes nothing.
use Rattle.start_bits.specs.Loops.{Finding}
use Rattle.start_bits.proofs.found_in.Given as goal

abbrev pub invariant-loop-k : goal.invariant-loop-k
invariant-loop-k l = Finding l.octets l.history l.sign l.k
