-- `dil::put_segment` meets its contract. The loop's invariant: the first k places hold the segment's first k symbols. Assumes nothing.
use Rattle.standard.proofs.Dil.{symbol_of}
use Rattle.standard.proofs.Filling.{Filled}
use Rattle.dil.proofs.put_segment.Given as goal

abbrev pub invariant-loop-k : goal.invariant-loop-k
invariant-loop-k l = Filled (symbol_of l.law l.training) 12 l.octets l.k
