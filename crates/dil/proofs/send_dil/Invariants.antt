-- `dil::send_dil` meets its contract. The loop's invariant: the first n segments are written. Assumes nothing.
use mathlib.Core.Path.{◌≡◌}
use Rattle.dil.proofs.Calls.{with_segments}
use Rattle.dil.proofs.send_dil.Given as goal

abbrev pub invariant-loop-n : goal.invariant-loop-n
invariant-loop-n l = l.octets ≡ with_segments l.law l.initial.octets l.n
