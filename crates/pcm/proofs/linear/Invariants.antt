-- `pcm::linear` meets its contract. The loop's invariant: the first i places of `samples` hold the linear values of the first i octets.
-- Assumes nothing.
use mathlib.Core.Path.{◌≡◌}
use mathlib.Core.List.{◌++◌}
use lib.ListN.{length, drop}
use Rattle.standard.specs.Lists.{list_from}
use Rattle.pcm.proofs.Calls.{sample_at}
use Rattle.pcm.proofs.linear.Given as goal

abbrev pub invariant-loop-i : goal.invariant-loop-i
invariant-loop-i l =
    (length l.samples ≡ length l.initial.samples) × (l.samples ≡ list_from (sample_at l.law l.octets) 0 l.i ++ drop l.i l.initial.samples)
