-- The size of each entry is added. Assumes nothing.
use Rattle.standard.specs.Settings.{entry_size}
use Rattle.entries.specs.Entries.{sizes}
use Rattle.entries.proofs.Sums.{Summing}
use Rattle.entries.proofs.Entries.size_of.Given as goal

abbrev pub invariant-loop : goal.invariant-loop
invariant-loop l = Summing l.self (sizes l.w) (entry_size l.w) 263 l.at l.found l.counter
