-- Each current entry is counted. Assumes nothing.
use Rattle.standard.specs.Settings.{junctions}
use Rattle.entries.proofs.Sums.{Summing, current_one}
use Rattle.entries.proofs.Entries.junctions.Given as goal

abbrev pub invariant-loop : goal.invariant-loop
invariant-loop l = Summing l.self junctions current_one 1 l.at l.found l.counter
