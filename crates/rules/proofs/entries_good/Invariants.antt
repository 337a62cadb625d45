-- What is left to walk. Assumes nothing.
use Rattle.rules.proofs.Walking.{Walking}
use Rattle.rules.proofs.entries_good.Given as goal

abbrev pub invariant-loop : goal.invariant-loop
invariant-loop l =
    Walking l.entries.start l.entries.file.now l.fn.end l.last l.most l.entries.count l.at l.before l.bar l.follow l.seen l.counter
