-- Each current entry is counted. Assumes nothing.
use native.Mathlib.Omega.{arith}
use Rattle.standard.specs.Settings.{entry_at, junctions}
use Rattle.entries.proofs.Sums.{sum_more, sum-all, current_one, adds_junctions, bit}
use Rattle.entries.proofs.Entries.junctions.Goals as goal

pub loop-preserved : goal.loop-preserved
unfolding entry_at
loop-preserved c =
    let a = c.args in
    let l = c.loop in
    let one = bit _ _ c.from-found.ensures in
    sum_more a.self.now junctions current_one 1 l.at l.found l.counter l.invariant adds_junctions (omega arith) _ _ one.0
    one.1 c.next_at-at.ensures.0

pub returns-clause-value : goal.returns-clause-value
returns-clause-value c =
    let l = c.loop in
    sum-all c.args.self.now junctions current_one 1 l.at l.found l.counter l.invariant adds_junctions (omega arith)
