-- Each entry below is counted. Assumes nothing.
use mathlib.Core.Path.{ap, ◌∙◌}
use mathlib.Core.Bool.{cond}
use Prim.Native.Nat.{ℕ}
use native.Mathlib.Omega.{arith}
use lib.Dec.{ltb}
use Rattle.standard.specs.Settings.{entry_at}
use Rattle.entries.proofs.Sums.{sum_more, sum-all, below_one, adds_below, bit}
use Rattle.entries.proofs.Entries.count_below.Invariants.{counted}
use Rattle.entries.proofs.Entries.count_below.Goals as goal

pub loop-preserved : goal.loop-preserved
unfolding entry_at
loop-preserved c =
    let a = c.args in
    let l = c.loop in
    let one = bit _ _ c.from-found.ensures in
    sum_more a.self.now (counted a.j) (below_one a.j) 1 l.at l.found l.counter l.invariant (adds_below a.j)
    (omega arith) _ _ (one.0 ∙ ap (λ (x : ℕ). cond (ltb x a.j) 1 0) c.number_at.ensures.value) one.1 c.next_at-at.ensures.0

pub returns-clause-value : goal.returns-clause-value
returns-clause-value c =
    let a = c.args in
    let l = c.loop in
    sum-all a.self.now (counted a.j) (below_one a.j) 1 l.at l.found l.counter l.invariant (adds_below a.j) (omega arith)
