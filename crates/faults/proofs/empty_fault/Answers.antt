-- The tests from interval i on are left after i turns. Assumes nothing.
use mathlib.Core.Path.{◌≡◌, sym, ap, ◌∙◌}
use Prim.Native.Nat.{◌<◌}
use native.Mathlib.Omega.{arith}
use Rattle.standard.specs.Refusals.{empty_test, empty_tests}
use Rattle.standard.proofs.First.{first_from, turn_hit, turn_past, turns_over}
use Rattle.faults.proofs.empty_fault.Goals as goal

pub interval_empty-requires : goal.interval_empty-requires
interval_empty-requires c = let h : c.loop-i.i < 6 = omega arith in (h, c.requires c.loop-i.i h)

pub returns-then-interval_empty : goal.returns-then-interval_empty
unfolding empty_tests empty_test
returns-then-interval_empty c =
    let l = c.loop-i in
    sym (l.invariant ∙ turn_hit (empty_test c.args.r) 6 l.i (omega arith) (sym c.interval_empty.ensures ∙ c.if-interval_empty.true))

pub loop-i-preserved : goal.loop-i-preserved
unfolding empty_test
loop-i-preserved c =
    let l = c.loop-i in
    l.invariant ∙ turn_past (empty_test c.args.r) 6 l.i (omega arith) (sym c.interval_empty.ensures ∙ c.if-interval_empty.false)

pub returns : goal.returns
unfolding empty_tests
returns c =
    let l = c.loop-i in
    let r = c.args.r in
    let e : l.i ≡ 6 = omega arith in
    sym (l.invariant ∙ ap (first_from (empty_test r) 6) e ∙ turns_over (empty_test r) 6)
