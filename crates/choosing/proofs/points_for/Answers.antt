-- The numbers below m are too small: the search goes on from m. Assumes nothing.
use mathlib.Core.Path.{◌≡◌, refl, sym, ◌∙◌}
use Prim.Native.Nat.{◌^◌, ◌≤◌, ◌<◌}
use native.Mathlib.Omega.{arith}
use Rattle.standard.specs.Lists.{lowest_from}
use Rattle.standard.specs.Plan.{points_for}
use Rattle.standard.proofs.Words.{one_shifted}
use Rattle.choosing.proofs.Choosing.{search_past, search_hit}
use Rattle.choosing.proofs.points_for.Goals as goal

pub loop-m-init : goal.loop-m-init
unfolding points_for
loop-m-init c = (one_shifted c.args.k (omega arith), refl)

pub loop-m-preserved : goal.loop-m-preserved
loop-m-preserved c =
    let i = c.loop-m.invariant in
    let small : c.loop-m.m ^ 6 < 2 ^ c.args.k = omega (arith, c.sixth_power.ensures, i.0) in
    (i.0, i.1 ∙ search_past c.args.k c.loop-m.m (omega arith) small)

pub returns-then-least-sixth_power : goal.returns-then-least-sixth_power
returns-then-least-sixth_power c =
    let i = c.loop-m.invariant in
    let enough : 2 ^ c.args.k ≤ c.loop-m.m ^ 6 = omega (arith, c.sixth_power.ensures, i.0) in
    (sym (i.1 ∙ search_hit c.args.k c.loop-m.m enough), omega arith)

-- 128 is large enough
pub returns : goal.returns
unfolding lowest_from
returns c =
    let e : c.loop-m.m ≡ 128 = omega arith in
    (sym (rw e at c.loop-m.invariant.1), omega arith)
