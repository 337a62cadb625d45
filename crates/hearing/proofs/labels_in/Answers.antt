-- Turn i looks up the label of interval i. Assumes nothing.
use mathlib.Core.Path.{◌≡◌, refl, ap}
use Prim.Native.Nat.{ℕ}
use mathlib.Core.List.{[]}
use native.Mathlib.Omega.{arith}
use lib.ListN.{get_or}
use Rattle.standard.proofs.Filling.{filled_none, filled_more, filled-all}
use Rattle.hearing.specs.Legible.{label_in}
use Rattle.hearing.proofs.labels_in.Goals as goal

pub loop-i-init : goal.loop-i-init
loop-i-init c = filled_none _ 6 _ refl

pub overflow_cast-u : goal.overflow_cast-u
overflow_cast-u c = omega (arith, c.ucode_of-u.ensures.1)

pub bounds-labels-u : goal.bounds-labels-u
bounds-labels-u c = c.ucode_of-u.ensures.1

pub loop-i-preserved : goal.loop-i-preserved
unfolding label_in
loop-i-preserved c =
    let l = c.loop-i in
    let t = get_or c.args.labels.now l.i [] in
    filled_more _ l.invariant (omega arith) (ap (λ (u : ℕ). get_or t u 0) c.ucode_of-u.ensures.0)

pub returns : goal.returns
returns c = let e : c.loop-i.i ≡ 6 = omega arith in filled-all (rw e at c.loop-i.invariant)
