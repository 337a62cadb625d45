-- The parts from part k on are left after k turns. Assumes nothing.
use mathlib.Core.Path.{◌≡◌, sym, ◌∙◌}
use Prim.Native.Nat.{◌-◌}
use native.Mathlib.Omega.{arith}
use Rattle.parts.specs.Parts.{part_count, which_from}
use Rattle.parts.proofs.Turns.{which_turn}
use Rattle.parts.proofs.which.Goals as goal

pub returns-then-same : goal.returns-then-same
returns-then-same c =
    let l = c.loop-k in
    let t = rw (c.same.ensures, c.nth_part.ensures) at c.if-same.true in
    sym (which_turn _ _ _ l.k _ (rw c.part_count-k-end.ensures.0 at c.loop-k-test.true) t ∙ l.invariant)

pub loop-k-preserved : goal.loop-k-preserved
loop-k-preserved c =
    let l = c.loop-k in
    let t = rw (c.same.ensures, c.nth_part.ensures) at c.if-same.false in
    which_turn _ _ _ l.k _ (rw c.part_count-k-end.ensures.0 at c.loop-k-test.true) t ∙ l.invariant

pub returns : goal.returns
unfolding which_from
returns c =
    let l = c.loop-k in
    let over = rw c.part_count-k-end.ensures.0 at c.loop-k-test.false in
    let z : part_count c.args.e c.args.text.now - l.k ≡ 0 = omega (arith, over) in
    sym (rw z at l.invariant)
