-- A turn adds a character; the characters from here on are left. Assumes nothing.
use Prim.Native.Nat.{◌<◌}
use native.Mathlib.Omega.{arith}
use lib.ListN.{length, drop_of_length-le}
use Rattle.words.proofs.Adding.{added_none, added-both}
use Rattle.parts.proofs.Turns.{left_at}
use Rattle.words.proofs.add_shown.Goals as goal

pub loop-c-preserved : goal.loop-c-preserved
loop-c-preserved c =
    let l = c.loop-c in
    let name = c.args.name.now in
    let h : l.c-index < length name = omega arith in
    λ u e d. l.invariant u e (rw (left_at name l.c-index h) (added-both (rw c.shown.ensures at c.put-end.ensures) d))

pub returns : goal.returns
returns c = (rw (drop_of_length-le _ c.loop-c-test.false) at c.loop-c.invariant) _ _ added_none
