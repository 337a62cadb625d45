-- A turn adds what a character stands for; what the characters from here on say is left. Assumes nothing.
use Prim.Native.Nat.{◌<◌}
use native.Mathlib.Omega.{arith}
use lib.Dec.{eqb}
use lib.ListN.{length, get_or, drop_of_length-le}
use Rattle.standard.proofs.Bits.{weight-lt}
use Rattle.words.specs.Message.{piece, message_from}
use Rattle.words.proofs.Adding.{added_none, added-both}
use Rattle.parts.proofs.Turns.{left_at}
use Rattle.words.proofs.add_message.Goals as goal

pub loop-c-preserved : goal.loop-c-preserved
unfolding message_from
loop-c-preserved c =
    let l = c.loop-c in
    let a = c.args in
    let template = a.template.now in
    let i = l.c-index in
    let p = piece a.values.now a.name.now l.k (get_or template i 0) in
    let h : i < length template = omega arith in (
      omega (arith, weight-lt (eqb (get_or template i 0) 35)),
      λ u e d. l.invariant.1 u e (rw (left_at template i h) (added-both {xs = p} c.add_piece-end.ensures d)),
    )

pub returns : goal.returns
unfolding message_from
returns c =
    let a = (rw (drop_of_length-le _ c.loop-c-test.false) at c.loop-c.invariant.1) _ _ added_none in
    (a.place, a.text)
