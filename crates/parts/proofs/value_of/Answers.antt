-- The number so far is below 10 ^ i after i digits, and the others are left to say. Assumes nothing.
use Prim.Native.Nat.{◌<◌}
use native.Mathlib.Omega.{arith}
use lib.ListN.{length, drop_of_length-le}
use Rattle.parts.specs.Parts.{value_from}
use Rattle.parts.proofs.Digits.{next_digit}
use Rattle.parts.proofs.Turns.{left_at}
use Rattle.parts.proofs.value_of.Goals as goal

pub loop-c-preserved : goal.loop-c-preserved
unfolding value_from
loop-c-preserved c =
    let l = c.loop-c in
    let word = c.args.word.now in
    let h : l.c-index < length word = omega arith in
    let n = next_digit word l.c-index l.value c.requires.1 c.requires.0 h l.invariant.0 in
    (n.0, rw (left_at word l.c-index h) at l.invariant.1)

pub returns : goal.returns
unfolding value_from
returns c = rw (drop_of_length-le _ c.loop-c-test.false) at c.loop-c.invariant.1

pub overflow_mul-value : goal.overflow_mul-value
overflow_mul-value c =
    omega (arith, next_digit c.args.word.now c.loop-c.c-index c.loop-c.value c.requires.1 c.requires.0 (omega arith) c.loop-c.invariant.0)

pub overflow_add-value : goal.overflow_add-value
overflow_add-value c =
    omega (arith, next_digit c.args.word.now c.loop-c.c-index c.loop-c.value c.requires.1 c.requires.0 (omega arith) c.loop-c.invariant.0)
