-- The labels from interval i on form the number. Assumes nothing.
use mathlib.Core.Path.{◌≡◌}
use Prim.Native.Nat.{◌<◌}
use native.Mathlib.Omega.{arith}
use Rattle.hearing.proofs.Hearing.{formed_none, formed_more, formed_fits}
use Rattle.hearing.proofs.number_of.Goals as goal

pub loop-i-init : goal.loop-i-init
loop-i-init c = formed_none _ _ (omega arith)

pub overflow_mul-number : goal.overflow_mul-number
overflow_mul-number c =
    let l = c.loop-i in
    omega (
      arith,
      formed_fits _ _ (omega arith) c.requires l.number l.i l.invariant (omega arith) (omega arith) 0
          (omega arith),
    )

pub overflow_add-number : goal.overflow_add-number
overflow_add-number c =
    let l = c.loop-i in
    let small : c.from.result < 256 = omega arith in
    omega (
      arith,
      formed_fits _ _ (omega arith) c.requires l.number l.i l.invariant (omega arith) (omega arith)
          c.from.result small,
    )

pub loop-i-preserved : goal.loop-i-preserved
loop-i-preserved c =
    let l = c.loop-i in
    let small : c.from.result < 256 = omega arith in
    formed_more _ _ (omega arith) c.requires l.number l.i l.invariant (omega arith) (omega arith) _ small (omega arith) c.from.ensures

pub returns : goal.returns
returns c = let e : c.loop-i.i ≡ 0 = omega arith in (rw e at c.loop-i.invariant).value
