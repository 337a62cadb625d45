-- After each turn the digits from place i on form the number. Assumes nothing.
use mathlib.Core.Path.{◌≡◌}
use native.Mathlib.Omega.{arith}
use Rattle.unaligned.proofs.Digits.{formed_none, formed_more, formed_small}
use Rattle.unaligned.proofs.number_of.Goals as goal

pub overflow_mul-number : goal.overflow_mul-number
overflow_mul-number c = omega (arith, formed_small c.loop-i.invariant c.requires)

pub overflow_add-number : goal.overflow_add-number
overflow_add-number c = omega (arith, formed_small c.loop-i.invariant c.requires)

pub loop-i-preserved : goal.loop-i-preserved
loop-i-preserved c = formed_more c.loop-i.invariant (omega arith) c.from.ensures

pub returns : goal.returns
returns c =
    let l = c.loop-i in
    let e : l.i ≡ 0 = omega arith in
    let f = rw e at l.invariant in
    f.value

pub loop-i-init : goal.loop-i-init
loop-i-init c = formed_none _
