-- Turn i fills byte i, and the value is that of the next. Assumes nothing.
use mathlib.Core.Path.{◌≡◌, refl, ap, ◌∙◌}
use Prim.Native.Nat.{ℕ, ◌+◌, ◌*◌}
use native.Mathlib.Nat.{mul-add, mul-one, mul-zero}
use native.Mathlib.Omega.{arith}
use lib.ListN.{length}
use Rattle.standard.proofs.Filling.{filled_none, filled_more, filled-all}
use Rattle.cases.specs.Cases.{filling}
use Rattle.cases.proofs.fill.Goals as goal

pub loop-byte-init : goal.loop-byte-init
unfolding filling
loop-byte-init c =
    let a = c.args in
    let none : a.step * 0 ≡ 0 = mul-zero a.step in
    (omega (arith, none), filled_none _ _ a.buffer.now refl)

pub loop-byte-preserved : goal.loop-byte-preserved
unfolding filling
loop-byte-preserved c =
    let a = c.args in
    let l = c.loop-byte in
    let i = l.byte-index in
    let more : a.step * (i + 1) ≡ a.step * i + a.step = mul-add a.step i 1 ∙ ap (λ (n : ℕ). a.step * i + n) (mul-one a.step) in
    (omega (arith, more), filled_more l.value l.invariant.1 (omega arith) l.invariant.0)

pub returns : goal.returns
returns c =
    let l = c.loop-byte in
    let n = length c.args.buffer.now in
    let over : l.byte-index ≡ n = omega (arith, l.invariant.1.long) in
    filled-all (rw over at l.invariant.1)
