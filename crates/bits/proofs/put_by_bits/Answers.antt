-- `bits::put_by_bits` meets its contract. The loop's invariant: the i lowest bits of `value` are put. Assumes nothing.
use mathlib.Core.Path.{◌≡◌, sym, ap, ◌∙◌}
use Prim.Native.Nat.{ℕ}
use native.Mathlib.Omega.{arith}
use Rattle.bits.specs.PutField.{put_field}
use Rattle.bits.proofs.PutField.{put_field-none, put_field_step}
use Rattle.bits.proofs.put_by_bits.Goals as goal

pub loop-i-init : goal.loop-i-init
loop-i-init c =
    let a = c.args in
    sym (put_field-none a.bytes.now a.at a.value (λ i. omega (arith, c.type_inv.bytes i)))

pub loop-i-preserved : goal.loop-i-preserved
loop-i-preserved c =
    let a = c.args in
    let l = c.loop-i in
    let call = c.put_bit in
    put_field_step a.bytes.now l.bytes call.new.bytes a.at l.i 1 a.value l.invariant call.ensures

pub returns : goal.returns
returns c =
    let a = c.args in
    let e : c.loop-i.i ≡ a.width = omega arith in
    c.loop-i.invariant ∙ ap (λ (k : ℕ). put_field a.bytes.now a.at k a.value) e
