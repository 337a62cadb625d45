-- `bits::field_by_bits` meets its contract. The loop's invariant: the value is the field of the bits from bit i on. Assumes nothing.
use mathlib.Core.Path.{◌≡◌, sym, ap, ap₂, ◌∙◌}
use Prim.Native.Nat.{◌+◌, ◌-◌}
use native.Mathlib.Omega.{arith}
use Rattle.standard.specs.Bits.{bit_at, field}
use Rattle.standard.proofs.Bits.{weight-lt}
use Rattle.standard.proofs.Words.{byte_weight}
use Rattle.bits.proofs.Bits.{field-small, field_step}
use Rattle.bits.proofs.field_by_bits.Goals as goal

pub loop-i-init : goal.loop-i-init
unfolding field
loop-i-init c =
    let a = c.args in
    let none : a.width - a.width ≡ 0 = omega arith in
    sym (ap (field (bit_at a.bytes.now) (a.at + a.width)) none)

pub overflow_mul-value : goal.overflow_mul-value
overflow_mul-value c =
    let a = c.args in
    let l = c.loop-i in
    omega (arith, field-small (bit_at a.bytes.now) (a.at + l.i) (a.width - l.i) 63 (omega arith))

pub overflow_add-value : goal.overflow_add-value
overflow_add-value c =
    let a = c.args in
    let l = c.loop-i in
    omega (
      arith,
      field-small (bit_at a.bytes.now) (a.at + l.i) (a.width - l.i) 63 (omega arith),
      byte_weight
          c.bit_at-b.result,
      weight-lt c.bit_at-b.result,
    )

pub loop-i-preserved : goal.loop-i-preserved
loop-i-preserved c =
    let a = c.args in
    let l = c.loop-i in
    field_step (bit_at a.bytes.now) (a.at + (l.i - 1)) (a.at + l.i) (a.width - l.i) (a.width - (l.i - 1)) l.value c.bit_at-b.result
    (omega arith) (omega arith) l.invariant c.bit_at-b.ensures

pub returns : goal.returns
returns c =
    let a = c.args in
    let l = c.loop-i in
    let p : a.at + l.i ≡ a.at = omega arith in
    let k : a.width - l.i ≡ a.width = omega arith in
    l.invariant ∙ ap₂ (field (bit_at a.bytes.now)) p k
