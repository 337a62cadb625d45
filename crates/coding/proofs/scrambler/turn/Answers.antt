-- `scrambler::turn` meets its contract. The loop's invariant: the past is that of the k latest bits. Assumes nothing.
use mathlib.Core.Path.{◌≡◌, refl, ap, ap₂, ◌∙◌}
use Prim.Native.Nat.{◌+◌, ◌-◌}
use native.Mathlib.Omega.{arith}
use Rattle.standard.specs.Bits.{bit, field}
use Rattle.standard.proofs.Bits.{weight-lt}
use Rattle.standard.proofs.Words.{byte_weight}
use Rattle.bits.proofs.Bits.{field-small, field_step}
use Rattle.coding.specs.Past.{in_time, turned}
use Rattle.coding.proofs.scrambler.turn.Goals as goal

pub loop-k-init : goal.loop-k-init
unfolding field
loop-k-init c = refl

pub overflow_mul-past : goal.overflow_mul-past
overflow_mul-past c = let l = c.loop-k in omega
    (arith, field-small (in_time c.args.history) (23 - l.k) l.k 23 (omega arith))

pub overflow_add-past : goal.overflow_add-past
overflow_add-past c =
    let l = c.loop-k in
    omega (
      arith,
      field-small (in_time c.args.history) (23 - l.k) l.k 23 (omega arith),
      byte_weight
          c.bit_of.result,
      weight-lt c.bit_of.result,
    )

pub loop-k-preserved : goal.loop-k-preserved
loop-k-preserved c =
    let h = c.args.history in
    let l = c.loop-k in
    let e : l.k ≡ 22 - (23 - (l.k + 1)) = omega arith in
    field_step (in_time h) (23 - (l.k + 1)) (23 - l.k) l.k (l.k + 1) l.past c.bit_of.result (omega arith) refl l.invariant
    (c.bit_of.ensures ∙ ap (bit h) e)

pub returns : goal.returns
unfolding turned
returns c =
    let l = c.loop-k in
    let p : 23 - l.k ≡ 0 = omega arith in
    let e : l.k ≡ 23 = omega arith in
    l.invariant ∙ ap₂ (field (in_time c.args.history)) p e
