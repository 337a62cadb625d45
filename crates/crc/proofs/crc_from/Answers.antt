-- The register when the first `done` bits have passed. Assumes nothing.
use mathlib.Core.Path.{◌≡◌, refl, ap, ◌∙◌}
use Prim.Native.Nat.{ℕ, ◌+◌}
use native.Mathlib.Omega.{arith}
use Rattle.standard.specs.Lists.{list_from, after}
use Rattle.standard.specs.Bits.{bit_at}
use Rattle.standard.specs.Crc.{crc_step}
use Rattle.standard.proofs.Bits.{field_lt}
use Rattle.bits.proofs.Bits.{field-small}
use Rattle.crc.proofs.Crc.{crc_more}
use Rattle.crc.proofs.crc_from.Goals as goal

pub loop-done-init : goal.loop-done-init
unfolding after list_from
loop-done-init c = (omega arith, refl)

pub field_at-some-requires : goal.field_at-some-requires
field_at-some-requires c = (omega arith, omega arith)

pub overflow_cast-some : goal.overflow_cast-some
overflow_cast-some c =
    let f = bit_at c.args.bytes.now in
    let p = c.args.at + c.loop-done.done in
    omega (arith, field-small f p c.min-n.result 16 (omega arith), c.field_at-some.ensures)

pub crc_some-crc-requires : goal.crc_some-crc-requires
crc_some-crc-requires c =
    let f = bit_at c.args.bytes.now in
    let p = c.args.at + c.loop-done.done in
    (omega arith, omega arith, rw c.field_at-some.ensures (field_lt f p c.min-n.result))

pub loop-done-preserved : goal.loop-done-preserved
loop-done-preserved c =
    let a = c.args in
    let l = c.loop-done in (
      omega arith,
      crc_more (bit_at a.bytes.now) a.register a.at l.done c.min-n.result l.crc c.crc_some-crc.result _
          l.invariant.1 c.field_at-some.ensures c.crc_some-crc.ensures,
    )

pub returns : goal.returns
returns c =
    let a = c.args in
    let e : c.loop-done.done ≡ a.count = omega arith in
    c.loop-done.invariant.1 ∙ ap (λ (n : ℕ). after crc_step a.register (list_from (bit_at a.bytes.now) a.at n)) e
