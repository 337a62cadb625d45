-- Each turn puts a half, behind the head and the halves before it. Assumes nothing.
use mathlib.Core.Path.{◌≡◌, ◌∙◌}
use Prim.Native.Nat.{◌+◌, ◌*◌}
use native.Mathlib.Omega.{arith}
use Rattle.standard.proofs.Filling.{listed_all}
use Rattle.forms.specs.RecordBytes.{record_byte, record_bytes}
use Rattle.forms.proofs.Into.{half_put}
use Rattle.forms.proofs.record_into.Goals as goal

pub loop-h-init : goal.loop-h-init
loop-h-init c = (c.head_into.auto.bytes, (λ i. (c.type_inv.bytes i).fits), c.head_into.ensures)

pub loop-h-preserved : goal.loop-h-preserved
loop-h-preserved c =
    let l = c.loop-h in
    let a = c.args in (
      c.put_word.auto.bytes ∙ l.invariant.0,
      λ i. (c.type_inv.bytes i).fits,
      c.put_word.ensures ∙ half_put a.r a.bytes.now l.bytes l.h (omega arith) (omega arith) l.invariant.0 l.invariant.1 l.invariant.2,
    )

pub returns : goal.returns
unfolding record_bytes
returns c =
    let l = c.loop-h in
    let e : 9 + 8 * l.h ≡ 105 = omega arith in
    listed_all (record_byte c.args.r) c.args.bytes.now l.bytes 105 (rw e at l.invariant.2)
