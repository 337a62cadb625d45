-- After j turns the word is the field of the first j bytes. Assumes nothing.
use mathlib.Core.Path.{◌≡◌, refl, ap, ◌∙◌}
use Prim.Native.Nat.{◌*◌}
use native.Mathlib.Omega.{arith}
use Rattle.standard.specs.Bits.{bit_at, field}
use Rattle.standard.proofs.Bits.{field_lt}
use Rattle.bits.proofs.ByWords.{word_more}
use Rattle.bits.proofs.bytes_at.Goals as goal

pub loop-j-init : goal.loop-j-init
unfolding field
loop-j-init c = refl

pub with_byte-word-requires : goal.with_byte-word-requires
with_byte-word-requires c =
    let a = c.args in
    let l = c.loop-j in
    (omega arith, rw l.invariant (field_lt (bit_at a.bytes.now) (8 * a.i) (8 * l.j)))

pub loop-j-preserved : goal.loop-j-preserved
loop-j-preserved c =
    let a = c.args in
    let l = c.loop-j in
    let e = c.with_byte-word.ensures in
    word_more a.bytes.now a.i l.j l.word _ _ l.invariant refl e.0 e.1

pub returns : goal.returns
returns c =
    let a = c.args in
    let e : 8 * c.loop-j.j ≡ 8 * a.k = omega arith in
    c.loop-j.invariant ∙ ap (field (bit_at a.bytes.now) (8 * a.i)) e
