-- `bits::put_field` meets its contract: a word is put back with the field in it. Assumes nothing.
use mathlib.Core.Path.{ap, ◌∙◌}
use Prim.Native.Nat.{ℕ, ◌+◌, ◌*◌, ◌/◌, ◌%◌, ◌≤◌}
use native.Mathlib.Omega.{arith}
use lib.ListN.{length}
use Rattle.standard.specs.Bits.{bit, bit_at}
use Rattle.standard.proofs.Bits.{field-bit}
use Rattle.bits.proofs.ByWords.{neither, put_back}
use Rattle.bits.proofs.put_field.Goals as goal

inside : (c : goal.Else-bytes-first) → let a = c.args in (a.at / 8 + 8 ≤ length a.bytes.now) × (a.at % 8 + a.width ≤ 63)
inside c = let a = c.args in neither (length a.bytes.now) (a.at / 8 + 8) 63 (a.at % 8 + a.width) c.if-bytes-first.false

pub word_at-word-requires : goal.word_at-word-requires
word_at-word-requires c = (inside c).0

pub word_with-requires : goal.word_with-requires
word_with-requires c = omega (arith, (inside c.before.before).1)

pub put_word-requires : goal.put_word-requires
put_word-requires c = (inside c.before.before.before).0

pub returns : goal.returns
returns c =
    let a = c.args in
    let s = a.bytes.now in
    put_back s _ a.at 64 _ _ a.width a.value (omega arith)
    (omega (arith, (inside c.before.before.before.before.before.before.before).1))
    (λ j l. ap (λ (x : ℕ). bit x j) c.word_at-word.ensures
    ∙ field-bit (bit_at s) (8 * (a.at / 8)) 64 j l)
    c.word_with.ensures c.put_word.ensures
