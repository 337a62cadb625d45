-- The field is a part of a word. Assumes nothing.
use native.Mathlib.Omega.{arith}
use lib.Pow.{pow_pos}
use Rattle.standard.specs.Bits.{bit_at}
use Rattle.standard.proofs.Words.{one_shifted}
use Rattle.bits.proofs.ByWords.{word-field}
use Rattle.bits.proofs.field_at.Goals as goal

pub nonzero_rem-result : goal.nonzero_rem-result
nonzero_rem-result c =
    let w = c.args.width in
    rw (one_shifted w (omega arith)) (pow_pos w)

pub returns : goal.returns
returns c =
    let a = c.args in
    word-field (bit_at a.bytes.now) a.at a.width c.word_from.result (omega arith) c.word_from.ensures
