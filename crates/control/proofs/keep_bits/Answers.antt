-- A word with the six bits in it is put back, and zeros after it. Assumes nothing.
use native.Mathlib.Omega.{arith}
use Rattle.control.proofs.Keeping.{kept-first, kept_last}
use Rattle.control.proofs.keep_bits.Goals as goal

pub returns-then-at-lt48 : goal.returns-then-at-lt48
returns-then-at-lt48 c =
    kept-first c.args.sequence.now c.args.done c.args.six (omega arith) c.requires.1 c.word_at-first.result
    c.with_six.result _ _ c.if-at-lt48.true c.word_at-first.ensures c.with_six.ensures c.put_word.ensures
    c.put_word-then-at-lt48.ensures

pub returns : goal.returns
returns c =
    kept_last c.args.sequence.now c.args.done c.args.six (omega arith) c.requires.1 c.word_at-last.result
    c.with_six-2.result _ c.if-at-lt48.false c.word_at-last.ensures c.with_six-2.ensures c.put_word-2.ensures
