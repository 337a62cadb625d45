-- What differs is put in by XOR. Assumes nothing.
use native.Mathlib.Omega.{arith}
use lib.Pow.{pow_pos}
use Rattle.standard.proofs.Words.{one_shifted}
use Rattle.bits.proofs.ByWords.{word_with_code}
use Rattle.bits.proofs.word_with.Goals as goal

pub nonzero_rem-other : goal.nonzero_rem-other
nonzero_rem-other c = rw (one_shifted c.args.width (omega arith)) (pow_pos c.args.width)

pub returns : goal.returns
returns c = word_with_code c.args.word c.args.shift c.args.width c.args.value (omega arith) c.requires
