-- Zeros follow the last byte. Assumes nothing.
use mathlib.Core.Path.{refl}
use native.Mathlib.Omega.{arith}
use Rattle.standard.specs.Bits.{field}
use Rattle.bits.proofs.ByWords.{word_last}
use Rattle.bits.proofs.word_from.Goals as goal

pub returns-then-bytes-i : goal.returns-then-bytes-i
unfolding field
returns-then-bytes-i c = let a = c.args in word_last a.bytes.now a.i 0 0 (omega arith) (omega arith) refl

pub returns : goal.returns
returns c = let a = c.args in word_last a.bytes.now a.i _ _ (omega arith) (omega arith)
    c.bytes_at.ensures
