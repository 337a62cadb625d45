-- Digits below the letters, then letters. Assumes nothing.
use borrow.Author.Tests.{lt-ltb, le-ltb}
use native.Mathlib.Omega.{arith}
use Rattle.text.specs.Hex.{digit_value}
use Rattle.text.proofs.value_of.Goals as goal

pub returns-then-c-lt97 : goal.returns-then-c-lt97
unfolding digit_value
returns-then-c-lt97 c = (rw (lt-ltb _ _ c.if-c-lt97.true, c.saturating_sub.ensures), omega arith)

pub returns : goal.returns
unfolding digit_value
returns c = (rw (le-ltb _ _ c.if-c-lt97.false), omega arith)
