-- Ten digits, then letters. Assumes nothing.
use borrow.Author.Tests.{lt-ltb, le-ltb}
use Rattle.text.specs.Hex.{digit_of}
use Rattle.text.proofs.digit_of.Goals as goal

pub returns-then-v-lt10 : goal.returns-then-v-lt10
unfolding digit_of
returns-then-v-lt10 c = rw (lt-ltb _ _ c.if-v-lt10.true)

pub returns-else-v-lt10 : goal.returns-else-v-lt10
unfolding digit_of
returns-else-v-lt10 c = rw (le-ltb _ _ c.if-v-lt10.false)
