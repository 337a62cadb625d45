-- Assumes nothing.
use borrow.Author.Tests.{ne_eqb}
use Rattle.standard.proofs.Words.{positive-test}
use Rattle.choosing.proofs.takes.Goals as goal

pub returns-then-c-ne0 : goal.returns-then-c-ne0
returns-then-c-ne0 c = let w = c.args.c.wanted in rw (← positive-test w, ne_eqb w 0 c.if-c-ne0.true)

pub returns-else-c-ne0 : goal.returns-else-c-ne0
returns-else-c-ne0 c = rw c.if-c-ne0.false
