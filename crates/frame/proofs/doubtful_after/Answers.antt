-- 24 after a marked frame, and after a good one those that reach beyond it. Assumes nothing.
use native.Mathlib.Omega.{arith}
use Rattle.standard.specs.Frame.{doubtful_after}
use Rattle.frame.proofs.doubtful_after.Goals as goal

pub returns-then-not-good : goal.returns-then-not-good
unfolding doubtful_after
returns-then-not-good c = rw c.if-not-good.true

pub returns-then-before-width : goal.returns-then-before-width
unfolding doubtful_after
returns-then-before-width c = rw c.if-not-good.false (omega arith)

pub returns : goal.returns
unfolding doubtful_after
returns c = rw c.if-not-good.false (omega arith)
