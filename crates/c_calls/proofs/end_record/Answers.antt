-- The call's own refusal goes first, then a short record. Assumes nothing.
use mathlib.Core.Path.{refl}
use borrow.Author.Tests.{lt-ltb, le-ltb}
use Rattle.standard.specs.First.{first}
use Rattle.standard.proofs.Stages.{refused_not}
use Rattle.c_calls.specs.Answered.{then_short}
use Rattle.c_calls.proofs.end_record.Goals as goal

pub returns-in_default-clause-answer : goal.returns-in_default-clause-answer
unfolding then_short
returns-in_default-clause-answer c = let e = refused_not c.args.outcome _ _ c.in_default.is refl in rw e c.code_of.ensures

pub returns-then-rec-lt-RECORD_BYTES-clause-answer : goal.returns-then-rec-lt-RECORD_BYTES-clause-answer
unfolding then_short first
returns-then-rec-lt-RECORD_BYTES-clause-answer c = rw (c.in-Ok.is, lt-ltb _ _ c.if-rec-lt-RECORD_BYTES.true)

pub returns-clause-answer : goal.returns-clause-answer
unfolding then_short first
returns-clause-answer c = rw (c.in-Ok.is, le-ltb _ _ c.if-rec-lt-RECORD_BYTES.false)
