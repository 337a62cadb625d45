-- The call's own refusal goes first. Assumes nothing.
use mathlib.Core.Path.{refl}
use Rattle.standard.specs.First.{first}
use Rattle.standard.proofs.Stages.{refused_not}
use Rattle.c_calls.specs.Answered.{then_short}
use Rattle.c_calls.proofs.unheard.Goals as goal

pub returns-in-Ok : goal.returns-in-Ok
unfolding then_short first
returns-in-Ok c = rw c.in-Ok.is

pub returns-in-Err : goal.returns-in-Err
unfolding then_short
returns-in-Err c = let e = refused_not c.args.outcome _ _ c.in-Err.is refl in rw e c.code_of.ensures
