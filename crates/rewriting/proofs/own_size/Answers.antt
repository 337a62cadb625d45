-- One entry, or two. Assumes nothing.
use Rattle.rewriting.proofs.Afresh.{own_none, own_some}
use Rattle.rewriting.proofs.own_size.Goals as goal

pub returns-in-Some-clause-value : goal.returns-in-Some-clause-value
returns-in-Some-clause-value c = own_some c.args.w c.args.own.now _ c.in-Some.is

pub returns-in-None-clause-value : goal.returns-in-None-clause-value
returns-in-None-clause-value c = own_none c.args.w c.args.own.now c.in-None.is
