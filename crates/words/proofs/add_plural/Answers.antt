-- Nothing is added for one, and an s for any other number. Assumes nothing.
use Rattle.std.proofs.Common.{eq-eqb, ne_eqb}
use Rattle.words.proofs.Adding.{added_none}
use Rattle.words.proofs.add_plural.Goals as goal

pub returns-then-number-ne1 : goal.returns-then-number-ne1
returns-then-number-ne1 c = rw (ne_eqb _ _ c.if-number-ne1.true) c.put.ensures

pub returns : goal.returns
returns c = rw (eq-eqb _ _ c.if-number-ne1.false) added_none
