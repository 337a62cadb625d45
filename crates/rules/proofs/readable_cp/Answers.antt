-- The length is that of its bit count, and the reader does not refuse. Assumes nothing.
use mathlib.Core.Path.{◌∙◌}
use borrow.Author.Tests.{ne_eqb}
use Rattle.rules.proofs.Reading.{readable_no, readable_by}
use Rattle.rules.proofs.readable_cp.Goals as goal

pub returns-then-cp-div_ceil : goal.returns-then-cp-div_ceil
returns-then-cp-div_ceil c =
    c.is_ok.ensures.value
    ∙ readable_by c.args.cp.now _ _ c.bit_count_of-n.ensures.value c.div_ceil.ensures c.if-cp-div_ceil.true _ c.read_cp.ensures.refusal

pub returns-else-cp-div_ceil : goal.returns-else-cp-div_ceil
returns-else-cp-div_ceil c =
    ne_eqb _ _ c.if-cp-div_ceil.false
    ∙ readable_no c.args.cp.now _ _ c.bit_count_of-n.ensures.value c.div_ceil.ensures c.if-cp-div_ceil.false
