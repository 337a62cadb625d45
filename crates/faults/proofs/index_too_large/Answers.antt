-- An index exceeds 5 where the largest does. Assumes nothing.
use mathlib.Core.Path.{sym, ap, ◌∙◌}
use lib.Dec.{ltb}
use Rattle.faults.proofs.Faults.{index_exceeds}
use Rattle.faults.proofs.index_too_large.Goals as goal

pub returns : goal.returns
returns c = ap (ltb 5) c.largest_index.ensures ∙ sym (index_exceeds c.args.r)
