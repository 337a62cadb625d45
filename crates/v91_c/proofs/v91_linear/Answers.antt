-- The entry's answer, at the law of the flag. Assumes nothing.
use mathlib.Core.Path.{ap, ◌∙◌}
use Rattle.codes.specs.Coded.{coded}
use Rattle.v91_c.proofs.v91_linear.Goals as goal

pub returns : goal.returns
returns c =
    let e = c.linear.ensures in
    let l = c.law_of.ensures in
    (c.code_of.ensures ∙ ap coded (rw l at e.refusal), rw l at e.written)
