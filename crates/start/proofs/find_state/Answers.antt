-- Fewer than 24 octets, and the last 24 of them. Assumes nothing.
use mathlib.Core.Path.{◌∙◌}
use Rattle.start.proofs.Answers.{find-refused, find-done, last-found}
use Rattle.start.proofs.find_state.Goals as goal

pub returns-in_default-clause-refusal : goal.returns-in_default-clause-refusal
returns-in_default-clause-refusal c = (find-refused c.args.state.now c.args.octets.now c.in_default.ensures.cases).0

pub returns-in_default-clause-left : goal.returns-in_default-clause-left
returns-in_default-clause-left c = (find-refused c.args.state.now c.args.octets.now c.in_default.ensures.cases).1

pub returns-clause-refusal : goal.returns-clause-refusal
returns-clause-refusal c =
    let found = c.in-Some.ensures.cases in
    (find-done c.args.state.now c.args.octets.now found.0 (last-found _ found.1)).0

pub returns-clause-left : goal.returns-clause-left
returns-clause-left c =
    let found = c.in-Some.ensures.cases in
    c.found_in.ensures ∙ (find-done c.args.state.now c.args.octets.now found.0 (last-found _ found.1)).1
