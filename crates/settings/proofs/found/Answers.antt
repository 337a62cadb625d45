-- Broken, or found. Assumes nothing.
use mathlib.Core.Path.{sym, ◌∙◌}
use Rattle.settings.proofs.Answers.{sound, broken}
use Rattle.settings.proofs.found.Goals as goal

pub returns-then-not-is_file-clause-refusal : goal.returns-then-not-is_file-clause-refusal
returns-then-not-is_file-clause-refusal c = broken c.args.file.now (sym c.is_file.ensures ∙ c.if-not-is_file.true)

pub returns-clause-refusal : goal.returns-clause-refusal
returns-clause-refusal c = sound c.args.file.now (sym c.is_file.ensures ∙ c.if-not-is_file.false)
