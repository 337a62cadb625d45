-- `dil::training_symbol` meets its contract: the constant, entry by entry, is the table of the definition. Assumes nothing.
use mathlib.Core.Path.{refl}
use Rattle.standard.specs.Dil.{training_symbols}
use Rattle.standard.proofs.Dil.{training-lt}
use Rattle.dil.proofs.training_symbol.Goals as goal

pub returns : goal.returns
unfolding training_symbols
returns c = (refl, training-lt c.args.segment c.requires)
