-- Weights 2 ^ 17 and 2 ^ 22. Assumes nothing.
use mathlib.Core.Path.{ap₂, ◌∙◌}
use Rattle.standard.specs.Bits.{◌⊕◌}
use Rattle.standard.specs.Scrambler.{taps}
use Rattle.standard.proofs.Words.{xor-test}
use Rattle.start_bits.proofs.taps_of.Goals as goal

pub returns : goal.returns
unfolding taps
returns c = xor-test c.bit_of.result c.bit_of-2.result ∙ ap₂ ◌⊕◌ c.bit_of.ensures c.bit_of-2.ensures
