-- Two registers are compared. Assumes nothing.
use mathlib.Core.Path.{ap₂}
use lib.Dec.{eqb}
use Rattle.standard.specs.Cp.{crc_matches}
use Rattle.cp_faults.proofs.crc_matches.Goals as goal

pub returns : goal.returns
unfolding crc_matches
returns c = ap₂ eqb c.crc_of.ensures c.field_at.ensures
