-- The lengths of a CP as printed. Assumes nothing.
use mathlib.Core.Path.{refl}
use Rattle.standard.specs.Lists.{list_from}
use Rattle.theorems_cp.specs.Lengths.{LengthsAsPrinted}

pub lengths_as_printed : LengthsAsPrinted
unfolding list_from
lengths_as_printed = record { bits = refl; bytes = refl }
