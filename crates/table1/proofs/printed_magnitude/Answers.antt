-- `table1::printed_magnitude` meets its contract. The constant table, whole, computes to the table of the rule `magnitude`. Assumes
-- nothing.
use native.Mathlib.Omega.{arith}
use Rattle.standard.specs.Lists.{list_from}
use Rattle.standard.specs.Octets.{magnitude_in, magnitude}
use Rattle.standard.proofs.Octets.{magnitude-lt}
use Rattle.table1.proofs.Rows.{row_lt, table_at}
use Rattle.table1.proofs.printed_magnitude.Goals as goal

pub offset_bounds-row : goal.offset_bounds-row
offset_bounds-row c = omega (arith, c.row_of-row.ensures, row_lt c.args.law c.args.ucode c.requires)

pub bounds-row : goal.bounds-row
bounds-row c = rw c.row_of-row.ensures (row_lt c.args.law c.args.ucode c.requires)

-- the one computed test: all 256 entries of the constant against the table that the rule `magnitude` gives
pub returns : goal.returns
unfolding list_from magnitude magnitude_in
returns c =
    let a = c.args in
    let e = table_at magnitude a.law a.ucode c.requires in
    rw c.row_of-row.ensures (e, rw e (magnitude-lt a.law a.ucode c.requires))
