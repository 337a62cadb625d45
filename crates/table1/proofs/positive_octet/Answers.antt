-- `table1::positive_octet` meets its contract. The constant table, whole, computes to the table of the XOR rule, in which the row of a
-- Ucode is known. Assumes nothing.
use Rattle.standard.specs.Lists.{list_from}
use Rattle.standard.specs.Octets.{positive_octet}
use Rattle.table1.proofs.Rows.{row_lt, table_at}
use Rattle.table1.proofs.positive_octet.Goals as goal

pub bounds-row : goal.bounds-row
bounds-row c = rw c.row_of-row.ensures (row_lt c.args.law c.args.ucode c.requires)

-- the one computed test: all 256 entries of the constant against the table that the XOR rule gives
pub returns : goal.returns
unfolding list_from positive_octet
returns c = rw c.row_of-row.ensures (table_at positive_octet c.args.law c.args.ucode c.requires)
