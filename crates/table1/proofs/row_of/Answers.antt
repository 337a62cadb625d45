-- `table1::row_of` meets its contract, law by law. Assumes nothing.
use Rattle.table1.proofs.row_of.Goals as goal

pub returns-in-A : goal.returns-in-A
returns-in-A c = rw c.in-A.is
