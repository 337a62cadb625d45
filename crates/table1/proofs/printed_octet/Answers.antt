-- `table1::printed_octet` meets its contract: a negative octet lacks the top bit. Assumes nothing.
use Rattle.standard.specs.Octets.{octet}
use Rattle.table1.proofs.printed_octet.Goals as goal

pub returns-then-sign : goal.returns-then-sign
unfolding octet
returns-then-sign c = rw c.if-sign.true c.positive_octet-positive.ensures

pub returns-else-sign : goal.returns-else-sign
unfolding octet
returns-else-sign c = rw (c.if-sign.false, c.positive_octet-positive.ensures)
