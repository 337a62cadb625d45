-- The fewest digits that hold a number are its decimal digits, 20 at most. Assumes nothing.
use Rattle.std.proofs.Common.{◌∙◌, arith}
use Rattle.words.proofs.Pieces.{fewest_decimal}
use Rattle.words.proofs.add_decimal.Goals as goal

pub returns : goal.returns
returns c =
    let d = c.decimal-n.ensures in
    rw (d.digits ∙ fewest_decimal c.decimal-n.result c.args.number d.len (omega arith)) at c.add.ensures
