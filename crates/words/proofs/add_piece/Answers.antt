-- Each arm adds what the definition says for its character. Assumes nothing.
use Rattle.std.proofs.Common.{◌≡◌, false, eqb, arith}
use Rattle.words.specs.Message.{piece}
use Rattle.words.proofs.add_piece.Goals as goal

pub returns-in-35 : goal.returns-in-35
unfolding piece
returns-in-35 c = rw c.in-35.is (rw c.value_at.ensures at c.add_decimal.ensures)

pub returns-in-126 : goal.returns-in-126
unfolding piece
returns-in-126 c = rw c.in-126.is (rw (c.value_at-in-126.ensures, c.saturating_sub.ensures) at c.add_plural.ensures)

pub returns-in-64 : goal.returns-in-64
unfolding piece
returns-in-64 c = rw c.in-64.is c.add_shown.ensures

pub returns-in_default : goal.returns-in_default
unfolding piece
returns-in_default c =
    let number : eqb c.args.c 35 ≡ false = grind arith in
    let plural : eqb c.args.c 126 ≡ false = grind arith in
    let name : eqb c.args.c 64 ≡ false = grind arith in
    rw (number, plural, name) c.put.ensures
