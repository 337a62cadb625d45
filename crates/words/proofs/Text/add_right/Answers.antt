-- The fewest digits that hold a number are its decimal digits, 20 at most; the place stays within the text. Assumes nothing.
use Rattle.std.proofs.Common.{◌≡◌, ◌∙◌, ap, length, arith}
use Rattle.words.specs.Message.{decimal}
use Rattle.words.proofs.Adding.{added-both, added-within}
use Rattle.words.proofs.Pieces.{fewest_decimal}
use Rattle.words.proofs.Text.add_right.Goals as goal

pub invariant_of-self-2 : goal.invariant_of-self-2
invariant_of-self-2 c =
    let a = added-both c.add_spaces-at.ensures c.add-self.ensures in
    record { within = rw (c.add-self.auto.text, c.add_spaces-at.auto.text) (added-within c.args.self.now.within (a.place, a.text)).1 }

pub returns-clause-adds : goal.returns-clause-adds
returns-clause-adds c =
    let d = c.decimal-count.ensures in
    let e = d.digits ∙ fewest_decimal c.decimal-count.result c.args.number d.len (omega arith) in
    let n : c.decimal-count.result ≡ length (decimal c.args.number) = d.in_bounds.1 ∙ ap length e in
    added-both (rw n at c.add_spaces-at.ensures) (rw e at c.add-self.ensures)
