-- The word, and then the spaces; the place stays within the text. Assumes nothing.
use Rattle.words.proofs.Adding.{added-both, added-within}
use Rattle.words.proofs.Text.add_left.Goals as goal

pub invariant_of-self-2 : goal.invariant_of-self-2
invariant_of-self-2 c =
    let a = added-both c.add_shown-at.ensures c.add_spaces-self.ensures in
    record { within = rw (c.add_spaces-self.auto.text, c.add_shown-at.auto.text) (added-within c.args.self.now.within (a.place, a.text)).1 }

pub returns-clause-adds : goal.returns-clause-adds
returns-clause-adds c = added-both c.add_shown-at.ensures c.add_spaces-self.ensures
