-- The message is added, and the place stays within the text. Assumes nothing.
use Rattle.words.proofs.Adding.{added-within}
use Rattle.words.proofs.Text.add_message.Goals as goal

pub invariant_of-self : goal.invariant_of-self
invariant_of-self c =
    record { within = rw c.add_message-self.auto.text (added-within c.args.self.now.within c.add_message-self.ensures).1 }
