-- The past of the history. Assumes nothing.
use mathlib.Core.Path.{refl, ap, ◌∙◌}
use Rattle.standard.proofs.Frame.{same-state}
use Rattle.coding.specs.Past.{turned}
use Rattle.coding.proofs.Stream.{turned_lt, turned-back}
use Rattle.frame.proofs.carry.Goals as goal

pub returns : goal.returns
returns c =
    let s = c.args.state in (
      same-state _ s
          (record {
            history = ap turned c.turn.ensures ∙ turned-back s.history c.requires;
            sign = refl;
            doubtful = refl;
            place = refl;
            done = refl;
            sequence = refl;
            lost = refl;
          }),
      rw c.turn.ensures (turned_lt s.history),
    )
