-- The history of the past. Assumes nothing.
use mathlib.Core.Path.{refl}
use Rattle.standard.proofs.Frame.{same-state}
use Rattle.frame.proofs.state_of.Goals as goal

pub returns : goal.returns
returns c =
    same-state _ _
    (record {
      history = c.turn.ensures;
      sign = refl;
      doubtful = refl;
      place = refl;
      done = refl;
      sequence = refl;
      lost = refl;
    })
