-- Its count is 0. Assumes nothing.
use Rattle.standard.specs.Frame.{fresh}
use Rattle.streams.proofs.fresh_state.Goals as goal

pub returns : goal.returns
unfolding fresh
returns c = c.begun.ensures
