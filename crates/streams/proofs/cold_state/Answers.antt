-- Its count is 24. Assumes nothing.
use Rattle.standard.specs.Frame.{cold}
use Rattle.streams.proofs.cold_state.Goals as goal

pub returns : goal.returns
unfolding cold
returns c = c.begun.ensures
