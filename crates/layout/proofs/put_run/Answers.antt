-- The run is cut from its half, and put at its place. Assumes nothing.
use Rattle.layout.proofs.put_run.Goals as goal

pub returns : goal.returns
returns c = c.put_field.ensures
