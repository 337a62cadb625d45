-- Each field is read at its place. Assumes nothing.
use Rattle.layout.specs.Reading.{head_in}
use Rattle.layout.proofs.head_in.Goals as goal

pub returns : goal.returns
unfolding head_in
returns c = rw (
  c.bit_at.ensures,
  c.byte_field.ensures,
  c.bit_at-2.ensures,
  c.indices_in-index.ensures,
)
