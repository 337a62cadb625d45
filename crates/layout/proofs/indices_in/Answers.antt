-- Each index is read at its place. Assumes nothing.
use Rattle.standard.specs.Lists.{list_from}
use Rattle.layout.proofs.indices_in.Goals as goal

pub returns : goal.returns
unfolding list_from
returns c =
    rw (
      c.byte_field.ensures,
      c.byte_field-2.ensures,
      c.byte_field-3.ensures,
      c.byte_field-4.ensures,
      c.byte_field-5.ensures,
      c.byte_field-6.ensures,
    )
