-- Each field is put at its place, after the indices. Assumes nothing.
use Rattle.standard.specs.Cp.{head_fields}
use Rattle.layout.specs.Writing.{put_fields}
use Rattle.layout.proofs.put_head.Goals as goal

pub returns : goal.returns
unfolding put_fields head_fields
returns c =
    rw (
      c.put_field-5.ensures,
      c.put_field-4.ensures,
      c.put_field-3.ensures,
      c.put_field-2.ensures,
      c.put_field.ensures,
      c.put_indices.ensures,
    )
