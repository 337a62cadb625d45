-- A field of sixteen bits. Assumes nothing.
use Rattle.standard.specs.Bits.{bit_at}
use Rattle.standard.specs.Cp.{run_place}
use Rattle.standard.proofs.Bits.{field_lt}
use Rattle.layout.proofs.run_in.Goals as goal

pub returns : goal.returns
returns c = (
  c.field_at.ensures,
  rw c.field_at.ensures
      (field_lt (bit_at c.args.cp.now) (run_place c.args.m c.args.c) 16),
)
