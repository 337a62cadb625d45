-- The five bits are read and joined. Assumes nothing.
use Rattle.standard.specs.Lists.{any}
use Rattle.standard.specs.Refusals.{fixed_bit_wrong}
use Rattle.cp_faults.proofs.fixed_bit_wrong.Goals as goal

pub returns : goal.returns
unfolding fixed_bit_wrong any
returns c =
    rw (
      c.bit_at.ensures,
      c.bit_at-2.ensures,
      c.bit_at-3.ensures,
      c.bit_at-4.ensures,
      c.bit_at-5.ensures,
    )
