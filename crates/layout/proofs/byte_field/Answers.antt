-- A field of up to eight bits fits a byte. Assumes nothing.
use Rattle.standard.specs.Bits.{bit_at}
use Rattle.bits.proofs.Bits.{field-small}
use native.Mathlib.Omega.{arith}
use Rattle.layout.proofs.byte_field.Goals as goal

pub overflow_cast-result : goal.overflow_cast-result
overflow_cast-result c = let a = c.args in omega
    (arith, field-small (bit_at a.cp.now) a.at a.width 8 (omega arith), c.field_at.ensures)

pub returns : goal.returns
returns c = c.field_at.ensures
