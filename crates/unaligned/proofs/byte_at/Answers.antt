-- A field of eight bits is below 256. Assumes nothing.
use native.Mathlib.Omega.{arith}
use Rattle.standard.specs.Bits.{bit_at}
use Rattle.standard.proofs.Bits.{field_lt}
use Rattle.unaligned.proofs.byte_at.Goals as goal

pub returns : goal.returns
returns c = let a = c.args in omega (arith, field_lt (bit_at a.bytes.now) a.at 8)
