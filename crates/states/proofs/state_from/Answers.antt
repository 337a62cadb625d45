-- The history is a field of 32 bits, the sequence's bits are twelve bytes, and each other field is a byte. Assumes nothing.
use native.Mathlib.Omega.{arith}
use lib.ListN.{get_or}
use Rattle.standard.specs.Bits.{bit_at}
use Rattle.standard.proofs.Bits.{field_lt}
use Rattle.standard.proofs.Words.{positive-test}
use Rattle.states.specs.StateBytes.{state_at}
use Rattle.states.proofs.state_from.Goals as goal

pub overflow_cast-result : goal.overflow_cast-result
overflow_cast-result c = omega (arith, field_lt (bit_at c.args.bytes.now) 0 32)

pub returns : goal.returns
unfolding state_at
returns c =
    let s = c.args.bytes.now in
    rw (
      positive-test (get_or s 4 0),
      positive-test (get_or s 20 0),
      c.field_at.ensures,
      c.sequence_at.ensures,
    )
