-- `bits::bit_at` meets its contract: a shift and a remainder give a bit of a byte, and past the last byte there are zeros. Assumes nothing.
use mathlib.Core.Path.{sym}
use Prim.Native.Nat.{◌/◌, ◌%◌, ◌^◌}
use native.Mathlib.Omega.{arith}
use lib.ListN.{get_or}
use Rattle.standard.specs.Bits.{bit_at}
use Rattle.standard.proofs.Words.{odd-test}
use Rattle.bits.proofs.Bits.{bit_at-past}
use Rattle.bits.proofs.bit_at.Goals as goal

pub returns-then-at-bytes : goal.returns-then-at-bytes
unfolding bit_at
returns-then-at-bytes c = let a = c.args in odd-test (get_or a.bytes.now (a.n / 8) 0 / 2 ^ (a.n % 8))

pub returns : goal.returns
returns c = sym (bit_at-past c.args.bytes.now c.args.n (omega arith))
