-- The lowest bit of a number shifted down by n is its bit n. Assumes nothing.
use Prim.Native.Nat.{◌/◌, ◌^◌}
use Rattle.standard.proofs.Words.{low_test}
use Rattle.bits.proofs.bit_of.Goals as goal

pub returns : goal.returns
returns c = low_test (c.args.word / 2 ^ c.args.n)
