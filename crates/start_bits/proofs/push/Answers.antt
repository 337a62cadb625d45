-- One weight up, and the bit below. Assumes nothing.
use mathlib.Core.Path.{ap}
use Prim.Native.Nat.{ℕ, ◌+◌, ◌*◌, ◌%◌, ◌^◌}
use native.Mathlib.Omega.{arith}
use Rattle.standard.specs.Scrambler.{push}
use Rattle.standard.proofs.Bits.{weight-lt}
use Rattle.standard.proofs.Words.{byte_weight}
use Rattle.start_bits.proofs.push.Goals as goal

pub overflow_add-result : goal.overflow_add-result
overflow_add-result c = let b = c.args.bit in omega (arith, byte_weight b, weight-lt b)

pub returns : goal.returns
unfolding push
returns c =
    let h = c.args.history in
    let b = c.args.bit in
    (ap (λ (w : ℕ). (2 * h + w) % 2 ^ 23) (byte_weight b), omega arith)
