-- Bits that lie apart are added. Assumes nothing.
use mathlib.Core.Path.{ap₂, ◌∙◌}
use Prim.Native.Nat.{ℕ, ◌%◌, ◌^◌}
use native.Mathlib.Nat.{mod-lt}
use native.Mathlib.Omega.{arith}
use lib.Bits.{bit_or, or_shifted_r}
use lib.Pow.{pow_pos, shl_exact}
use Rattle.standard.proofs.Words.{one_shifted}
use Rattle.control.proofs.with_six.Goals as goal

pub nonzero_rem-result : goal.nonzero_rem-result
nonzero_rem-result c = rw (one_shifted c.args.n (omega arith)) (pow_pos c.args.n)

pub returns : goal.returns
returns c =
    let a = c.args in
    ap₂ (λ (x y : ℕ). bit_or (a.word % x) y) (one_shifted a.n (omega arith)) (shl_exact 6 a.n 64 c.requires.1 (omega arith))
    ∙ or_shifted_r a.six a.n (a.word % 2 ^ a.n) (mod-lt a.word (pow_pos a.n))
