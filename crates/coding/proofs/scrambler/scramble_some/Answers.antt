-- Up to 18 bits depend on the past alone. Assumes nothing.
use mathlib.Core.Path.{ap}
use Prim.Native.Nat.{ℕ, ◌%◌}
use native.Mathlib.Omega.{arith}
use lib.Pow.{pow_pos}
use Rattle.standard.proofs.Words.{one_shifted}
use Rattle.coding.proofs.Stream.{mix, scrambled, after_some}
use Rattle.coding.proofs.scrambler.scramble_some.Goals as goal

pub nonzero_rem-line : goal.nonzero_rem-line
nonzero_rem-line c = rw (one_shifted c.args.n (omega arith)) (pow_pos c.args.n)

pub returns : goal.returns
returns c =
    let a = c.args in
    scrambled a.past a.bits a.n _ _ c.requires.0 c.requires.1
    (ap (λ (x : ℕ). mix a.bits a.past % x) (one_shifted a.n (omega arith)))
    (after_some a.past _ c.requires.0 a.n (omega arith))
