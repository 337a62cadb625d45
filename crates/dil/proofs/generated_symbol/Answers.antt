-- `dil::generated_symbol` meets its contract, at even and at odd places: the generator gives the table. Assumes nothing.
use mathlib.Core.Path.{◌≡◌}
use Prim.Native.Nat.{◌%◌}
use native.Mathlib.Omega.{arith}
use Rattle.standard.specs.Dil.{generated_symbol}
use Rattle.standard.proofs.Dil.{generated_is}
use Rattle.dil.proofs.generated_symbol.Goals as goal

pub returns-then-place-eq0 : goal.returns-then-place-eq0
unfolding generated_symbol
returns-then-place-eq0 c =
    let n = c.args.place in
    let e : n % 2 ≡ 0 = omega arith in
    (rw e at (generated_is n c.requires), omega arith)

pub returns-else-place-eq0 : goal.returns-else-place-eq0
unfolding generated_symbol
returns-else-place-eq0 c =
    let n = c.args.place in
    let e : n % 2 ≡ 1 = omega arith in
    (rw e at (generated_is n c.requires), omega arith)
