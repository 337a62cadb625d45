-- A control frame has K bits, any other D. Assumes nothing.
use mathlib.Core.Path.{◌≡◌}
use mathlib.Core.Bool.{true, false}
use Prim.Native.Nat.{◌+◌, ◌%◌}
use native.Mathlib.Omega.{arith}
use Rattle.standard.specs.Frame.{is_control}
use Rattle.streams.proofs.width_at.Goals as goal

pub returns-then-control-place : goal.returns-then-control-place
returns-then-control-place c =
    let a = c.args in
    let e : is_control a.control ((a.place + a.i) % 64) ≡ true = c.if-control-place.true in
    (rw e c.k_of.ensures, omega (arith, c.k_of.ensures), omega (arith, c.k_of.ensures))

pub returns : goal.returns
returns c =
    let a = c.args in
    let e : is_control a.control ((a.place + a.i) % 64) ≡ false = c.if-control-place.false in
    (rw e c.d_of.ensures, omega (arith, c.d_of.ensures), omega (arith, c.d_of.ensures))
