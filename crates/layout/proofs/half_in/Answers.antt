-- Four runs of 16 are a half. Assumes nothing.
use mathlib.Core.Path.{sym}
use Prim.Native.Nat.{◌/◌, ◌%◌}
use borrow.Author.Tests.{le-leb, lt-leb}
use Rattle.standard.specs.Bits.{bit_at}
use Rattle.standard.specs.Cp.{half_in}
use Rattle.layout.proofs.Reading.{half_runs}
use Rattle.layout.proofs.half_in.Goals as goal

pub returns-then-g-m : goal.returns-then-g-m
unfolding half_in
returns-then-g-m c = rw (lt-leb _ _ c.if-g-m.true)

pub returns : goal.returns
unfolding half_in
returns c =
    let a = c.args in
    rw (
      le-leb _ _ c.if-g-m.false,
      c.run_in.ensures.0,
      c.run_in-2.ensures.0,
      c.run_in-3.ensures.0,
      c.run_in-4.ensures.0,
    )
    (sym (half_runs (bit_at a.cp.now) (a.h / 2) (a.h % 2)))
