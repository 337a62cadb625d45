-- The ones above a Ucode are the members above it. Assumes nothing.
use native.Mathlib.Omega.{arith}
use lib.Count.{ones-le}
use Rattle.constellation.proofs.Masks.{label_low, label_high}
use Rattle.constellation.proofs.label_of.Goals as goal

pub overflow_add-result : goal.overflow_add-result
overflow_add-result c = omega (
  arith,
  ones-le 64 c.above.result (omega arith),
  ones-le 64 c.args.m.low
      (omega arith),
  ones-le 64 c.args.m.high (omega arith),
)

pub overflow_cast-result : goal.overflow_cast-result
overflow_cast-result c = omega (
  arith,
  ones-le 64 c.above.result (omega arith),
  ones-le 64 c.args.m.low
      (omega arith),
  ones-le 64 c.args.m.high (omega arith),
)

pub returns-then-ucode-lt64 : goal.returns-then-ucode-lt64
returns-then-ucode-lt64 c = let b = c.before.before.before in label_low b.args.m (omega arith) (omega arith) b.args.ucode _
    c.if-ucode-lt64.true c.above.ensures

pub overflow_cast-result-2 : goal.overflow_cast-result-2
overflow_cast-result-2 c = omega (arith, ones-le 64 c.above-2.result (omega arith))

pub returns : goal.returns
returns c = let b = c.before.before in label_high b.args.m (omega arith) (omega arith) b.args.ucode _ c.if-ucode-lt64.false
    b.requires c.above-2.ensures
