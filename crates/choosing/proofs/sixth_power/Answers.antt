-- The products fit, and come to the sixth power. Assumes nothing.
use native.Mathlib.Omega.{arith}
use Rattle.choosing.proofs.Choosing.{sixth, two_le, three_le, six_le}
use Rattle.choosing.proofs.sixth_power.Goals as goal

pub overflow_mul-cube : goal.overflow_mul-cube
overflow_mul-cube c = omega (arith, two_le c.args.m c.requires)

pub overflow_mul-cube-2 : goal.overflow_mul-cube-2
overflow_mul-cube-2 c = omega (arith, three_le c.args.m c.requires)

pub overflow_mul-result : goal.overflow_mul-result
overflow_mul-result c = omega (arith, six_le c.args.m c.requires)

pub returns : goal.returns
returns c = sixth c.args.m
