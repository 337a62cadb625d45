-- The ones of two halves are the mask's members. Assumes nothing.
use native.Mathlib.Omega.{arith}
use lib.Count.{ones-le}
use Rattle.constellation.proofs.Masks.{size-halves}
use Rattle.constellation.proofs.size_of.Goals as goal

pub overflow_add-result : goal.overflow_add-result
overflow_add-result c = let m = c.args.m in omega (arith, ones-le 64 m.low (omega arith), ones-le 64 m.high (omega arith))

pub overflow_cast-result : goal.overflow_cast-result
overflow_cast-result c = let m = c.args.m in omega (arith, ones-le 64 m.low (omega arith), ones-le 64 m.high (omega arith))

pub returns : goal.returns
returns c = size-halves c.args.m (omega arith) (omega arith)
