-- The product of the first sizes, at most 128 each. Assumes nothing.
use mathlib.Core.Path.{◌≡◌}
use lib.ListN.{take}
use Rattle.standard.specs.Constellation.{sizes}
use Rattle.standard.specs.Modulus.{product}
use Rattle.faults.proofs.product_of.Given as goal

abbrev pub invariant-loop-size : goal.invariant-loop-size
invariant-loop-size l = l.found ≡ product (take l.size-index (sizes l.fn.r))
