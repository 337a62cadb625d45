-- The numbers below m are too small: the search goes on from m. Assumes nothing.
use mathlib.Core.Path.{◌≡◌}
use Prim.Native.Nat.{◌^◌}
use Rattle.standard.specs.Plan.{points_for}
use Rattle.choosing.proofs.Choosing.{search_from}
use Rattle.choosing.proofs.points_for.Given as goal

abbrev pub invariant-loop-m : goal.invariant-loop-m
invariant-loop-m l = (l.least ≡ 2 ^ l.k) × (points_for l.k ≡ search_from l.k l.m)
