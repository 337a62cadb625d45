-- The parts from part k on are left after k turns. Assumes nothing.
use mathlib.Core.Path.{◌≡◌}
use mathlib.Core.List.{map}
use Prim.Native.Nat.{◌-◌}
use Rattle.parts.specs.Parts.{small, which, which_from, part_count}
use Rattle.parts.proofs.which.Given as goal

abbrev pub invariant-loop-k : goal.invariant-loop-k
invariant-loop-k l = which_from l.e l.text (map small l.word) l.k (part_count l.e l.text - l.k) ≡ which l.e l.text l.word
