-- The number so far is below 10 ^ i after i digits, and the others are left to say. Assumes nothing.
use mathlib.Core.Path.{◌≡◌}
use Prim.Native.Nat.{◌^◌, ◌<◌}
use lib.ListN.{drop}
use Rattle.parts.specs.Parts.{value_from}
use Rattle.parts.proofs.value_of.Given as goal

abbrev pub invariant-loop-c : goal.invariant-loop-c
invariant-loop-c l = (l.value < 10 ^ l.c-index) × (value_from l.value (drop l.c-index l.word) ≡ value_from 0 l.word)
