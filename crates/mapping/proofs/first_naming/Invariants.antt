-- No interval before j names the mask. Assumes nothing.
use mathlib.Core.Path.{◌≡◌}
use Prim.Native.Nat.{ℕ, ◌<◌}
use mathlib.Core.List.{List}
use lib.ListN.{get_or}
use Rattle.mapping.proofs.first_naming.Given as goal

abbrev pub Differ : List ℕ → ℕ → ℕ → Type 0
Differ index i j = (k : ℕ) → k < j → get_or index k 0 ≡ get_or index i 0 → ⊥

abbrev pub invariant-loop-j : goal.invariant-loop-j
invariant-loop-j l = Differ l.index l.i l.j
