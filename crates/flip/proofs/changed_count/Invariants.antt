-- Turn p has counted those below p. Assumes nothing.
use mathlib.Core.Path.{◌≡◌}
use Prim.Native.Nat.{ℕ, ◌≤◌}
use lib.ListN.{length}
use Rattle.standard.specs.Lists.{list_where}
use Rattle.standard.specs.Flip.{changes}
use Rattle.flip.proofs.changed_count.Given as goal

-- how many below p change
abbrev pub below : ℕ → ℕ → ℕ → ℕ
below k i p = length (list_where (changes k i) 0 p)

abbrev pub invariant-loop-p : goal.invariant-loop-p
invariant-loop-p l =
    (l.count ≤ l.p) × (l.count ≡ below l.k l.i l.p)
