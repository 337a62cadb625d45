-- A turn adds a space; those from here on are left. Assumes nothing.
use Prim.Native.Nat.{◌-◌}
use lib.ListN.{replicate}
use Rattle.words.proofs.Adding.{Left}
use Rattle.words.proofs.columns.add_spaces.Given as goal

abbrev pub invariant-loop-i : goal.invariant-loop-i
invariant-loop-i l =
    Left l.initial.text l.at (replicate (l.width - l.count) 32) l.text l.end (replicate (l.width - l.i) 32)
