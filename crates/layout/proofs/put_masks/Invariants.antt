-- The runs from k on are put. Assumes nothing.
use mathlib.Core.Path.{◌≡◌}
use Prim.Native.Nat.{◌-◌}
use Rattle.standard.specs.Lists.{list_from}
use Rattle.layout.specs.Writing.{put_fields}
use Rattle.layout.proofs.Writing.{run_field}
use Rattle.layout.proofs.put_masks.Given as goal

abbrev pub invariant-loop-k : goal.invariant-loop-k
invariant-loop-k l = l.cp ≡ put_fields l.initial.cp (list_from (run_field l.r.mask) l.k (l.initial.k - l.k))
