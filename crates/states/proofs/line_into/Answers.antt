-- The first five bytes. Assumes nothing.
use mathlib.Core.Path.{ap, ◌∙◌}
use Prim.Native.Nat.{ℕ}
use mathlib.Core.List.{List, ◌++◌}
use lib.ListN.{take, drop}
use Rattle.standard.specs.Lists.{list_from}
use Rattle.states.specs.StateBytes.{state_bytes, line_bytes}
use Rattle.states.proofs.line_into.Goals as goal

pub returns : goal.returns
unfolding state_bytes line_bytes list_from
returns c =
    ap (λ (xs : List ℕ). xs ++ drop 5 c.args.bytes.now) (c.copy_from_slice.ensures.after ∙ ap (take 5) c.bytes_of.ensures)
