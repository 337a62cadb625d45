-- The text keeps its length. Assumes nothing.
use Rattle.std.proofs.Common.{◌≡◌, length}
use Rattle.picture.proofs.svg.add_grid.Given as goal

abbrev pub invariant-loop-value : goal.invariant-loop-value
invariant-loop-value l = length l.text.bytes.now ≡ length l.initial.text.bytes.now
