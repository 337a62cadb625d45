-- The text keeps its length. Assumes nothing.
use Rattle.std.proofs.Common.{◌≡◌, length}
use Rattle.picture.proofs.svg.add_strip.Given as goal

abbrev pub invariant-loop-u : goal.invariant-loop-u
invariant-loop-u l = length l.text.bytes.now ≡ length l.initial.text.bytes.now
