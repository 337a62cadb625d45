-- The words keep their room. Assumes nothing.
use Rattle.std.proofs.Common.{◌≡◌, length}
use Rattle.v91.proofs.script.words_of.Given as goal

abbrev pub invariant-loop-c : goal.invariant-loop-c
invariant-loop-c l = length l.words.bytes.now ≡ length l.initial.words.bytes.now
