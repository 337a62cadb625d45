-- The text keeps its length. Assumes nothing.
use Rattle.std.proofs.Common.{◌≡◌, length}
use Rattle.settings_file.proofs.table.add_row.Given as goal

abbrev pub invariant-loop-m : goal.invariant-loop-m
invariant-loop-m l = length l.text.bytes.now ≡ length l.initial.text.bytes.now
