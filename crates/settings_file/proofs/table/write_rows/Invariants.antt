-- No more junctions have a previous setting than were listed. Assumes nothing.
use Prim.Native.Nat.{◌≤◌}
use Rattle.settings_file.proofs.table.write_rows.Given as goal

abbrev pub invariant-loop-rows : goal.invariant-loop-rows
invariant-loop-rows l = l.kept ≤ l.rows
