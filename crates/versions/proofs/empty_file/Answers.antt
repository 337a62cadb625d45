-- Seven bytes, or four, that the rules are computed of. Assumes nothing.
use mathlib.Core.Path.{refl}
use Rattle.standard.specs.Settings.{is_file, as_written, version_in, entries_in, settings_in, entries_at, little_at, file_of, entries_bytes, little}
use Rattle.standard.specs.Settings.{last_start, same, lawful, orderly, few, junctions, all_readable}
use Rattle.versions.proofs.empty_file.Goals as goal

pub returns-then-two : goal.returns-then-two
unfolding is_file as_written version_in entries_in settings_in entries_at little_at file_of entries_bytes little last_start same lawful orderly few junctions all_readable
returns-then-two c = rw c.if-two.true record { length = refl; bytes = refl; is_file = refl }

pub returns-else-two : goal.returns-else-two
unfolding is_file as_written version_in entries_in settings_in entries_at little_at file_of entries_bytes little last_start same lawful orderly few junctions all_readable
returns-else-two c = rw c.if-two.false record { length = refl; bytes = refl; is_file = refl }
