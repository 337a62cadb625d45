-- What is found in a file of the entries of one junction. Only proofs and inner contracts cite it. Assumes nothing.
use Rattle.std.specs.Prelude.{◌≡◌, ℕ, ◌+◌, ◌≤◌, List, length}
use denote.Ref.{Bor}
use Rattle.standard.specs.Settings.{version_in, settings_in, below, entry_at}
use Rattle.entries.specs.declared.Entries.{Entries}
use Rattle.entries.specs.Entries.{LieInside, Few, entries_of, place_after}
use Rattle.places.specs.declared.Found.{Found}

-- the CP of entry number k
abbrev pub cp_number : Entries → ℕ → List ℕ
cp_number r k = (entry_at r.file.now (place_after r.start r.file.now k r.from)).cp

pub record FoundIn (b : Bor (List ℕ)) (j : ℕ) (r : Found) : Type 0 where
  pub version : r.version ≡ version_in b.now
  pub entries : r.entries ≡ entries_of (version_in b.now) b
  pub front : r.below ≡ length (below j (settings_in b.now))
  pub end : r.upto ≡ length (below (j + 1) (settings_in b.now))
  pub inner : LieInside r.entries
  pub few : Few r.entries
  pub front_low : r.below ≤ r.entries.count
  pub end_low : r.upto ≤ r.entries.count
  pub start : r.version.start ≤ 4
  pub count : r.version.count ≤ 2
