-- The entry at a place of a file, for a list of them. Assumes nothing.
use Rattle.std.specs.Prelude.{◌≡◌, ℕ, ◌-◌, Bool, not, List, eqb, leb, length}
use Rattle.standard.specs.Settings.{version_in, entry_at, next_at, trailer, bit_count_of}
use Rattle.standard.specs.Calls.{read_call, read_record}
use Rattle.standard.specs.declared.Record.{Record}
use Rattle.listing.specs.declared.EntryRead.{EntryRead}

-- it ends before the trailer
unfoldable pub entry_there : List ℕ → ℕ → Bool
entry_there s at = leb (next_at (version_in s).start s at) (length s - trailer (version_in s))

-- what the reader makes of its CP
unfoldable pub entry_record : List ℕ → ℕ → Record
entry_record s at = read_record (read_call (entry_at s at).cp (bit_count_of (length (entry_at s at).cp)))

-- an entry that is there
pub record Reads (s : List ℕ) (at : ℕ) (x : EntryRead) : Type 0 where
  pub junction : x.junction ≡ (entry_at s at).junction
  pub previous : x.previous ≡ not (eqb (entry_at s at).kind 0)
  pub cp : x.record ≡ entry_record s at
  pub next : x.next ≡ next_at (version_in s).start s at
