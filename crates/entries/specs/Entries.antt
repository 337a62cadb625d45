-- Entries that lie inside a byte string, and how many bytes they have. Assumes nothing.
use Rattle.std.specs.Prelude.{◌≡◌, ℕ, zero, suc, ◌+◌, ◌<◌, ◌≤◌, Bool, true, ◌&&◌, List, [], ◌∷◌, leb, length}
use denote.Ref.{Bor}
use Rattle.standard.specs.declared.Version.{Version}
use Rattle.standard.specs.Settings.{Entry, entry_size, next_at, entries_at, count_in}
use Rattle.entries.specs.declared.Entries.{Entries}

-- n entries from `at` on end at or before `end`
unfoldable pub inside : ℕ → List ℕ → ℕ → ℕ → ℕ → Bool
inside w s end zero at = leb at end
inside w s end (suc n) at = leb (next_at w s at) end && inside w s end n (next_at w s at)

-- the place after n entries
unfoldable pub place_after : ℕ → List ℕ → ℕ → ℕ → ℕ
place_after w s zero at = at
place_after w s (suc n) at = place_after w s n (next_at w s at)

-- the bytes of entries whose starts have w bytes
unfoldable pub sizes : ℕ → List Entry → ℕ
sizes w [] = 0
sizes w (e ∷ es) = entry_size w e + sizes w es

-- ---- entries in a file

-- the last of them ends where the file does, or before
abbrev pub LieInside : Entries → Type 0
LieInside r = inside r.start r.file.now (length r.file.now) r.count r.from ≡ true

-- a count of two bytes, and starts of four at most
abbrev pub Few : Entries → Type 0
Few r = (r.count < 65536) × (r.start ≤ 4)

-- as many as the trailer of a file of this version says, from place 0
abbrev pub entries_of : Version → Bor (List ℕ) → Entries
entries_of v b = record { file = b; start = v.start; from = 0; count = count_in v b.now }

abbrev pub listed : Entries → List Entry
listed r = entries_at r.start r.file.now r.from r.count
