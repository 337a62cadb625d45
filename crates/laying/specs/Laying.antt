-- Bytes laid into a buffer, and entries laid one behind the other. Assumes nothing.
use Rattle.std.specs.Prelude.{◌≡◌, ℕ, ◌+◌, ◌≤◌, List, ◌++◌, Some, None, length, take, drop}
use Rattle.std.specs.Prelude as std
use denote.Ref.{Bor}
use Rattle.std.proofs.Math.Option.{Option, none, some}
use Rattle.standard.specs.Settings.{Entry, entries_bytes, last_start}
use Rattle.entries.specs.Entries.{sizes}
use Rattle.laying.specs.declared.Spot.{Spot}
use Rattle.laying.specs.declared.Writer.{Writer}

-- the buffer d with x from place `at` on
unfoldable pub laid : List ℕ → ℕ → List ℕ → List ℕ
laid d at x = take at d ++ (x ++ drop (at + length x) d)

-- entries es with starts of w bytes are laid into the buffer d from the spot p on: the buffer after them, and the spot behind them
pub record Lays (w : ℕ) (d : List ℕ) (p : Spot) (es : List Entry) (out : List ℕ) (q : Spot) : Type 0 where
  pub bytes : out ≡ laid d p.to (entries_bytes w p.before p.to es)
  pub to : q.to ≡ p.to + length (entries_bytes w p.before p.to es)
  pub before : q.before ≡ last_start w p.before p.to es

-- so does a writer, and keeps the width of a start
pub record Writes (p : Writer) (es : List Entry) (q : Writer) : Type 0 where
  pub lays : Lays p.start p.out.now p.spot es q.out.now q.spot
  pub start : q.start ≡ p.start

-- entries for which it has room
abbrev pub Room : Writer → List Entry → Type 0
Room p es = p.spot.to + sizes p.start es ≤ length p.out.now

-- the bytes of a CP that may be there
unfoldable pub given : std.Option (Bor (List ℕ)) → Option (List ℕ)
given None = none
given (Some cp) = some cp.now
