-- The entries of a file with others in place of some, written or refused. Assumes nothing.
use Rattle.std.specs.Prelude.{ℕ, ◌-◌, ◌<◌, List, [], ◌∷◌, ◌++◌, length, IfSome}
use Rattle.std.proofs.Math.Option.{some}
use Rattle.standard.specs.First.{Answer, first}
use Rattle.standard.specs.Settings.{Entry, entries_for, no_room}
use Rattle.entries.specs.declared.Entries.{Entries}
use Rattle.entries.specs.Entries.{listed, place_after}
use Rattle.laying.specs.Laying.{given}
use Rattle.rewriting.specs.declared.JunctionSettings.{JunctionSettings}

-- the entries of a junction by its CPs
abbrev pub own_entries : JunctionSettings → List Entry
own_entries o = entries_for o.junction (record { current = some o.current.now; previous = given o.previous })

-- CPs whose length is a byte
abbrev pub Short : JunctionSettings → Type 0
Short o = (length o.current.now < 256) × IfSome o.previous (λ cp. length cp.now < 256)

-- entries of a file, others, and entries of a file
abbrev pub around : Entries → List Entry → Entries → List Entry
around front own rest = listed front ++ (own ++ listed rest)

-- of entries those of the numbers below k, and those from u on
abbrev pub before : Entries → ℕ → Entries
before r k = record r { count = k }

abbrev pub behind : Entries → ℕ → Entries
behind r u = record r { from = place_after r.start r.file.now u r.from; count = r.count - u }

-- others in place of the entries of numbers k to u - 1
unfoldable pub rewritten : Entries → ℕ → ℕ → List Entry → List Entry
rewritten r k u own = around (before r k) own (behind r u)

-- a file t is written, or refused with 17
unfoldable pub written_refusal : ℕ → List ℕ → Answer
written_refusal room t = first (no_room room t ∷ [])
