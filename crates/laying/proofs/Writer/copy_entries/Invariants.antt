-- One entry a turn. Assumes nothing.
use mathlib.Core.Path.{◌≡◌}
use Rattle.laying.proofs.Joining.{Copied}
use Rattle.laying.proofs.Writer.copy_entries.Given as goal

abbrev pub invariant-loop : goal.invariant-loop
invariant-loop l =
    Copied l.initial.self l.entries l.self l.at l.counter × (l.self.out.ghost_name ≡ l.initial.self.out.ghost_name)
