-- Only what is told changes. Assumes nothing.
use Rattle.std.proofs.Common.{◌≡◌}
use Rattle.line.proofs.receive.Receiver.note_all.Given as goal

abbrev pub invariant-loop-i : goal.invariant-loop-i
invariant-loop-i l = (l.self.waiting ≡ l.initial.self.waiting) × (l.self.held ≡ l.initial.self.held)
