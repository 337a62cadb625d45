-- Turn i fills byte i, and the value is that of the next. Assumes nothing.
use mathlib.Core.Path.{◌≡◌}
use lib.ListN.{length}
use Rattle.standard.proofs.Filling.{Filled}
use Rattle.cases.specs.Cases.{filling}
use Rattle.cases.proofs.fill.Given as goal

abbrev pub invariant-loop-byte : goal.invariant-loop-byte
invariant-loop-byte l =
    (l.value ≡ filling l.first l.step l.byte-index) × Filled (filling l.first l.step) (length l.initial.buffer) l.buffer l.byte-index
