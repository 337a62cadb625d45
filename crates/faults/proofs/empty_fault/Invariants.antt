-- The tests from interval i on are left after i turns. Assumes nothing.
use mathlib.Core.Path.{◌≡◌}
use Rattle.standard.specs.Refusals.{empty_test}
use Rattle.standard.proofs.First.{first_from}
use Rattle.faults.proofs.empty_fault.Given as goal

abbrev pub invariant-loop-i : goal.invariant-loop-i
invariant-loop-i l = first_from (empty_test l.r) 6 0 ≡ first_from (empty_test l.r) 6 l.i
