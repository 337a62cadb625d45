-- After i turns i Ucodes were looked at, for each number of points that the choice may be of. Assumes nothing.
use Prim.Native.Nat.{ℕ}
use Rattle.choosing.proofs.Choosing.{Half}
use Rattle.choosing.proofs.choose_half.Given as goal

abbrev pub invariant-loop-i : goal.invariant-loop-i
invariant-loop-i l = (M : ℕ) → Half l.law l.spacing M l.from 0 l.initial.p → Half l.law l.spacing M l.from l.i l.p
