-- Of u Ucodes no more than u are in the mask. Assumes nothing.
use Prim.Native.Nat.{◌≤◌}
use Rattle.picture.proofs.ucodes_of.Given as goal

abbrev pub invariant-loop-u : goal.invariant-loop-u
invariant-loop-u l = l.n ≤ l.u
