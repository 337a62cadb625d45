-- Turn i draws up the tables of interval i. Assumes nothing.
use Rattle.mapping.specs.Tables.{DrawnBefore}
use Rattle.mapping.proofs.draw_up.Given as goal

abbrev pub invariant-loop-i : goal.invariant-loop-i
invariant-loop-i l = DrawnBefore l.r l.points l.labels l.i
