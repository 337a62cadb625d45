-- Each entry below is counted. Assumes nothing.
use mathlib.Core.List.{List}
use Prim.Native.Nat.{ℕ}
use lib.ListN.{length}
use Rattle.standard.specs.Settings.{Entry, below}
use Rattle.entries.proofs.Sums.{Summing, below_one}
use Rattle.entries.proofs.Entries.count_below.Given as goal

abbrev pub counted : ℕ → List Entry → ℕ
counted j es = length (below j es)

abbrev pub invariant-loop : goal.invariant-loop
invariant-loop l = Summing l.self (counted l.j) (below_one l.j) 1 l.at l.found l.counter
