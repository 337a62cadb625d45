-- The size of each entry is added. Assumes nothing.
use mathlib.Core.Path.{◌≡◌}
use Prim.Native.Nat.{◌+◌}
use native.Mathlib.Omega.{arith}
use lib.ListN.{length, get_or}
use Rattle.standard.specs.Settings.{entry_at, entry_size}
use Rattle.entries.specs.Entries.{sizes}
use Rattle.theorems_settings.proofs.Entries.{entry_length}
use Rattle.entries.proofs.Sums.{room, sum_more, sum-all, adds_sizes}
use Rattle.entries.proofs.Entries.size_of.Goals as goal

pub loop-preserved : goal.loop-preserved
loop-preserved c =
    let a = c.args in
    let l = c.loop in
    let s = a.self.now.file.now in
    let len : length (entry_at s l.at).cp ≡ get_or s (l.at + 3) 0 = entry_length s l.at (omega (arith, room a.self.now l.at l.counter l.invariant.here (omega arith))) in
    sum_more a.self.now (sizes a.w) (entry_size a.w) 263 l.at l.found l.counter l.invariant (adds_sizes a.w) (omega arith) _ _
    (omega (arith, len, c.next_at-next.ensures.0)) (omega (arith, c.next_at-next.ensures.1)) c.next_at-next.ensures.0

pub returns-clause-value : goal.returns-clause-value
returns-clause-value c =
    let a = c.args in
    let l = c.loop in
    sum-all a.self.now (sizes a.w) (entry_size a.w) 263 l.at l.found l.counter l.invariant (adds_sizes a.w) (omega arith)
