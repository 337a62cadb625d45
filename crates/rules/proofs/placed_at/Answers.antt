-- No place is read before it is known to lie inside. Assumes nothing.
use mathlib.Core.Path.{◌≡◌, ap, ◌∙◌}
use native.Mathlib.Omega.{arith}
use Prim.Native.Nat.{ℕ, ◌+◌}
use lib.ListN.{get_or}
use lib.Dec.{eqb}
use Rattle.standard.specs.Settings.{little_at}
use Rattle.rules.proofs.Walking.{placed-short, placed-long, placed-fits}
use Rattle.rules.proofs.placed_at.Goals as goal

pub returns-then-end-at-lt4 : goal.returns-then-end-at-lt4
returns-then-end-at-lt4 c =
    let a = c.args in
    placed-short a.entries.now.start a.entries.now.file.now a.end a.at a.before (omega arith) (omega arith)

pub returns-then-end-at : goal.returns-then-end-at
returns-then-end-at c =
    let a = c.args in
    placed-long a.entries.now.start a.entries.now.file.now a.end a.at a.before (omega arith) (omega arith) (omega arith)

pub returns : goal.returns
returns c =
    let a = c.args in
    let l : c.from-len.result ≡ get_or a.entries.now.file.now (a.at + 3) 0 = c.from-len.ensures in
    ap (λ (x : ℕ). eqb x a.before) (c.number_at.ensures.value ∙ ap (λ (x : ℕ). little_at a.entries.now.file.now (a.at + 4 + x) a.entries.now.start) l)
    ∙ placed-fits a.entries.now.start a.entries.now.file.now a.end a.at a.before (omega arith) (omega arith)
