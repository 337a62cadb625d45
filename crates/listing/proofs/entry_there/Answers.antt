-- Each way in which no entry ends before the trailer, and the test that is left. Assumes nothing.
use mathlib.Core.Path.{ap, ◌∙◌}
use Prim.Native.Nat.{ℕ, ◌+◌, ◌-◌}
use native.Mathlib.Omega.{arith}
use lib.Dec.{leb}
use lib.ListN.{length}
use Rattle.standard.specs.Settings.{trailer}
use Rattle.listing.proofs.Reading.{there_no, there_is}
use Rattle.listing.proofs.entry_there.Goals as goal

pub returns-then-s-tail : goal.returns-then-s-tail
returns-then-s-tail c =
    let a = c.args in
    let v = c.version_in-v in
    there_no a.s.now a.at v.result v.ensures.0 (omega arith)

pub returns-then-end-at : goal.returns-then-end-at
returns-then-end-at c =
    let a = c.args in
    let v = c.version_in-v in
    there_no a.s.now a.at v.result v.ensures.0 (omega arith)

pub returns-then-end-at-lt4 : goal.returns-then-end-at-lt4
returns-then-end-at-lt4 c =
    let a = c.args in
    let v = c.version_in-v in
    there_no a.s.now a.at v.result v.ensures.0 (omega arith)

pub returns : goal.returns
returns c =
    let a = c.args in
    let v = c.version_in-v in
    let left = length a.s.now - trailer v.result - a.at in
    ap (λ (k : ℕ). leb (4 + k + v.result.start) left) c.from.ensures
    ∙ there_is a.s.now a.at v.result v.ensures.0 (omega arith)
