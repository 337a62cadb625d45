-- Turn i goes to the start of part i + 1. Assumes nothing.
use mathlib.Core.Path.{◌≡◌, sym, ap}
use Prim.Native.Nat.{suc, ◌+◌, ◌-◌}
use native.Mathlib.Omega.{arith}
use lib.Dec.{eqb}
use lib.ListN.{drop}
use Rattle.std.specs.List.{position_or_len}
use Rattle.parts.specs.Parts.{before, parts_from, part_at}
use Rattle.parts.proofs.part_at.Goals as goal

pub loop-i-preserved : goal.loop-i-preserved
unfolding parts_from
loop-i-preserved c =
    let l = c.loop-i in
    let k = c.args.k in
    let n : k - l.i ≡ suc (k - (l.i + 1)) = omega arith in
    (omega arith, c.start_after-start.ensures.0, rw c.start_after-start.ensures.1 (rw n at l.invariant.2))

pub returns : goal.returns
unfolding parts_from part_at
returns c =
    let l = c.loop-i in
    let z : c.args.k - l.i ≡ 0 = omega arith in
    let from = sym (rw z at l.invariant.2) in
    let n : c.end_from.result - l.start ≡ position_or_len (λ x. eqb x c.args.e) (drop l.start c.args.text.now) = omega (arith, c.end_from.ensures.place) in
    (omega arith, c.end_from.ensures.within, from, rw n (ap (before _) from))
