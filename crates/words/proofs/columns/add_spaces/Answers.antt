-- A turn adds a space; those from here on are left. Assumes nothing.
use Rattle.std.proofs.Common.{◌≡◌, ◌+◌, ◌-◌, suc, arith}
use Rattle.words.proofs.Adding.{added_none, added-both}
use Rattle.words.proofs.columns.add_spaces.Goals as goal

pub loop-i-preserved : goal.loop-i-preserved
loop-i-preserved c =
    let l = c.loop-i in
    let n : c.args.width - l.i ≡ suc (c.args.width - (l.i + 1)) = omega arith in
    λ u e d. l.invariant u e (rw n (added-both c.put-end.ensures d))

pub returns : goal.returns
returns c =
    let n : c.args.width - c.loop-i.i ≡ 0 = omega arith in
    (rw n at c.loop-i.invariant) _ _ added_none
