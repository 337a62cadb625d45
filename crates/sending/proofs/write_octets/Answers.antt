-- Turn i writes the octet of interval i. Assumes nothing.
use mathlib.Core.Path.{◌≡◌, ap, ◌∙◌}
use Prim.Native.Nat.{◌%◌}
use mathlib.Core.Bool.{Bool}
use mathlib.Core.List.{[]}
use native.Mathlib.Omega.{arith}
use lib.ListN.{get_or}
use Rattle.standard.specs.Octets.{octet}
use Rattle.standard.proofs.Filling.{filled_none, filled_more, filled-all}
use Rattle.sending.specs.Parts.{octet_in}
use Rattle.sending.proofs.write_octets.Goals as goal

pub loop-i-init : goal.loop-i-init
loop-i-init c = filled_none _ 6 _ c.requires.1

pub bounds-points-label : goal.bounds-points-label
bounds-points-label c = c.requires.0 c.loop-i.i (omega arith)

pub loop-i-preserved : goal.loop-i-preserved
unfolding octet_in
loop-i-preserved c =
    let l = c.loop-i in
    let a = c.args in
    let u = get_or (get_or a.points.now l.i []) (get_or a.labels l.i 0) 0 in
    filled_more _ l.invariant (omega arith) (c.octet_of.ensures ∙ ap (λ (s : Bool). octet a.law s (u % 128)) c.bit_of.ensures)

pub returns : goal.returns
returns c = let e : c.loop-i.i ≡ 6 = omega arith in filled-all (rw e at c.loop-i.invariant)
