-- After i turns i signs are found. Assumes nothing.
use mathlib.Core.Path.{◌≡◌, sym, ap, ◌∙◌}
use mathlib.Core.Bool.{Bool}
use mathlib.Core.List.{[], ◌∷◌, ◌++◌}
use native.Mathlib.Omega.{arith}
use Rattle.standard.specs.Lists.{list_from}
use Rattle.standard.specs.Frame.{sign_at}
use Rattle.standard.proofs.Words.{held_none, held_more}
use Rattle.coding.proofs.SixSigns.{list_more}
use Rattle.coding.proofs.signs.signs_in.Goals as goal

pub loop-i-init : goal.loop-i-init
unfolding list_from
loop-i-init c = held_none

pub with_top-signs-requires : goal.with_top-signs-requires
with_top-signs-requires c = (omega arith, c.loop-i.invariant.small)

pub loop-i-preserved : goal.loop-i-preserved
loop-i-preserved c =
    let l = c.loop-i in
    let f = sign_at c.args.octets.now in
    held_more _ l.invariant c.with_top-signs.ensures
    (list_more f l.i ∙ ap (λ (t : Bool). list_from f 0 l.i ++ (t ∷ [])) (sym c.sign_of.ensures))

pub returns : goal.returns
returns c = let e : c.loop-i.i ≡ 6 = omega arith in rw e at c.loop-i.invariant.value
