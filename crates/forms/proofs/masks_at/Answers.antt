-- Turn h fills in half h. Assumes nothing.
use mathlib.Core.Path.{◌≡◌, refl, ap, ◌∙◌}
use Prim.Native.Nat.{ℕ, ◌+◌, ◌*◌}
use Rattle.standard.specs.Bits.{bit_at, field}
use Rattle.standard.proofs.Filling.{filled_none, filled_more, filled-all}
use native.Mathlib.Omega.{arith}
use Rattle.forms.proofs.masks_at.Goals as goal

pub loop-h-init : goal.loop-h-init
loop-h-init c = filled_none _ 12 _ refl

pub loop-h-preserved : goal.loop-h-preserved
loop-h-preserved c =
    let l = c.loop-h in
    let s = c.args.bytes.now in
    let e : 8 * (9 + 8 * l.h) ≡ 72 + 64 * l.h = omega arith in
    filled_more _ l.invariant (omega arith) (c.word_at.ensures ∙ ap (λ (p : ℕ). field (bit_at s) p 64) e)

pub returns : goal.returns
returns c = let e : c.loop-h.h ≡ 12 = omega arith in filled-all (rw e at c.loop-h.invariant)
