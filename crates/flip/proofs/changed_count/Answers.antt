-- Turn p has counted those below p. Assumes nothing.
use mathlib.Core.Path.{◌≡◌, refl, sym, ap, ◌∙◌}
use Prim.Native.Nat.{ℕ, ◌+◌}
use mathlib.Core.Bool.{Bool, true, false, cond}
use mathlib.Core.List.{[], ◌∷◌}
use native.Mathlib.Nat.{zero-add}
use native.Mathlib.Numerals.{add-one}
use native.Mathlib.Omega.{arith}
use lib.ListN.{length, length-append}
use mir.Val.{bool_byte}
use Rattle.standard.specs.Lists.{list_where}
use Rattle.standard.specs.Bits.{weight}
use Rattle.standard.specs.Flip.{next_sign, changes, changed_places}
use Rattle.standard.proofs.Lists.{where_snoc}
use Rattle.standard.proofs.Bits.{weight-lt}
use Rattle.standard.proofs.Words.{byte_weight}
use Rattle.flip.proofs.changed_count.Invariants.{below}
use Rattle.flip.proofs.changed_count.Goals as goal

one : (b : Bool) (p : ℕ) → length (cond b (p ∷ []) []) ≡ weight b
one true p = refl
one false p = refl

below_next : (k i p : ℕ) (b : Bool) → b ≡ changes k i p → below k i (p + 1) ≡ below k i p + weight b
below_next k i p b e =
    ap (below k i) (add-one p) ∙ ap length (where_snoc (changes k i) 0 p)
    ∙ length-append (list_where (changes k i) 0 p) _
    ∙ ap (λ (n : ℕ). below k i p + n) (one (changes k i (0 + p)) (0 + p) ∙ ap weight (ap (changes k i) (zero-add p) ∙ sym e))

step : (c : goal.After-changes) → bool_byte c.changes.result ≡ weight c.changes.result
step c = byte_weight c.changes.result

pub loop-p-init : goal.loop-p-init
unfolding list_where
loop-p-init c = (omega arith, refl)

pub loop-p-preserved : goal.loop-p-preserved
loop-p-preserved c =
    let a = c.args in
    let l = c.loop-p in (
      omega (arith, step c, weight-lt c.changes.result),
      omega (arith, step c, below_next a.k a.i l.p c.changes.result c.changes.ensures),
    )

pub returns : goal.returns
unfolding changed_places
returns c =
    let a = c.args in
    let l = c.loop-p in
    let all : l.p ≡ next_sign a.k a.i + 24 = omega arith in
    l.invariant.1 ∙ ap (below a.k a.i) all

pub overflow_add-count : goal.overflow_add-count
overflow_add-count c = omega (arith, step c, weight-lt c.changes.result)
