-- The validator's walk is layout and laws. Assumes nothing.
use mathlib.Core.Path.{◌≡◌, refl, sym, ap, ◌∙◌}
use mathlib.Core.Bool.{Bool, true, false, ◌&&◌}
use mathlib.Core.List.{List, ◌∷◌}
use Prim.Native.Nat.{ℕ, zero, suc, ◌+◌}
use native.Mathlib.Nat.{add_assoc, add-zero}
use lib.Dec.{eqb, leb}
use Rattle.standard.specs.Settings.{Entry, entry_at, next_at, entries_at, readable, all_readable, junctions}
use Rattle.theorems_settings.specs.Walk.{placed, layout, may_stand, rising, good_at, seen_at, walk}

and_none : (b : Bool) → (b && false) ≡ false
and_none true = refl
and_none false = refl

and-all : (b : Bool) → (b && true) ≡ b
and-all true = refl
and-all false = refl

-- the same seven tests in another order
shuffle : (p o a l q j b : Bool) → (p && ((o && a) && (l && (q && (j && b))))) ≡ ((p && l) && ((o && q) && (j && (a && b))))
shuffle false o a l q j b = refl
shuffle true o a false q j b = and_none (o && a)
shuffle true false a true q j b = refl
shuffle true true a true false j b = and_none a
shuffle true true a true true false b = and_none a
shuffle true true a true true true b = refl

walk_more : (w : ℕ) (s : List ℕ) (at before bar : ℕ) (follow : Bool) (seen most : ℕ) (p l q v : Bool) (es : List Entry)
    → v ≡ (l && (q && (leb ((seen + seen_at s at) + junctions es) most && all_readable es)))
    → (p && (good_at s at bar follow && v))
    ≡ ((p && l) && ((may_stand bar follow (entry_at s at) && q) &&
    (leb (seen + junctions (entry_at s at ∷ es)) most && (readable (entry_at s at).cp && all_readable es))))
unfolding good_at seen_at junctions entry_at
walk_more w s at before bar follow seen most p l q v es e =
    let sum : (seen + seen_at s at) + junctions es ≡ seen + junctions (entry_at s at ∷ es) = add_assoc seen (seen_at s at) (junctions es) in
    ap (λ (x : Bool). p && (good_at s at bar follow && x)) (e ∙ ap (λ (k : ℕ). l && (q && (leb k most && all_readable es))) sum)
    ∙ shuffle p (may_stand bar follow (entry_at s at)) (readable (entry_at s at).cp) l q (leb (seen + junctions (entry_at s at ∷ es)) most)
    (all_readable es)

pub walk_is : (w : ℕ) (s : List ℕ) (end last most n at before bar : ℕ) (follow : Bool) (seen : ℕ)
    → walk w s end last most n at before bar follow seen
    ≡ (layout w s end last n at before
    && (rising bar follow (entries_at w s at n) && (leb (seen + junctions (entries_at w s at n)) most && all_readable (entries_at w s at n))))
unfolding walk layout rising entries_at junctions all_readable
walk_is w s end last most zero at before bar follow seen =
    ap (λ (x : Bool). (eqb at end && eqb before last) && x)
    (sym (and-all (leb (seen + 0) most) ∙ ap (λ (k : ℕ). leb k most) (add-zero seen)))
walk_is w s end last most (suc n) at before bar follow seen =
    walk_more w s at before bar follow seen most (placed w s end at before) (layout w s end last n (next_at w s at) at)
    (rising ((entry_at s at).junction + 1) (eqb (entry_at s at).kind 0) (entries_at w s (next_at w s at) n))
    (walk w s end last most n (next_at w s at) at ((entry_at s at).junction + 1) (eqb (entry_at s at).kind 0) (seen + seen_at s at))
    (entries_at w s (next_at w s at) n)
    (walk_is w s end last most n (next_at w s at) at ((entry_at s at).junction + 1) (eqb (entry_at s at).kind 0) (seen + seen_at s at))
