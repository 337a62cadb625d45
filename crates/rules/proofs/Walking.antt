-- The walk's steps. Assumes nothing.
use mathlib.Core.Path.{◌≡◌, sym, ◌∙◌}
use mathlib.Core.Bool.{Bool, true, false, ◌&&◌, cond}
use mathlib.Core.List.{List}
use Prim.Native.Nat.{ℕ, suc, ◌+◌, ◌-◌, ◌<◌, ◌≤◌}
use native.Mathlib.Omega.{arith}
use lib.Dec.{eqb, leb}
use lib.ListN.{get_or}
use borrow.Author.Tests.{lt-leb, le-leb}
use Rattle.standard.specs.Settings.{little_at, entry_at, next_at}
use Rattle.theorems_settings.specs.Walk.{placed, good_at, seen_at, walk}
use Rattle.theorems_settings.proofs.Logic.{and_no, and_yes}
use Rattle.theorems_settings.proofs.Entries.{placed-next}

module _ (w : ℕ) (s : List ℕ) (end at before : ℕ) where
  pub placed-short : at ≤ end → end - at < 4 → false ≡ placed w s end at before
  unfolding placed
  placed-short h l = and_no _ _ (lt-leb (at + 4) end (omega arith))

  pub placed-long : at ≤ end → 4 ≤ end - at → end - at < 4 + get_or s (at + 3) 0 + w → false ≡ placed w s end at before
  unfolding placed next_at
  placed-long h k l =
      and_no _ _ (lt-leb (at + 4 + get_or s (at + 3) 0 + w) end (omega arith)) ∙ sym (and_yes _ _ (le-leb (at + 4) end (omega arith)))

  pub placed-fits : at ≤ end → 4 + get_or s (at + 3) 0 + w ≤ end - at
      → eqb (little_at s (at + 4 + get_or s (at + 3) 0) w) before ≡ placed w s end at before
  unfolding placed next_at
  placed-fits h l =
      sym (and_yes _ _ (le-leb (at + 4) end (omega arith)) ∙ and_yes _ _ (le-leb (at + 4 + get_or s (at + 3) 0 + w) end (omega arith)))

-- a placed entry has room
pub room : (w : ℕ) (s : List ℕ) (end at before : ℕ) (r : Bool) → r ≡ placed w s end at before → r ≡ true
    → at + 4 + get_or s (at + 3) 0 + w ≤ end
room w s end at before r e h = placed-next w s end at before (sym e ∙ h)

-- what is left to walk
module _ (w : ℕ) (s : List ℕ) (end last most n : ℕ) where
  pub record Walking (at before bar : ℕ) (follow : Bool) (seen i : ℕ) : Type 0 where
    pub done : i ≤ n
    pub low : at ≤ end
    pub few : seen ≤ i
    pub left : walk w s end last most n 0 0 0 false 0 ≡ walk w s end last most (n - i) at before bar follow seen

  pub start : Walking 0 0 0 false 0 0
  start = let e : n - 0 ≡ n = omega arith in record { done = omega arith; low = omega arith; few = omega arith; left = rw e }

  module _ (at before bar : ℕ) (follow : Bool) (seen i : ℕ) (go : Walking at before bar follow seen i) where
    step : i < n → walk w s end last most n 0 0 0 false 0
        ≡ (placed w s end at before
        && (good_at s at bar follow
        && walk w s end last most (n - (i + 1)) (next_at w s at) at ((entry_at s at).junction + 1) (eqb (entry_at s at).kind 0)
        (seen + seen_at s at)))
    unfolding walk
    step l = let e : n - i ≡ suc (n - (i + 1)) = omega arith in go.left ∙ rw e

    pub not-placed : i < n → placed w s end at before ≡ false → false ≡ walk w s end last most n 0 0 0 false 0
    not-placed l p = and_no _ _ p ∙ sym (step l)

    pub not_good : i < n → placed w s end at before ≡ true → good_at s at bar follow ≡ false → false ≡ walk w s end last most n 0 0 0 false 0
    not_good l p g = and_no _ _ g ∙ sym (and_yes _ _ p) ∙ sym (step l)

    pub more : i < n → placed w s end at before ≡ true → good_at s at bar follow ≡ true → (j : ℕ) (q : Bool) (k : ℕ) → j ≡ little_at s at 2
        → q ≡ eqb (get_or s (at + 2) 0) 0 → k ≡ cond q 1 0 → (next : ℕ) → next ≡ at + 4 + get_or s (at + 3) 0 + w
        → Walking next at (j + 1) q (seen + k) (i + 1)
    unfolding entry_at next_at seen_at
    more l p g j q k ej eq ek next en = record {
      done = omega arith;
      low = omega (arith, placed-next w s end at before p);
      few = omega (arith, go.few, one q);
      left = step l ∙ and_yes _ _ p ∙ and_yes _ _ g ∙ rw (ek, eq, ej, en);
    }
      where
        one : (b : Bool) → cond b 1 0 ≤ 1
        one true = omega arith
        one false = omega arith

    pub all : n ≤ i → ((eqb at end && eqb before last) && leb seen most) ≡ walk w s end last most n 0 0 0 false 0
    unfolding walk
    all l = let e : n - i ≡ 0 = omega arith in sym (go.left ∙ rw e)
