-- What is found in a file that keeps the rules. Assumes nothing.
use mathlib.Core.Path.{◌≡◌, sym, ap, subst, ◌∙◌}
use denote.Ref.{Bor}
use Prim.Native.Nat.{ℕ, zero, suc, ◌+◌, ◌-◌, ◌<◌, ◌≤◌}
use mathlib.Core.Bool.{true}
use mathlib.Core.List.{List}
use native.Mathlib.Omega.{arith}
use borrow.Author.Tests.{eqb-true, leb-true, le-leb}
use lib.Dec.{eqb, leb}
use lib.ListN.{length, get_or, take, drop}
use Rattle.standard.specs.declared.Version.{Version}
use Rattle.standard.specs.Settings.{Entry, entry_at, next_at, below, lawful, version_in, count_in, trailer, entries_in}
use Rattle.standard.specs.Settings.{settings_in}
use Rattle.theorems_settings.specs.Walk.{placed, layout, is_laid, last_in}
use Rattle.theorems_settings.proofs.Logic.{and_left, and_right, both}
use Rattle.theorems_settings.proofs.Entries.{placed-next}
use Rattle.entries.specs.declared.Entries.{Entries}
use Rattle.entries.specs.Entries.{inside, place_after, LieInside, entries_of, listed}
use Rattle.entries.proofs.Sums.{rest_inside, room}
use Rattle.places.specs.Finding.{FoundIn}

layout-inside : (w : ℕ) (s : List ℕ) (end last n at before : ℕ) → end ≤ length s → layout w s end last n at before ≡ true
    → inside w s (length s) n at ≡ true
unfolding layout inside next_at
layout-inside w s end last zero at before h e =
    le-leb at (length s) (omega (arith, eqb-true at end (and_left (eqb at end) (eqb before last) e)))
layout-inside w s end last (suc n) at before h e =
    both _ _ (le-leb (next_at w s at) (length s) (omega (arith, placed-next w s end at before (and_left (placed w s end at before) _ e))))
    (layout-inside w s end last n (next_at w s at) at h (and_right (placed w s end at before) _ e))

module _ (s : List ℕ) (e : is_laid (version_in s) s ≡ true) where
  file-long : trailer (version_in s) ≤ length s
  unfolding is_laid
  file-long = leb-true (trailer (version_in s)) (length s) (and_left (leb (trailer (version_in s)) (length s)) _ e)

  file-layout : layout (version_in s).start s (length s - trailer (version_in s)) (last_in (version_in s) s) (count_in (version_in s) s) 0 0
      ≡ true
  unfolding is_laid
  file-layout =
      let f : Version = version_in s in
      and_left _ (lawful f (entries_in f s))
      (and_right (eqb (get_or s (length s - 1) 0) f.byte) _ (and_right (leb (trailer f) (length s)) _ e))

  file-inside : inside (version_in s).start s (length s) (count_in (version_in s) s) 0 ≡ true
  file-inside =
      layout-inside (version_in s).start s (length s - trailer (version_in s)) (last_in (version_in s) s) (count_in (version_in s) s) 0 0
      (omega arith) file-layout

module _ (b : Bor (List ℕ)) (e : is_laid (version_in b.now) b.now ≡ true) (v : Version) (ev : v ≡ version_in b.now) where
  abbrev s : List ℕ
  s = b.now

  pub found-long : v.count + v.start + 1 ≤ length s
  found-long = subst (λ (g : Version). trailer g ≤ length s) (sym ev) (file-long s e)

  module _ (found : Entries) (ef : found ≡ entries_of v b) where
    same : found ≡ entries_of (version_in s) b
    same = ef ∙ ap {B = Entries} (λ (g : Version). entries_of g b) ev

    pub found_inside : LieInside found
    found_inside = subst LieInside (sym same) (file-inside s e)

    listed_are : listed found ≡ settings_in s
    unfolding settings_in entries_in
    listed_are = ap listed same

    pub found_made : (j k u : ℕ) → v.start ≤ 4 → v.count ≤ 2 → found.count < 65536 → k ≡ length (below j (listed found)) → k ≤ found.count
        → u ≡ length (below (j + 1) (listed found)) → u ≤ found.count
        → FoundIn b j (record { version = v; entries = found; below = k; upto = u })
    found_made j k u hs hc hn ek hk eu hu = record {
      version = ev;
      entries = same;
      front = ek ∙ ap (λ (es : List Entry). length (below j es)) listed_are;
      end = eu ∙ ap (λ (es : List Entry). length (below (j + 1) es)) listed_are;
      inner = found_inside;
      few = (hn, omega (arith, hs, ap (λ (x : Entries). x.start) ef));
      front_low = hk;
      end_low = hu;
      start = hs;
      count = hc;
    }

-- the entry of number k lies inside
pub here_room : (r : Entries) (k : ℕ) → LieInside r → k < r.count → (at : ℕ) → at ≡ place_after r.start r.file.now k r.from
    → at + 4 + get_or r.file.now (at + 3) 0 + r.start ≤ length r.file.now
here_room r k h l at e =
    room r at k (rw e (rest_inside r k h (omega arith))) l

pub cp_is : (r : Entries) (k : ℕ) (at n : ℕ) → at ≡ place_after r.start r.file.now k r.from → n ≡ get_or r.file.now (at + 3) 0
    → take (at + 4 + n - (at + 4)) (drop (at + 4) r.file.now) ≡ (entry_at r.file.now (place_after r.start r.file.now k r.from)).cp
unfolding entry_at
cp_is r k at n e en =
    let d : at + 4 + n - (at + 4) ≡ get_or r.file.now (at + 3) 0 = omega arith in
    ap (λ (m : ℕ). take m (drop (at + 4) r.file.now)) d
    ∙ ap (λ (p : ℕ). take (get_or r.file.now (p + 3) 0) (drop (p + 4) r.file.now)) e
