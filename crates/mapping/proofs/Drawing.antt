-- Both tables of a mask, one Ucode a turn from the smallest up. Assumes nothing.
use mathlib.Core.Path.{◌≡◌, refl, sym, ap, ◌∙◌}
use mathlib.Core.Logic.{◌⊎◌, inl, inr}
use Prim.Native.Nat.{ℕ, zero, suc, ◌+◌, ◌-◌, ◌^◌, ◌≤◌, ◌<◌}
use mathlib.Core.Bool.{Bool, true, false}
use mathlib.Core.List.{List}
use native.Mathlib.Decide.{dec_lt, dec_le, ℕ_discrete}
use native.Mathlib.Nat.{zero-div, eq-or-lt_of_le, le_of_suc-le-suc}
use native.Mathlib.Omega.{arith}
use borrow.Author.Tests.{lt-ltb, le-ltb}
use lib.ListN.{get_or, set, length-set, replicate}
use lib.Seq.{get_or-set_same, get_or-set_other}
use Rattle.standard.specs.Bits.{odd, weight, bit}
use Rattle.standard.specs.Constellation.{size_of, label_of, point_of}
use Rattle.standard.proofs.Lists.{list_from_is}
use Rattle.standard.proofs.Constellation.{size_of-le, label-above, point-label, point-past, stretch_none, none_stretch}
use Rattle.constellation.specs.declared.Mask.{Mask}
use Rattle.constellation.specs.Mask.{has}
use Rattle.constellation.proofs.Masks.{has_low, has_above}
use Rattle.mapping.specs.Tables.{point_table, label_or_none, label_table}
use Rattle.mapping.specs.Drawing.{left_in, Drawing}
use Rattle.mapping.proofs.Lowest.{Lowest}

-- ---- the smallest Ucode left, one a turn

same_at : (n v j : ℕ) → j < n → ◌≡◌ {A = ℕ} (get_or (replicate n v) j 0) v
same_at zero v j h = absurd (omega arith)
same_at (suc n) v zero h = refl
same_at (suc n) v (suc j) h = same_at n v j (omega arith)

size_none : (m : ℕ → Bool) → size_of m 0 ≡ 0
unfolding size_of
size_none m = refl

-- the whole mask is left
drawing_none : (m : ℕ → Bool) (c : ℕ) → c ≡ size_of m 128 → Drawing m m (replicate 128 0) (replicate 128 255) c
drawing_none m c e =
    record {
      v = 0;
      room = omega arith;
      same = λ u h. refl;
      gone = λ u h. absurd (omega arith);
      count = omega (arith, size_none m);
      long_points = refl;
      long_labels = refl;
      points = λ j a b. same_at 128 0 j b ∙ sym (point-past m 128 j (omega arith));
      drawn = λ u h. absurd (omega arith);
      blank = λ u a b. same_at 128 255 u b;
    }

module _ (m left : ℕ → Bool) (ps ls : List ℕ) (c : ℕ) (p : Drawing m left ps ls c) where
  pub few : c ≤ 128
  few = omega (arith, p.count, size_of-le m 128)

  module _ (u : ℕ) (h : u < 128) (left' : ℕ → Bool) (q : Lowest left u left') where
    from : p.v ≤ u
    from = go (dec_lt u p.v)
      where
        go : Dec (u < p.v) → p.v ≤ u
        go (yes l) = omega (arith, ap weight (sym q.there ∙ p.gone u l))
        go (no l) = omega arith

    inside : m u ≡ true
    inside = sym (p.same u from) ∙ q.there

    below : size_of m (suc u) ≡ suc (size_of m p.v)
    unfolding size_of
    below = omega (arith, ap weight inside, stretch_none m p.v u from (λ w a l. sym (p.same w a) ∙ q.least w l))

    -- the smallest Ucode left has the highest label left
    pub label_is : label_of m 128 u + 1 ≡ c
    label_is = omega (arith, below, label-above m 128 u h, p.count)

    pub drawing_more : Drawing m left' (set ps (c - 1) u) (set ls u (c - 1)) (c - 1)
    unfolding label_or_none
    drawing_more =
        record {
          v = suc u;
          room = h;
          same = λ w a. q.rest w (λ e. omega arith) ∙ p.same w (omega (arith, from));
          gone = λ w l. before w l (eq-or-lt_of_le (le_of_suc-le-suc l));
          count = omega (arith, below, label_is, p.count);
          long_points = length-set ps (c - 1) u ∙ p.long_points;
          long_labels = length-set ls u (c - 1) ∙ p.long_labels;
          points = λ j a b. point j a b (ℕ_discrete j (c - 1));
          drawn = λ w l. named w l (eq-or-lt_of_le (le_of_suc-le-suc l)) (dec_lt w p.v);
          blank = λ w a b. get_or-set_other ls u w (c - 1) 0 (λ e. omega arith) ∙ p.blank w (omega (arith, from)) b;
        }
      where
        before : (w : ℕ) → w < suc u → (w ≡ u) ⊎ (w < u) → left' w ≡ false
        before w l (inl e) = ap left' e ∙ q.gone
        before w l (inr k) = q.rest w (λ e. omega arith) ∙ q.least w k

        point : (j : ℕ) → c - 1 ≤ j → j < 128 → Dec (j ≡ c - 1) → get_or (set ps (c - 1) u) j 0 ≡ point_of m 128 j
        point j a b (yes e) =
            let l : label_of m 128 u ≡ j = omega (arith, label_is) in
            rw e (get_or-set_same ps (c - 1) u 0 (omega (arith, p.long_points)))
            ∙ sym (ap (point_of m 128) (sym l) ∙ point-label m 128 u h inside)
        point j a b (no e) = get_or-set_other ps (c - 1) j u 0 e ∙ p.points j (omega arith) b

        named : (w : ℕ) → w < suc u → (w ≡ u) ⊎ (w < u) → Dec (w < p.v) → get_or (set ls u (c - 1)) w 0 ≡ label_or_none m w
        named w l (inl e) d =
            let x : c - 1 ≡ label_of m 128 u = omega (arith, label_is) in
            rw (e, inside) (get_or-set_same ls u (c - 1) 0 (omega (arith, p.long_labels)) ∙ x)
        named w l (inr k) (yes d) = get_or-set_other ls u w (c - 1) 0 (λ e. omega arith) ∙ p.drawn w d
        named w l (inr k) (no d) =
            let out : m w ≡ false = sym (p.same w (omega arith)) ∙ q.least w k in
            get_or-set_other ls u w (c - 1) 0 (λ e. omega arith) ∙ p.blank w (omega arith) (omega arith) ∙ rw out

  -- nothing is left
  drawing_all : c ≡ 0 → (ps ≡ point_table m) × (ls ≡ label_table m)
  unfolding point_table label_table label_or_none
  drawing_all z = (
    list_from_is (point_of m 128) 0 128 ps p.long_points (λ j l. p.points j (omega arith) l),
    list_from_is (label_or_none m) 0 128 ls p.long_labels (λ u l. go u l (dec_lt u p.v)),
  )
    where
      go : (u : ℕ) → u < 128 → Dec (u < p.v) → get_or ls u 0 ≡ label_or_none m u
      go u l (yes d) = p.drawn u d
      go u l (no d) =
          let out : m u ≡ false = none_stretch m p.v 128 p.room (omega (arith, p.count)) u (omega arith) l in
          p.blank u (omega arith) l ∙ rw out

  -- the same may be left in other words
  drawing_ext : (left' : ℕ → Bool) → ((u : ℕ) → left u ≡ left' u) → Drawing m left' ps ls c
  drawing_ext left' e =
      record {
        v = p.v;
        room = p.room;
        same = λ u h. sym (e u) ∙ p.same u h;
        gone = λ u h. sym (e u) ∙ p.gone u h;
        count = p.count;
        long_points = p.long_points;
        long_labels = p.long_labels;
        points = p.points;
        drawn = p.drawn;
        blank = p.blank;
      }

-- ---- half a mask

module _ (x f : ℕ) (m : ℕ → Bool) (u : ℕ) where
  left_below : u < f → left_in x f m u ≡ false
  unfolding left_in
  left_below h = rw (lt-ltb u f h)

  left-within : f ≤ u → u < f + 64 → left_in x f m u ≡ bit x (u - f)
  unfolding left_in
  left-within a b = rw (le-ltb u f a, lt-ltb u (f + 64) b)

  left-above : f + 64 ≤ u → left_in x f m u ≡ m u
  unfolding left_in
  left-above h = let a : f ≤ u = omega arith in rw (le-ltb u f a, le-ltb u (f + 64) h)

-- nothing is left of a half
none_left : (f : ℕ) (m : ℕ → Bool) (u : ℕ) → u < f + 64 → left_in 0 f m u ≡ false
none_left f m u h = go (dec_lt u f)
  where
    go : Dec (u < f) → left_in 0 f m u ≡ false
    go (yes l) = left_below 0 f m u l
    go (no l) = left-within 0 f m u (omega arith) h ∙ ap odd (zero-div (2 ^ (u - f)))

-- the lowest one of what is left of the half is the smallest Ucode left
pub lowest_half : (f : ℕ) (m : ℕ → Bool) (x y t : ℕ) → t < 64 → Lowest (bit x) t (bit y) → Lowest (left_in x f m) (f + t) (left_in y f m)
lowest_half f m x y t h p =
    let e : f + t - f ≡ t = omega arith in
    record {
      there = left-within x f m (f + t) (omega arith) (omega arith) ∙ ap (bit x) e ∙ p.there;
      least = λ j l. below j l (dec_lt j f);
      gone = left-within y f m (f + t) (omega arith) (omega arith) ∙ ap (bit y) e ∙ p.gone;
      rest = λ j ne. other j ne (dec_lt j f) (dec_lt j (f + 64));
    }
  where
    below : (j : ℕ) → j < f + t → Dec (j < f) → left_in x f m j ≡ false
    below j l (yes a) = left_below x f m j a
    below j l (no a) = left-within x f m j (omega arith) (omega arith) ∙ p.least (j - f) (omega arith)

    other : (j : ℕ) → (j ≡ f + t → ⊥) → Dec (j < f) → Dec (j < f + 64) → left_in y f m j ≡ left_in x f m j
    other j ne (yes a) b = left_below y f m j a ∙ sym (left_below x f m j a)
    other j ne (no a) (yes b) =
        let l : f ≤ j = omega arith in
        left-within y f m j l b ∙ p.rest (j - f) (λ (q : j - f ≡ t). ne (omega arith)) ∙ sym (left-within x f m j l b)
    other j ne (no a) (no b) = let l : f + 64 ≤ j = omega arith in left-above y f m j l ∙ sym (left-above x f m j l)

-- where nothing is left of the half, the labels left are those above it
pub half_done : (m : ℕ → Bool) (f : ℕ) (ps ls : List ℕ) (c : ℕ) → f ≤ 64 → Drawing m (left_in 0 f m) ps ls c → c ≡ label_of m 128 (f + 63)
half_done m f ps ls c h p =
    let e : suc (f + 63) ≡ f + 64 = omega arith in
    omega (arith, p.count, above (dec_le p.v (f + 64)), label-above m 128 (f + 63) (omega arith), ap (size_of m) e)
  where
    above : Dec (p.v ≤ f + 64) → size_of m (f + 64) ≡ size_of m p.v
    above (yes l) = stretch_none m p.v (f + 64) l (λ u a b. sym (p.same u a) ∙ none_left f m u b)
    above (no l) = sym (stretch_none m (f + 64) p.v (omega arith) (λ u a b. sym (left-above 0 f m u a) ∙ p.gone u b))

-- ---- a mask of two halves

module _ (m : Mask) where
  lower_half : (u : ℕ) → Dec (u < 64) → has m u ≡ left_in m.low 0 (has m) u
  lower_half u (yes h) =
      let e : u - 0 ≡ u = omega arith in has_low m u h ∙ sym (left-within m.low 0 (has m) u (omega arith) h ∙ ap (bit m.low) e)
  lower_half u (no h) = sym (left-above m.low 0 (has m) u (omega arith))

  upper_half : (u : ℕ) → Dec (u < 64) → Dec (u < 128) → left_in 0 0 (has m) u ≡ left_in m.high 64 (has m) u
  upper_half u (yes h) l = none_left 0 (has m) u h ∙ sym (left_below m.high 64 (has m) u h)
  upper_half u (no h) (yes l) =
      left-above 0 0 (has m) u (omega arith) ∙ has_above m u (omega arith) l ∙ sym (left-within m.high 64 (has m) u (omega arith) l)
  upper_half u (no h) (no l) = left-above 0 0 (has m) u (omega arith) ∙ sym (left-above m.high 64 (has m) u (omega arith))

  -- before the lower half is drawn
  pub drawing_low : (c : ℕ) → c ≡ size_of (has m) 128 → Drawing (has m) (left_in m.low 0 (has m)) (replicate 128 0) (replicate 128 255) c
  drawing_low c e = drawing_ext (has m) (has m) _ _ c (drawing_none (has m) c e) _ (λ u. lower_half u (dec_lt u 64))

  module _ (ps ls : List ℕ) where
    -- between the halves
    pub drawing_high : (c : ℕ) → c ≡ label_of (has m) 128 63 → Drawing (has m) (left_in 0 0 (has m)) ps ls (label_of (has m) 128 63)
        → Drawing (has m) (left_in m.high 64 (has m)) ps ls c
    drawing_high c e p = drawing_ext (has m) (left_in 0 0 (has m)) ps ls c (rw e p) _ (λ u. upper_half u (dec_lt u 64) (dec_lt u 128))

    -- after the upper half
    pub drawing_done : Drawing (has m) (left_in 0 64 (has m)) ps ls (label_of (has m) 128 127) → (ps ≡ point_table (has m))
        × (ls ≡ label_table (has m))
    drawing_done p = drawing_all (has m) _ ps ls _ p (omega (arith, label-above (has m) 128 127 (omega arith)))
