-- Order: what a replaced junction leaves is in order. Assumes nothing.
use mathlib.Core.Path.{◌≡◌, refl, sym, ap, ap₂, ◌∙◌}
use mathlib.Core.Bool.{Bool, true, false, ◌&&◌, ◌||◌}
use mathlib.Core.List.{List, [], ◌∷◌, ◌++◌}
use mathlib.Core.Logic.{◌⊎◌, inl, inr}
use mathlib.Core.Option.{Option, none, some}
use Prim.Native.Nat.{ℕ, ◌+◌, ◌<◌, ◌≤◌, zero-le}
use native.Mathlib.Decide.{dec_lt}
use native.Mathlib.Omega.{arith}
use lib.Dec.{eqb, leb, ltb}
use borrow.Author.Tests.{eqb-true, eqb-false, leb-true, eq-eqb, ne_eqb, lt-ltb, le-ltb, le-leb, lt-leb}
use Rattle.standard.specs.Settings.{Entry, below, above, entry, replace, follows, in_order, orderly}
use Rattle.theorems_settings.specs.Walk.{may_stand, rising}
use Rattle.theorems_settings.proofs.Logic.{and_left, and_right, both}
use Rattle.theorems_settings.proofs.Shown.{pair, below_yes, below_no, above_yes, above_no}

-- ---- the walk's order is the file's

ltb_is : (a b : ℕ) → ltb a b ≡ leb (a + 1) b
ltb_is a b = go (dec_lt a b)
  where
    go : Dec (a < b) → ltb a b ≡ leb (a + 1) b
    go (yes l) = lt-ltb a b l ∙ sym (le-leb (a + 1) b (omega arith))
    go (no l) = le-ltb a b (omega arith) ∙ sym (lt-leb (a + 1) b (omega arith))

eqb_is : (a b : ℕ) → eqb a b ≡ eqb (a + 1) (b + 1)
eqb_is a b = go (eqb a b) refl
  where
    go : (c : Bool) → eqb a b ≡ c → c ≡ eqb (a + 1) (b + 1)
    go true e = sym (eq-eqb (a + 1) (b + 1) (ap (λ (k : ℕ). k + 1) (eqb-true a b e)))
    go false e = sym (ne_eqb (a + 1) (b + 1) (λ q. eqb-false a b e (omega arith)))

and_assoc : (a b c : Bool) → (a && (b && c)) ≡ ((a && b) && c)
and_assoc true b c = refl
and_assoc false b c = refl

follows_is : (d e : Entry) → follows d e ≡ may_stand (d.junction + 1) (eqb d.kind 0) e
unfolding follows may_stand
follows_is d e =
    ap₂ ◌||◌ (ap (λ (b : Bool). eqb e.kind 0 && b) (ltb_is d.junction e.junction))
    (and_assoc (eqb e.kind 1) (eqb d.kind 0) (eqb e.junction d.junction)
    ∙ ap (λ (b : Bool). (eqb e.kind 1 && eqb d.kind 0) && b) (eqb_is e.junction d.junction))

in_order_is : (d : Entry) (es : List Entry) → in_order d es ≡ rising (d.junction + 1) (eqb d.kind 0) es
unfolding in_order rising
in_order_is d [] = refl
in_order_is d (e ∷ es) = ap₂ ◌&&◌ (follows_is d e) (in_order_is e es)

first_is : (e : Entry) → eqb e.kind 0 ≡ may_stand 0 false e
unfolding may_stand
first_is e = go (eqb e.kind 0) (eqb e.kind 1)
  where
    go : (a b : Bool) → a ≡ ((a && leb 0 e.junction) || ((b && false) && eqb (e.junction + 1) 0))
    go a b = rw (le-leb 0 e.junction zero-le) (alone a b)
      where
        alone : (a b : Bool) → a ≡ ((a && true) || ((b && false) && eqb (e.junction + 1) 0))
        alone true b = refl
        alone false true = refl
        alone false false = refl

pub orderly_is : (es : List Entry) → orderly es ≡ rising 0 false es
unfolding orderly rising
orderly_is [] = refl
orderly_is (e ∷ es) = ap₂ ◌&&◌ (first_is e) (in_order_is e es)

-- ---- the two ways to be in order
or_cases : (a b : Bool) → (a || b) ≡ true → (a ≡ true) ⊎ (b ≡ true)
or_cases true b e = inl refl
or_cases false b e = inr e

or_left : (a b : Bool) → a ≡ true → (a || b) ≡ true
or_left a b e = rw e

or_right : (a b : Bool) → b ≡ true → (a || b) ≡ true
or_right true b e = refl
or_right false b e = e

pub record Current (bar : ℕ) (e : Entry) : Type 0 where
  pub kind : e.kind ≡ 0
  pub low : bar ≤ e.junction

pub record Previous (bar : ℕ) (follow : Bool) (e : Entry) : Type 0 where
  pub kind : e.kind ≡ 1
  pub may : follow ≡ true
  pub same : e.junction + 1 ≡ bar

pub order_cases : (bar : ℕ) (follow : Bool) (e : Entry) → may_stand bar follow e ≡ true → Current bar e ⊎ Previous bar follow e
unfolding may_stand
order_cases bar follow e h =
    go (or_cases (eqb e.kind 0 && leb bar e.junction) ((eqb e.kind 1 && follow) && eqb (e.junction + 1) bar) h)
  where
    go : ((eqb e.kind 0 && leb bar e.junction) ≡ true) ⊎ (((eqb e.kind 1 && follow) && eqb (e.junction + 1) bar) ≡ true)
        → Current bar e ⊎ Previous bar follow e
    go (inl p) =
        inl (record {
          kind = eqb-true e.kind 0 (and_left _ (leb bar e.junction) p);
          low = leb-true bar e.junction
              (and_right (eqb e.kind 0) _ p);
        })
    go (inr p) =
        let q : (eqb e.kind 1 && follow) ≡ true = and_left _ (eqb (e.junction + 1) bar) p in
        inr (record {
          kind = eqb-true e.kind 1 (and_left _ follow q);
          may = and_right (eqb e.kind 1) follow q;
          same = eqb-true
              (e.junction + 1) bar (and_right (eqb e.kind 1 && follow) _ p);
        })

current_in : (bar : ℕ) (follow : Bool) (e : Entry) → Current bar e → may_stand bar follow e ≡ true
unfolding may_stand
current_in bar follow e c = or_left _ _ (both _ _ (eq-eqb e.kind 0 c.kind) (le-leb bar e.junction c.low))

previous_in : (bar : ℕ) (follow : Bool) (e : Entry) → Previous bar follow e → may_stand bar follow e ≡ true
unfolding may_stand
previous_in bar follow e c =
    or_right (eqb e.kind 0 && leb bar e.junction) _
    (both _ _ (both _ _ (eq-eqb e.kind 1 c.kind) c.may) (eq-eqb (e.junction + 1) bar c.same))

pub rising_head : (bar : ℕ) (follow : Bool) (e : Entry) (es : List Entry) → rising bar follow (e ∷ es) ≡ true → may_stand bar follow e ≡ true
unfolding rising
rising_head bar follow e es h = and_left (may_stand bar follow e) _ h

pub rising_tail : (bar : ℕ) (follow : Bool) (e : Entry) (es : List Entry) → rising bar follow (e ∷ es) ≡ true
    → rising (e.junction + 1) (eqb e.kind 0) es ≡ true
unfolding rising
rising_tail bar follow e es h = and_right (may_stand bar follow e) _ h

rising-cons : (bar : ℕ) (follow : Bool) (e : Entry) (es : List Entry) → may_stand bar follow e ≡ true
    → rising (e.junction + 1) (eqb e.kind 0) es ≡ true → rising bar follow (e ∷ es) ≡ true
unfolding rising
rising-cons bar follow e es h t = both _ _ h t

-- a lower bar lets more through, and so does following
loosen : (bar bar' : ℕ) (follow : Bool) (es : List Entry) → bar' ≤ bar → rising bar false es ≡ true → rising bar' follow es ≡ true
unfolding rising
loosen bar bar' follow [] l h = refl
loosen bar bar' follow (e ∷ es) l h =
    rising-cons bar' follow e es (go (order_cases bar false e (rising_head bar false e es h))) (rising_tail bar false e es h)
  where
    go : Current bar e ⊎ Previous bar false e → may_stand bar' follow e ≡ true
    go (inl c) = current_in bar' follow e (record { kind = c.kind; low = omega (arith, c.low) })
    go (inr c) = let z : false ≡ true = c.may in cc

-- in order, from above j on: nothing is below j, everything above it
pub above-all : (j bar : ℕ) (follow : Bool) (es : List Entry) → j + 1 < bar → rising bar follow es ≡ true → above j es ≡ es
unfolding above
above-all j bar follow [] l h = refl
above-all j bar follow (e ∷ es) l h =
    go (order_cases bar follow e (rising_head bar follow e es h))
    (λ b. above-all j (e.junction + 1) (eqb e.kind 0) es b (rising_tail bar follow e es h))
  where
    more : j < e.junction → (j + 1 < e.junction + 1 → above j es ≡ es) → above j (e ∷ es) ≡ e ∷ es
    more b r = above_yes j e es b ∙ ap (λ (t : List Entry). e ∷ t) (r (omega arith))

    go : Current bar e ⊎ Previous bar follow e → (j + 1 < e.junction + 1 → above j es ≡ es) → above j (e ∷ es) ≡ e ∷ es
    go (inl c) r = more (omega (arith, c.low)) r
    go (inr c) r = more (omega (arith, c.same)) r

pub below_none : (j bar : ℕ) (follow : Bool) (es : List Entry) → j < bar → rising bar follow es ≡ true → below j es ≡ []
unfolding below
below_none j bar follow [] l h = refl
below_none j bar follow (e ∷ es) l h =
    go (order_cases bar follow e (rising_head bar follow e es h))
    (λ b. below_none j (e.junction + 1) (eqb e.kind 0) es b (rising_tail bar follow e es h))
  where
    more : j ≤ e.junction → (j < e.junction + 1 → below j es ≡ []) → below j (e ∷ es) ≡ []
    more b r = below_no j e es b ∙ r (omega arith)

    go : Current bar e ⊎ Previous bar follow e → (j < e.junction + 1 → below j es ≡ []) → below j (e ∷ es) ≡ []
    go (inl c) r = more (omega (arith, c.low)) r
    go (inr c) r = more (omega (arith, c.same)) r

-- the part above j is in order by itself
above_order : (j bar : ℕ) (follow : Bool) (es : List Entry) → bar ≤ j + 1 → rising bar follow es ≡ true
    → rising (j + 1) false (above j es) ≡ true
unfolding above rising
above_order j bar follow [] l h = refl
above_order j bar follow (e ∷ es) l h =
    go (dec_lt j e.junction) (λ b. above_order j (e.junction + 1) (eqb e.kind 0) es b (rising_tail bar follow e es h))
  where
    first : j < e.junction → Current bar e ⊎ Previous bar follow e → may_stand (j + 1) false e ≡ true
    first b (inl c) = current_in (j + 1) false e (record { kind = c.kind; low = omega arith })
    first b (inr c) = let z : ⊥ = omega (arith, c.same) in absurd z

    go : Dec (j < e.junction) → (e.junction + 1 ≤ j + 1 → rising (j + 1) false (above j es) ≡ true)
        → rising (j + 1) false (above j (e ∷ es)) ≡ true
    go (yes b) r =
        let t : rising (e.junction + 1) (eqb e.kind 0) es ≡ true = rising_tail bar follow e es h in
        ap (rising (j + 1) false) (above_yes j e es b)
        ∙ rising-cons (j + 1) false e (above j es) (first b (order_cases bar follow e (rising_head bar follow e es h)))
        (rest b t (dec_lt (j + 1) (e.junction + 1)))
      where
        rest : j < e.junction → rising (e.junction + 1) (eqb e.kind 0) es ≡ true → Dec (j + 1 < e.junction + 1)
            → rising (e.junction + 1) (eqb e.kind 0) (above j es) ≡ true
        rest b t (yes q) = ap (rising (e.junction + 1) (eqb e.kind 0)) (above-all j (e.junction + 1) (eqb e.kind 0) es q t) ∙ t
        rest b t (no q) = let z : ⊥ = omega arith in absurd z
    go (no b) r = ap (rising (j + 1) false) (above_no j e es (omega arith)) ∙ r (omega arith)

-- what comes before may be put in front
below_join : (j bar : ℕ) (follow : Bool) (es zs : List Entry) → bar ≤ j → rising bar follow es ≡ true → rising j false zs ≡ true
    → rising bar follow (below j es ++ zs) ≡ true
unfolding below
below_join j bar follow [] zs l h z = loosen j bar follow zs l z
below_join j bar follow (e ∷ es) zs l h z =
    go (dec_lt e.junction j) (λ b. below_join j (e.junction + 1) (eqb e.kind 0) es zs b (rising_tail bar follow e es h) z)
  where
    go : Dec (e.junction < j) → (e.junction + 1 ≤ j → rising (e.junction + 1) (eqb e.kind 0) (below j es ++ zs) ≡ true)
        → rising bar follow (below j (e ∷ es) ++ zs) ≡ true
    go (yes b) r =
        ap (λ (t : List Entry). rising bar follow (t ++ zs)) (below_yes j e es b)
        ∙ rising-cons bar follow e (below j es ++ zs) (rising_head bar follow e es h) (r (omega arith))
    go (no b) r =
        let t : rising (e.junction + 1) (eqb e.kind 0) es ≡ true = rising_tail bar follow e es h in
        let q : below j (e ∷ es) ≡ [] = below_no j e es (omega arith)
        ∙ below_none j (e.junction + 1) (eqb e.kind 0) es (omega arith) t in
        ap (λ (t : List Entry). rising bar follow (t ++ zs)) q ∙ loosen j bar follow zs l z

-- a pair of j in front of what is above j
pair_order : (j : ℕ) (cp : List ℕ) (p : Option (List ℕ)) (zs : List Entry) → rising (j + 1) false zs ≡ true
    → rising j false (pair j (some cp) p ++ zs) ≡ true
unfolding entry
pair_order j cp none zs h =
    rising-cons j false (record { junction = j; kind = 0; cp = cp }) zs
    (current_in j false _ (record { kind = refl; low = omega arith })) (loosen (j + 1) (j + 1) true zs (omega arith) h)
pair_order j cp (some old) zs h =
    rising-cons j false (record { junction = j; kind = 0; cp = cp }) (record { junction = j; kind = 1; cp = old } ∷ zs)
    (current_in j false _ (record { kind = refl; low = omega arith }))
    (rising-cons (j + 1) true (record { junction = j; kind = 1; cp = old }) zs
    (previous_in (j + 1) true _ (record { kind = refl; may = refl; same = refl })) (loosen (j + 1) (j + 1) false zs (omega arith) h))

pub replace_order : (j : ℕ) (cp : List ℕ) (p : Option (List ℕ)) (es : List Entry) → rising 0 false es ≡ true
    → rising 0 false (replace j (pair j (some cp) p) es) ≡ true
unfolding replace
replace_order j cp p es h =
    below_join j 0 false es (pair j (some cp) p ++ above j es) (omega arith) h
    (pair_order j cp p (above j es) (above_order j 0 false es (omega arith) h))
