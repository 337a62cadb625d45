-- In a file in order the entries of a junction stand side by side: numbers say where. Assumes nothing.
use mathlib.Core.Path.{◌≡◌, refl, sym, ap, ap₂, ◌∙◌}
use mathlib.Core.Logic.{◌⊎◌, inl, inr}
use mathlib.Core.Option.{Option, none, some}
use Prim.Native.Nat.{ℕ, zero, suc, ◌+◌, ◌-◌, ◌<◌, ◌≤◌}
use mathlib.Core.Bool.{Bool, true, false, cond, ◌&&◌}
use mathlib.Core.List.{List, [], ◌∷◌, ◌++◌}
use native.Mathlib.Decide.{dec_lt}
use native.Mathlib.Omega.{arith}
use borrow.Author.Tests.{lt-ltb, le-ltb, eq-eqb, ne_eqb}
use lib.Dec.{eqb, ltb}
use lib.ListN.{length, get_or, take, drop}
use lib.Seq.{take_at, drop_at}
use Rattle.standard.specs.Settings.{Entry, entry_at, next_at, entries_at, find, below, above, replace}
use Rattle.theorems_settings.proofs.Shown.{find-cons, find_other, below_yes, below_no, above_yes, above_no}
use Rattle.theorems_settings.specs.Walk.{rising}
use Rattle.theorems_settings.proofs.Order.{Current, Previous, order_cases, rising_head, rising_tail, below_none, above-all}
use Rattle.theorems_settings.proofs.Counting.{none_from, found_here}
use Rattle.entries.specs.declared.Entries.{Entries}
use Rattle.entries.specs.Entries.{place_after, listed}
use Rattle.places.specs.Finding.{cp_number}
use Rattle.rewriting.specs.Rewriting.{rewritten}
use Rattle.entries.proofs.Inside.{entries-append}

-- below and above are the front and the end of a list in order
below-take : (j bar : ℕ) (follow : Bool) (es : List Entry) → rising bar follow es ≡ true → below j es ≡ take (length (below j es)) es
unfolding below
below-take j bar follow [] h = refl
below-take j bar follow (e ∷ es) h =
    go (below-take j (e.junction + 1) (eqb e.kind 0) es (rising_tail bar follow e es h)) (dec_lt e.junction j)
  where
    go : below j es ≡ take (length (below j es)) es → Dec (e.junction < j) → below j (e ∷ es) ≡ take (length (below j (e ∷ es))) (e ∷ es)
    go r (yes l) =
        let q : below j (e ∷ es) ≡ e ∷ below j es = below_yes j e es l in
        q ∙ ap (λ (t : List Entry). e ∷ t) r ∙ ap (λ (t : List Entry). take (length t) (e ∷ es)) (sym q)
    go r (no l) =
        let q : below j (e ∷ es) ≡ [] = below_no j e es (omega arith)
        ∙ below_none j (e.junction + 1) (eqb e.kind 0) es (omega arith) (rising_tail bar follow e es h) in
        q ∙ ap (λ (t : List Entry). take (length t) (e ∷ es)) (sym q)

above-drop : (j bar : ℕ) (follow : Bool) (es : List Entry) → rising bar follow es ≡ true
    → above j es ≡ drop (length (below (j + 1) es)) es
unfolding below above
above-drop j bar follow [] h = refl
above-drop j bar follow (e ∷ es) h =
    go (above-drop j (e.junction + 1) (eqb e.kind 0) es (rising_tail bar follow e es h)) (dec_lt e.junction (j + 1))
  where
    go : above j es ≡ drop (length (below (j + 1) es)) es → Dec (e.junction < j + 1)
        → above j (e ∷ es) ≡ drop (length (below (j + 1) (e ∷ es))) (e ∷ es)
    go r (yes l) = above_no j e es (omega arith) ∙ r ∙ ap (λ (t : List Entry). drop (length t) (e ∷ es)) (sym (below_yes (j + 1) e es l))
    go r (no l) =
        let t : rising (e.junction + 1) (eqb e.kind 0) es ≡ true = rising_tail bar follow e es h in
        let q : below (j + 1) (e ∷ es) ≡ [] = below_no (j + 1) e es (omega arith)
        ∙ below_none (j + 1) (e.junction + 1) (eqb e.kind 0) es (omega arith) t in
        above_yes j e es (omega arith)
        ∙ ap (λ (x : List Entry). e ∷ x) (above-all j (e.junction + 1) (eqb e.kind 0) es (omega arith) t)
        ∙ ap (λ (x : List Entry). drop (length x) (e ∷ es)) (sym q)

abbrev pub no_entry : Entry
no_entry = record { junction = 0; kind = 0; cp = [] }

-- the CP of entry number k behind xs, where ys reach that far
abbrev shown_at : ℕ → ℕ → ℕ → List Entry → Option (List ℕ)
shown_at k a b es = cond (ltb (k + a) b) (some (get_or es (k + a) no_entry).cp) none

ltb_suc : (a b : ℕ) → ltb (suc a) (suc b) ≡ ltb a b
ltb_suc a b = go (dec_lt a b)
  where
    go : Dec (a < b) → ltb (suc a) (suc b) ≡ ltb a b
    go (yes l) = lt-ltb (suc a) (suc b) (omega arith) ∙ sym (lt-ltb a b l)
    go (no l) = le-ltb (suc a) (suc b) (omega arith) ∙ sym (le-ltb a b (omega arith))

shown-suc : (k a b : ℕ) (e : Entry) (es : List Entry) → shown_at k a b es ≡ shown_at k (suc a) (suc b) (e ∷ es)
shown-suc k a b e es =
    let z : k + suc a ≡ suc (k + a) = omega arith in
    sym (ap (λ (m : ℕ). cond (ltb m (suc b)) (some (get_or (e ∷ es) m no_entry).cp) none) z
    ∙ ap (λ (t : Bool). cond t (some (get_or es (k + a) no_entry).cp) none) (ltb_suc (k + a) b))

shown-none : (k a : ℕ) (es : List Entry) → shown_at k a 0 es ≡ none
shown-none k a es = ap (λ (t : Bool). cond t (some (get_or es (k + a) no_entry).cp) none) (le-ltb (k + a) 0 (omega arith))

-- for a kind of which it holds behind the current entry of j it holds everywhere
module _ (k j : ℕ) (behind : (e : Entry) (es : List Entry) → e.junction ≡ j → e.kind ≡ 0 → rising (j + 1) true es ≡ true
    → find k j (e ∷ es) ≡ shown_at k 0 (suc (length (below (j + 1) es))) (e ∷ es)) where
  find_step : (e : Entry) (es : List Entry) (bar : ℕ) (follow : Bool) → bar ≤ j → rising bar follow (e ∷ es) ≡ true
      → (e.junction + 1 ≤ j → find k j es ≡ shown_at k (length (below j es)) (length (below (j + 1) es)) es)
      → Dec (e.junction < j) → Dec (j < e.junction) → Current bar e ⊎ Previous bar follow e
      → find k j (e ∷ es) ≡ shown_at k (length (below j (e ∷ es))) (length (below (j + 1) (e ∷ es))) (e ∷ es)
  find_step e es bar follow l h r (yes a) b o =
      find_other k j e es (λ q. omega arith) ∙ r (omega arith) ∙ shown-suc k (length (below j es)) (length (below (j + 1) es)) e es
      ∙ sym (ap₂ (λ (x y : List Entry). shown_at k (length x) (length y) (e ∷ es)) (below_yes j e es a)
      (below_yes (j + 1) e es (omega arith)))
  find_step e es bar follow l h r (no a) (yes b) o =
      let t : rising (e.junction + 1) (eqb e.kind 0) es ≡ true = rising_tail bar follow e es h in
      let x : below j (e ∷ es) ≡ [] = below_no j e es (omega arith) ∙ below_none j (e.junction + 1) (eqb e.kind 0) es (omega arith) t in
      let y : below (j + 1) (e ∷ es) ≡ [] = below_no (j + 1) e es (omega arith)
      ∙ below_none (j + 1) (e.junction + 1) (eqb e.kind 0) es (omega arith) t in
      find_other k j e es (λ q. omega arith) ∙ none_from k j (e.junction + 1) (eqb e.kind 0) es (omega arith) t
      ∙ sym (ap₂ (λ (x y : List Entry). shown_at k (length x) (length y) (e ∷ es)) x y ∙ shown-none k 0 (e ∷ es))
  find_step e es bar follow l h r (no a) (no b) (inl c) =
      let q : e.junction ≡ j = omega arith in
      let t : rising (j + 1) (eqb e.kind 0) es ≡ true = ap (λ (m : ℕ). rising (m + 1) (eqb e.kind 0) es) (sym q)
      ∙ rising_tail bar follow e es h in
      let t' : rising (j + 1) true es ≡ true = ap (λ (f : Bool). rising (j + 1) f es) (sym (eq-eqb e.kind 0 c.kind)) ∙ t in
      let x : below j (e ∷ es) ≡ [] = below_no j e es (omega arith) ∙ below_none j (j + 1) (eqb e.kind 0) es (omega arith) t in
      behind e es q c.kind t'
      ∙ sym (ap₂ (λ (x y : List Entry). shown_at k (length x) (length y) (e ∷ es)) x (below_yes (j + 1) e es (omega arith)))
  find_step e es bar follow l h r (no a) (no b) (inr c) = let z : ⊥ = omega (arith, c.same) in absurd z

  find-number : (bar : ℕ) (follow : Bool) (es : List Entry) → bar ≤ j → rising bar follow es ≡ true
      → find k j es ≡ shown_at k (length (below j es)) (length (below (j + 1) es)) es
  unfolding find below
  find-number bar follow [] l h = sym (shown-none k 0 [])
  find-number bar follow (e ∷ es) l h =
      find_step e es bar follow l h (λ b. find-number (e.junction + 1) (eqb e.kind 0) es b (rising_tail bar follow e es h))
      (dec_lt e.junction j) (dec_lt j e.junction) (order_cases bar follow e (rising_head bar follow e es h))

behind_current : (j : ℕ) (e : Entry) (es : List Entry) → e.junction ≡ j → e.kind ≡ 0 → rising (j + 1) true es ≡ true
    → find 0 j (e ∷ es) ≡ shown_at 0 0 (suc (length (below (j + 1) es))) (e ∷ es)
behind_current j e es p q t =
    found_here j e es p q ∙ sym (ap (λ (b : Bool). cond b (some e.cp) none) (lt-ltb 0 (suc (length (below (j + 1) es))) (omega arith)))

-- what follows the current entry of j is its previous one, or of a higher junction
next-previous : (j : ℕ) (es : List Entry) → rising (j + 1) true es ≡ true → find 1 j es ≡ shown_at 0 0 (length (below (j + 1) es)) es
unfolding find below
next-previous j [] t = sym (shown-none 0 0 [])
next-previous j (e ∷ es) t = go (order_cases (j + 1) true e (rising_head (j + 1) true e es t)) (rising_tail (j + 1) true e es t)
  where
    go : Current (j + 1) e ⊎ Previous (j + 1) true e → rising (e.junction + 1) (eqb e.kind 0) es ≡ true
        → find 1 j (e ∷ es) ≡ shown_at 0 0 (length (below (j + 1) (e ∷ es))) (e ∷ es)
    go (inl c) r =
        let l : j < e.junction = omega (arith, c.low) in
        let y : below (j + 1) (e ∷ es) ≡ [] = below_no (j + 1) e es (omega arith)
        ∙ below_none (j + 1) (e.junction + 1) (eqb e.kind 0) es (omega arith) r in
        find_other 1 j e es (λ q. omega arith) ∙ none_from 1 j (e.junction + 1) (eqb e.kind 0) es (omega arith) r
        ∙ sym (ap (λ (y : List Entry). shown_at 0 0 (length y) (e ∷ es)) y ∙ shown-none 0 0 (e ∷ es))
    go (inr c) r =
        let q : e.junction ≡ j = omega (arith, c.same) in
        find-cons 1 j e es ∙ ap₂ (λ (a b : Bool). cond (a && b) (some e.cp) (find 1 j es)) (eq-eqb e.junction j q)
        (eq-eqb e.kind 1 c.kind)
        ∙ sym (ap (λ (y : List Entry). shown_at 0 0 (length y) (e ∷ es)) (below_yes (j + 1) e es (omega arith))
        ∙ ap (λ (b : Bool). cond b (some e.cp) none) (lt-ltb 0 (suc (length (below (j + 1) es))) (omega arith)))

behind_previous : (j : ℕ) (e : Entry) (es : List Entry) → e.junction ≡ j → e.kind ≡ 0 → rising (j + 1) true es ≡ true
    → find 1 j (e ∷ es) ≡ shown_at 1 0 (suc (length (below (j + 1) es))) (e ∷ es)
behind_previous j e es p q t =
    find-cons 1 j e es ∙ ap₂ (λ (a b : Bool). cond (a && b) (some e.cp) (find 1 j es)) (eq-eqb e.junction j p)
    (ne_eqb e.kind 1 (λ z. omega arith))
    ∙ next-previous j es t ∙ sym (ap (λ (b : Bool). cond b (some (get_or es 0 no_entry).cp) none) (ltb_suc 0 (length (below (j + 1) es))))

find-current : (j : ℕ) (es : List Entry) → rising 0 false es ≡ true
    → find 0 j es ≡ shown_at 0 (length (below j es)) (length (below (j + 1) es)) es
find-current j es h = find-number 0 j (behind_current j) 0 false es (omega arith) h

find-previous : (j : ℕ) (es : List Entry) → rising 0 false es ≡ true
    → find 1 j es ≡ shown_at 1 (length (below j es)) (length (below (j + 1) es)) es
find-previous j es h = find-number 1 j (behind_previous j) 0 false es (omega arith) h

-- ---- entries by their numbers

entry-number : (w : ℕ) (s : List ℕ) (n at i : ℕ) → i < n → get_or (entries_at w s at n) i no_entry ≡ entry_at s (place_after w s i at)
unfolding entries_at place_after
entry-number w s zero at i h = let z : ⊥ = omega arith in absurd z
entry-number w s (suc n) at zero h = refl
entry-number w s (suc n) at (suc i) h = entry-number w s n (next_at w s at) i (omega arith)

count_entries : (w : ℕ) (s : List ℕ) (n at : ℕ) → length (entries_at w s at n) ≡ n
unfolding entries_at
count_entries w s zero at = refl
count_entries w s (suc n) at = ap suc (count_entries w s n (next_at w s at))

module _ (r : Entries) where
  abbrev w : ℕ
  w = r.start

  abbrev s : List ℕ
  s = r.file.now

  abbrev n : ℕ
  n = r.count

  split : (a : ℕ) → a ≤ n → entries_at w s r.from n ≡ entries_at w s r.from a ++ entries_at w s (place_after w s a r.from) (n - a)
  split a h = let e : n ≡ a + (n - a) = omega arith in ap (entries_at w s r.from) e ∙ entries-append w s r.from a (n - a)

  take-entries : (a : ℕ) → a ≤ n → take a (listed r) ≡ entries_at w s r.from a
  take-entries a h =
      ap (take a) (split a h) ∙ take_at (entries_at w s r.from a) (entries_at w s (place_after w s a r.from) (n - a)) a (count_entries w s a r.from)

  drop-entries : (a : ℕ) → a ≤ n → drop a (listed r) ≡ entries_at w s (place_after w s a r.from) (n - a)
  drop-entries a h =
      ap (drop a) (split a h) ∙ drop_at (entries_at w s r.from a) (entries_at w s (place_after w s a r.from) (n - a)) a (count_entries w s a r.from)

  module _ (j k u : ℕ) (h : rising 0 false (listed r) ≡ true) (ek : k ≡ length (below j (listed r)))
      (eu : u ≡ length (below (j + 1) (listed r)))
      (hk : k ≤ n) (hu : u ≤ n) where
    abbrev es : List Entry
    es = listed r

    -- the entries written anew are those the code copies and puts
    pub replace_is : (new : List Entry) → replace j new es ≡ rewritten r k u new
    unfolding replace rewritten
    replace_is new =
        ap₂ (λ (x y : List Entry). x ++ (new ++ y)) (below-take j 0 false es h ∙ ap (λ (m : ℕ). take m es) (sym ek) ∙ take-entries k hk)
        (above-drop j 0 false es h ∙ ap (λ (m : ℕ). drop m es) (sym eu) ∙ drop-entries u hu)

    -- and those of the junction stand by their numbers
    by-number : (i : ℕ) → shown_at i k u es ≡ cond (ltb (k + i) u) (some (cp_number r (k + i))) none
    by-number i =
        let z : i + k ≡ k + i = omega arith in
        ap (λ (m : ℕ). cond (ltb m u) (some (get_or es m no_entry).cp) none) z ∙ by (dec_lt (k + i) u)
      where
        by : Dec (k + i < u)
            → cond (ltb (k + i) u) (some (get_or es (k + i) no_entry).cp) none ≡ cond (ltb (k + i) u) (some (cp_number r (k + i))) none
        by (yes l) = ap (λ (e : Entry). cond (ltb (k + i) u) (some e.cp) none) (entry-number w s n r.from (k + i) (omega arith))
        by (no l) =
            let f : ltb (k + i) u ≡ false = le-ltb (k + i) u (omega arith) in
            ap (λ (b : Bool). cond b (some (get_or es (k + i) no_entry).cp) none) f
            ∙ sym (ap (λ (b : Bool). cond b (some (cp_number r (k + i))) none) f)

    pub current_is : find 0 j es ≡ cond (ltb (k + 0) u) (some (cp_number r (k + 0))) none
    current_is = find-current j es h ∙ ap₂ (λ (a b : ℕ). shown_at 0 a b es) (sym ek) (sym eu) ∙ by-number 0

    pub previous_is : find 1 j es ≡ cond (ltb (k + 1) u) (some (cp_number r (k + 1))) none
    previous_is = find-previous j es h ∙ ap₂ (λ (a b : ℕ). shown_at 1 a b es) (sym ek) (sym eu) ∙ by-number 1
