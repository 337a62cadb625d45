-- What a look-up finds after a put or a going back; and after any list of them. Assumes nothing.
use mathlib.Core.Path.{◌≡◌, refl, sym, ap, ap₂, ◌∙◌}
use mathlib.Core.Bool.{Bool, true, false, ◌&&◌, cond}
use mathlib.Core.List.{List, [], ◌∷◌, ◌++◌}
use mathlib.Core.Option.{Option, none, some}
use Prim.Native.Nat.{ℕ, ◌+◌, ◌<◌, ◌≤◌}
use native.Mathlib.Decide.{dec_lt}
use native.Mathlib.Omega.{arith}
use lib.Dec.{eqb, ltb}
use borrow.Author.Tests.{lt-ltb, le-ltb, eq-eqb, ne_eqb}
use Rattle.standard.specs.Settings.{Entry, entries_for, find, below, above, entry, replace, put, back}

abbrev pub Cp : Type 0
Cp = Option (List ℕ)

-- the entries of a junction that shows these two
abbrev pub pair : ℕ → Cp → Cp → List Entry
pair j x y = entries_for j (record { current = x; previous = y })

-- the first of two
abbrev pub first : Cp → Cp → Cp
first none y = y
first (some x) y = some x

pub first-none : (x : Cp) → first x none ≡ x
first-none none = refl
first-none (some x) = refl

pub find-cons : (k j : ℕ) (e : Entry) (es : List Entry)
    → find k j (e ∷ es) ≡ cond (eqb e.junction j && eqb e.kind k) (some e.cp) (find k j es)
unfolding find
find-cons k j e es = refl

first_cond : (b : Bool) (x : Cp) (y z : Cp) (cp : List ℕ) → x ≡ first y z → cond b (some cp) x ≡ first (cond b (some cp) y) z
first_cond true x y z cp e = refl
first_cond false x y z cp e = e

find-append : (k j : ℕ) (xs ys : List Entry) → find k j (xs ++ ys) ≡ first (find k j xs) (find k j ys)
unfolding find
find-append k j [] ys = refl
find-append k j (e ∷ xs) ys =
    first_cond (eqb e.junction j && eqb e.kind k) (find k j (xs ++ ys)) (find k j xs) (find k j ys) e.cp (find-append k j xs ys)

-- an entry of another junction is passed over
and-false : (a b : Bool) → a ≡ false → (a && b) ≡ false
and-false a b e = rw e refl

pub find_other : (k j : ℕ) (e : Entry) (es : List Entry) → (e.junction ≡ j → ⊥) → find k j (e ∷ es) ≡ find k j es
find_other k j e es h =
    find-cons k j e es
    ∙ ap (λ (b : Bool). cond b (some e.cp) (find k j es)) (and-false (eqb e.junction j) (eqb e.kind k) (ne_eqb e.junction j h))

find-same_head : (k j : ℕ) (e : Entry) (xs ys : List Entry) → find k j xs ≡ find k j ys → find k j (e ∷ xs) ≡ find k j (e ∷ ys)
find-same_head k j e xs ys q =
    find-cons k j e xs ∙ ap (cond (eqb e.junction j && eqb e.kind k) (some e.cp)) q ∙ sym (find-cons k j e ys)

-- a test on the junction, for both parts at once
pub below-cons : (j : ℕ) (e : Entry) (es : List Entry) → below j (e ∷ es) ≡ cond (ltb e.junction j) (e ∷ below j es) (below j es)
unfolding below
below-cons j e es = refl

above-cons : (j : ℕ) (e : Entry) (es : List Entry) → above j (e ∷ es) ≡ cond (ltb j e.junction) (e ∷ above j es) (above j es)
unfolding above
above-cons j e es = refl

pub below_yes : (j : ℕ) (e : Entry) (es : List Entry) → e.junction < j → below j (e ∷ es) ≡ e ∷ below j es
below_yes j e es h = below-cons j e es ∙ ap (λ (b : Bool). cond b (e ∷ below j es) (below j es)) (lt-ltb e.junction j h)

pub below_no : (j : ℕ) (e : Entry) (es : List Entry) → j ≤ e.junction → below j (e ∷ es) ≡ below j es
below_no j e es h = below-cons j e es ∙ ap (λ (b : Bool). cond b (e ∷ below j es) (below j es)) (le-ltb e.junction j h)

pub above_yes : (j : ℕ) (e : Entry) (es : List Entry) → j < e.junction → above j (e ∷ es) ≡ e ∷ above j es
above_yes j e es h = above-cons j e es ∙ ap (λ (b : Bool). cond b (e ∷ above j es) (above j es)) (lt-ltb j e.junction h)

pub above_no : (j : ℕ) (e : Entry) (es : List Entry) → e.junction ≤ j → above j (e ∷ es) ≡ above j es
above_no j e es h = above-cons j e es ∙ ap (λ (b : Bool). cond b (e ∷ above j es) (above j es)) (le-ltb j e.junction h)

-- what is found in the part below: all that is below, and nothing else
find-below : (k i j : ℕ) (es : List Entry) → i < j → find k i (below j es) ≡ find k i es
unfolding below
find-below k i j [] h = refl
find-below k i j (e ∷ es) h = go (find-below k i j es h) (dec_lt e.junction j)
  where
    go : find k i (below j es) ≡ find k i es → Dec (e.junction < j) → find k i (below j (e ∷ es)) ≡ find k i (e ∷ es)
    go rest (yes l) = ap (find k i) (below_yes j e es l) ∙ find-same_head k i e (below j es) es rest
    go rest (no l) = ap (find k i) (below_no j e es (omega arith)) ∙ rest ∙ sym (find_other k i e es (λ q. omega arith))

find-above : (k i j : ℕ) (es : List Entry) → j < i → find k i (above j es) ≡ find k i es
unfolding above
find-above k i j [] h = refl
find-above k i j (e ∷ es) h = go (find-above k i j es h) (dec_lt j e.junction)
  where
    go : find k i (above j es) ≡ find k i es → Dec (j < e.junction) → find k i (above j (e ∷ es)) ≡ find k i (e ∷ es)
    go rest (yes l) = ap (find k i) (above_yes j e es l) ∙ find-same_head k i e (above j es) es rest
    go rest (no l) = ap (find k i) (above_no j e es (omega arith)) ∙ rest ∙ sym (find_other k i e es (λ q. omega arith))

none_below : (k i j : ℕ) (es : List Entry) → j ≤ i → find k i (below j es) ≡ none
unfolding below find
none_below k i j [] h = refl
none_below k i j (e ∷ es) h = go (none_below k i j es h) (dec_lt e.junction j)
  where
    go : find k i (below j es) ≡ none → Dec (e.junction < j) → find k i (below j (e ∷ es)) ≡ none
    go rest (yes l) = ap (find k i) (below_yes j e es l) ∙ find_other k i e (below j es) (λ q. omega arith) ∙ rest
    go rest (no l) = ap (find k i) (below_no j e es (omega arith)) ∙ rest

none_above : (k i j : ℕ) (es : List Entry) → i ≤ j → find k i (above j es) ≡ none
unfolding above find
none_above k i j [] h = refl
none_above k i j (e ∷ es) h = go (none_above k i j es h) (dec_lt j e.junction)
  where
    go : find k i (above j es) ≡ none → Dec (j < e.junction) → find k i (above j (e ∷ es)) ≡ none
    go rest (yes l) = ap (find k i) (above_yes j e es l) ∙ find_other k i e (above j es) (λ q. omega arith) ∙ rest
    go rest (no l) = ap (find k i) (above_no j e es (omega arith)) ∙ rest

-- ---- the entries of junction j made anew
find_three : (k i j : ℕ) (new es : List Entry)
    → find k i (replace j new es) ≡ first (find k i (below j es)) (first (find k i new) (find k i (above j es)))
unfolding replace
find_three k i j new es =
    find-append k i (below j es) (new ++ above j es) ∙ ap (first (find k i (below j es))) (find-append k i new (above j es))

find_new : (k j : ℕ) (new es : List Entry) → find k j (replace j new es) ≡ find k j new
find_new k j new es =
    find_three k j j new es
    ∙ ap₂ (λ (x y : Cp). first x (first (find k j new) y)) (none_below k j j es (omega arith)) (none_above k j j es (omega arith))
    ∙ first-none (find k j new)

find-kept : (k i j : ℕ) (new es : List Entry) → (i ≡ j → ⊥) → find k i new ≡ none → find k i (replace j new es) ≡ find k i es
find-kept k i j new es h q = find_three k i j new es ∙ go (dec_lt i j)
  where
    go : Dec (i < j) → first (find k i (below j es)) (first (find k i new) (find k i (above j es))) ≡ find k i es
    go (yes l) =
        ap₂ (λ (x y : Cp). first (find k i (below j es)) (first x y)) q (none_above k i j es (omega arith))
        ∙ first-none (find k i (below j es)) ∙ find-below k i j es l
    go (no l) =
        let g : j < i = omega arith in
        ap₂ (λ (x y : Cp). first x (first y (find k i (above j es)))) (none_below k i j es (omega arith)) q ∙ find-above k i j es g

-- the pair of a junction
entry_found : (k j : ℕ) (x : Cp) → find k j (entry k j x) ≡ x
unfolding entry find
entry_found k j none = refl
entry_found k j (some cp) = ap₂ (λ (a b : Bool). cond (a && b) (some cp) none) (eq-eqb j j refl) (eq-eqb k k refl)

entry_other_kind : (k l j : ℕ) (x : Cp) → (l ≡ k → ⊥) → find k j (entry l j x) ≡ none
unfolding entry find
entry_other_kind k l j none h = refl
entry_other_kind k l j (some cp) h = ap₂ (λ (a b : Bool). cond (a && b) (some cp) none) (eq-eqb j j refl) (ne_eqb l k h)

entry_other : (k l i j : ℕ) (x : Cp) → (i ≡ j → ⊥) → find k i (entry l j x) ≡ none
unfolding entry find
entry_other k l i j none h = refl
entry_other k l i j (some cp) h = find_other k i (record { junction = j; kind = l; cp = cp }) [] (λ q. h (sym q))

pair_current : (j : ℕ) (x y : Cp) → find 0 j (pair j x y) ≡ x
pair_current j x y =
    find-append 0 j (entry 0 j x) (entry 1 j y) ∙ ap₂ first (entry_found 0 j x) (entry_other_kind 0 1 j y (λ q. omega arith)) ∙ first-none x

pair_previous : (j : ℕ) (x y : Cp) → find 1 j (pair j x y) ≡ y
pair_previous j x y =
    find-append 1 j (entry 0 j x) (entry 1 j y) ∙ ap₂ first (entry_other_kind 1 0 j x (λ q. omega arith)) (entry_found 1 j y)

pair_other : (k i j : ℕ) (x y : Cp) → (i ≡ j → ⊥) → find k i (pair j x y) ≡ none
pair_other k i j x y h =
    find-append k i (entry 0 j x) (entry 1 j y) ∙ ap₂ first (entry_other k 0 i j x h) (entry_other k 1 i j y h)

-- ---- the promise
pub put-current : (j : ℕ) (cp : List ℕ) (es : List Entry) → find 0 j (put j cp es) ≡ some cp
unfolding put
put-current j cp es = find_new 0 j (pair j (some cp) (find 0 j es)) es ∙ pair_current j (some cp) (find 0 j es)

pub put-previous : (j : ℕ) (cp : List ℕ) (es : List Entry) → find 1 j (put j cp es) ≡ find 0 j es
unfolding put
put-previous j cp es = find_new 1 j (pair j (some cp) (find 0 j es)) es ∙ pair_previous j (some cp) (find 0 j es)

pub put_other : (k i j : ℕ) (cp : List ℕ) (es : List Entry) → (i ≡ j → ⊥) → find k i (put j cp es) ≡ find k i es
unfolding put
put_other k i j cp es h = find-kept k i j (pair j (some cp) (find 0 j es)) es h (pair_other k i j (some cp) (find 0 j es) h)

pub back-current : (j : ℕ) (es : List Entry) → find 0 j (back j es) ≡ find 1 j es
unfolding back
back-current j es = find_new 0 j (pair j (find 1 j es) (find 0 j es)) es ∙ pair_current j (find 1 j es) (find 0 j es)

pub back-previous : (j : ℕ) (es : List Entry) → find 1 j (back j es) ≡ find 0 j es
unfolding back
back-previous j es = find_new 1 j (pair j (find 1 j es) (find 0 j es)) es ∙ pair_previous j (find 1 j es) (find 0 j es)

pub back_other : (k i j : ℕ) (es : List Entry) → (i ≡ j → ⊥) → find k i (back j es) ≡ find k i es
unfolding back
back_other k i j es h = find-kept k i j (pair j (find 1 j es) (find 0 j es)) es h (pair_other k i j (find 1 j es) (find 0 j es) h)
