-- A put or a going back keeps every entry's own test, and counts junctions rightly. Assumes nothing.
use mathlib.Core.Path.{◌≡◌, refl, sym, ap, ap₂, ◌∙◌}
use mathlib.Core.Bool.{Bool, true, false, ◌&&◌, cond}
use mathlib.Core.List.{List, [], ◌∷◌, ◌++◌}
use mathlib.Core.Logic.{◌⊎◌, inl, inr}
use mathlib.Core.Option.{Option, none, some}
use Prim.Native.Nat.{ℕ, ◌+◌, ◌<◌, ◌≤◌}
use native.Mathlib.Decide.{dec_lt}
use native.Mathlib.Omega.{arith}
use lib.Dec.{eqb, ltb}
use borrow.Author.Tests.{eq-eqb, ne_eqb}
use Rattle.standard.specs.Settings.{Entry, find, there, below, above, replace, junctions, readable, all_readable}
use Rattle.theorems_settings.specs.Walk.{rising}
use Rattle.theorems_settings.proofs.Logic.{and_left, and_right, both}
use Rattle.theorems_settings.proofs.Shown.{find-cons, find_other, below_yes, below_no, above_yes, above_no}
use Rattle.theorems_settings.proofs.Order.{Current, Previous, order_cases, rising_head, rising_tail, below_none, above-all}

-- ---- tests of single entries
all-readable-append : (xs ys : List Entry) → all_readable xs ≡ true → all_readable ys ≡ true → all_readable (xs ++ ys) ≡ true
unfolding all_readable
all-readable-append [] ys p q = q
all-readable-append (e ∷ xs) ys p q =
    both (readable e.cp) (all_readable (xs ++ ys)) (and_left (readable e.cp) (all_readable xs) p)
    (all-readable-append xs ys (and_right (readable e.cp) _ p) q)

cond_readable : (b : Bool) (e : Entry) (xs : List Entry) → readable e.cp ≡ true → all_readable xs ≡ true
    → all_readable (cond b (e ∷ xs) xs) ≡ true
unfolding all_readable
cond_readable true e xs p q = both _ _ p q
cond_readable false e xs p q = q

all-readable-below : (j : ℕ) (es : List Entry) → all_readable es ≡ true → all_readable (below j es) ≡ true
unfolding below all_readable
all-readable-below j [] p = refl
all-readable-below j (e ∷ es) p =
    cond_readable (ltb e.junction j) e (below j es) (and_left _ (all_readable es) p)
    (all-readable-below j es (and_right (readable e.cp) _ p))

all-readable-above : (j : ℕ) (es : List Entry) → all_readable es ≡ true → all_readable (above j es) ≡ true
unfolding above all_readable
all-readable-above j [] p = refl
all-readable-above j (e ∷ es) p =
    cond_readable (ltb j e.junction) e (above j es) (and_left _ (all_readable es) p)
    (all-readable-above j es (and_right (readable e.cp) _ p))

pub all-readable-replace : (j : ℕ) (new es : List Entry) → all_readable new ≡ true → all_readable es ≡ true
    → all_readable (replace j new es) ≡ true
unfolding replace
all-readable-replace j new es p q =
    all-readable-append (below j es) (new ++ above j es) (all-readable-below j es q)
    (all-readable-append new (above j es) p (all-readable-above j es q))

-- ---- junctions
abbrev one : Bool → ℕ
one b = cond b 1 0

junctions-cons : (e : Entry) (es : List Entry) → junctions (e ∷ es) ≡ one (eqb e.kind 0) + junctions es
unfolding junctions
junctions-cons e es = refl

pub kind-zero : (e : Entry) (es : List Entry) → e.kind ≡ 0 → junctions (e ∷ es) ≡ 1 + junctions es
kind-zero e es h = junctions-cons e es ∙ ap (λ (b : Bool). one b + junctions es) (eq-eqb e.kind 0 h)

pub kind-one : (e : Entry) (es : List Entry) → e.kind ≡ 1 → junctions (e ∷ es) ≡ junctions es
kind-one e es h = junctions-cons e es ∙ ap (λ (b : Bool). one b + junctions es) (ne_eqb e.kind 0 (λ z. omega arith)) ∙ omega arith

-- past the current entry of j
after : (j : ℕ) (follow : Bool) (es : List Entry) → rising (j + 1) follow es ≡ true → junctions es ≡ junctions (above j es)
unfolding above
after j follow [] h = refl
after j follow (e ∷ es) h =
    go (order_cases (j + 1) follow e (rising_head (j + 1) follow e es h))
    (λ q. after j (eqb e.kind 0) es (ap (λ (k : ℕ). rising (k + 1) (eqb e.kind 0) es) (sym q) ∙ rising_tail (j + 1) follow e es h))
  where
    go : Current (j + 1) e ⊎ Previous (j + 1) follow e → (e.junction ≡ j → junctions es ≡ junctions (above j es))
        → junctions (e ∷ es) ≡ junctions (above j (e ∷ es))
    go (inl c) r =
        let l : j < e.junction = omega (arith, c.low) in
        sym (ap junctions (above_yes j e es l
        ∙ ap (λ (t : List Entry). e ∷ t)
        (above-all j (e.junction + 1) (eqb e.kind 0) es (omega arith) (rising_tail (j + 1) follow e es h))))
    go (inr c) r =
        let q : e.junction ≡ j = omega (arith, c.same) in
        kind-one e es c.kind ∙ r q ∙ sym (ap junctions (above_no j e es (omega arith)))

pub none_from : (k j bar : ℕ) (follow : Bool) (es : List Entry) → j + 1 < bar → rising bar follow es ≡ true → find k j es ≡ none
unfolding find
none_from k j bar follow [] l h = refl
none_from k j bar follow (e ∷ es) l h =
    go (order_cases bar follow e (rising_head bar follow e es h))
    (λ b. none_from k j (e.junction + 1) (eqb e.kind 0) es b (rising_tail bar follow e es h))
  where
    go : Current bar e ⊎ Previous bar follow e → (j + 1 < e.junction + 1 → find k j es ≡ none) → find k j (e ∷ es) ≡ none
    go (inl c) r = let l' : j < e.junction = omega (arith, c.low) in find_other k j e es (λ q. omega arith) ∙ r (omega arith)
    go (inr c) r = let l' : j < e.junction = omega (arith, c.same) in find_other k j e es (λ q. omega arith) ∙ r (omega arith)

pub found_here : (j : ℕ) (e : Entry) (es : List Entry) → e.junction ≡ j → e.kind ≡ 0 → find 0 j (e ∷ es) ≡ some e.cp
found_here j e es p q =
    find-cons 0 j e es ∙ ap₂ (λ (a b : Bool). cond (a && b) (some e.cp) (find 0 j es)) (eq-eqb e.junction j p) (eq-eqb e.kind 0 q)

module _ (j : ℕ) (e : Entry) (es : List Entry) where
  by_parts : (x z : List Entry) (y : Option (List ℕ)) → below j (e ∷ es) ≡ x → find 0 j (e ∷ es) ≡ y → above j (e ∷ es) ≡ z
      → junctions (e ∷ es) ≡ junctions x + (one (there y) + junctions z)
      → junctions (e ∷ es) ≡ junctions (below j (e ∷ es)) + (one (there (find 0 j (e ∷ es))) + junctions (above j (e ∷ es)))
  by_parts x z y p q r h =
      h ∙ sym (ap₂ (λ (u v : List Entry). junctions u + (one (there (find 0 j (e ∷ es))) + junctions v)) p r
      ∙ ap (λ (o : Option (List ℕ)). junctions x + (one (there o) + junctions z)) q)

  split_step : (bar : ℕ) (follow : Bool) → bar ≤ j → rising bar follow (e ∷ es) ≡ true
      → (e.junction + 1 ≤ j → junctions es ≡ junctions (below j es) + (one (there (find 0 j es)) + junctions (above j es)))
      → Dec (e.junction < j) → Dec (j < e.junction) → Current bar e ⊎ Previous bar follow e
      → junctions (e ∷ es) ≡ junctions (below j (e ∷ es)) + (one (there (find 0 j (e ∷ es))) + junctions (above j (e ∷ es)))
  unfolding junctions
  split_step bar follow l h r (yes a) b o =
      by_parts (e ∷ below j es) (above j es) (find 0 j es) (below_yes j e es a) (find_other 0 j e es (λ q. omega arith))
      (above_no j e es (omega arith))
      (omega (arith, r (omega arith)))
  split_step bar follow l h r (no a) (yes b) o =
      let t : rising (e.junction + 1) (eqb e.kind 0) es ≡ true = rising_tail bar follow e es h in
      by_parts [] (e ∷ es) none (below_no j e es (omega arith) ∙ below_none j (e.junction + 1) (eqb e.kind 0) es (omega arith) t)
      (find_other 0 j e es (λ q. omega arith) ∙ none_from 0 j (e.junction + 1) (eqb e.kind 0) es (omega arith) t)
      (above_yes j e es b ∙ ap (λ (u : List Entry). e ∷ u) (above-all j (e.junction + 1) (eqb e.kind 0) es (omega arith) t))
      (omega arith)
  split_step bar follow l h r (no a) (no b) (inl c) =
      let q : e.junction ≡ j = omega arith in
      let t : rising (e.junction + 1) (eqb e.kind 0) es ≡ true = rising_tail bar follow e es h in
      let t' : rising (j + 1) (eqb e.kind 0) es ≡ true = ap (λ (k : ℕ). rising (k + 1) (eqb e.kind 0) es) (sym q) ∙ t in
      by_parts [] (above j es) (some e.cp) (below_no j e es (omega arith) ∙ below_none j (j + 1) (eqb e.kind 0) es (omega arith) t')
      (found_here j e es q c.kind) (above_no j e es (omega arith))
      (kind-zero e es c.kind ∙ omega (arith, after j (eqb e.kind 0) es t'))
  split_step bar follow l h r (no a) (no b) (inr c) = let z : ⊥ = omega (arith, c.same) in absurd z

empty : (j : ℕ) → junctions [] ≡ junctions (below j []) + (one (there (find 0 j [])) + junctions (above j []))
unfolding junctions below above find
empty j = refl

-- the junctions are those below, j itself if it is there, and those above
pub junctions_split : (j bar : ℕ) (follow : Bool) (es : List Entry) → bar ≤ j → rising bar follow es ≡ true
    → junctions es ≡ junctions (below j es) + (one (there (find 0 j es)) + junctions (above j es))
junctions_split j bar follow [] l h = empty j
junctions_split j bar follow (e ∷ es) l h =
    split_step j e es bar follow l h (λ b. junctions_split j (e.junction + 1) (eqb e.kind 0) es b (rising_tail bar follow e es h))
    (dec_lt e.junction j) (dec_lt j e.junction) (order_cases bar follow e (rising_head bar follow e es h))
