-- The places at which two lists of bits differ. Assumes nothing.
use mathlib.Core.Path.{◌≡◌, refl, sym, ap, ap₂, ◌∙◌}
use Prim.Native.Nat.{ℕ, zero, suc, ◌+◌, ◌-◌, ◌≤◌, ◌<◌}
use mathlib.Core.Bool.{Bool, true, false, cond}
use mathlib.Core.List.{List, [], ◌∷◌, ◌++◌, map, append_assoc, append-nil}
use native.Mathlib.Decide.{dec_le}
use native.Mathlib.Nat.{add-zero, zero-add, add-suc, suc-add, not-suc-le-zero}
use native.Mathlib.Omega.{arith}
use lib.ListN.{length, get_or, length-append, get_or-append}
use lib.Seq.{get_or-append-add}
use Rattle.standard.specs.Lists.{list_from, list_where}
use Rattle.standard.specs.Bits.{◌⊕◌, nth}
use Rattle.standard.proofs.Lists.{length-list_from, get_d_list}
use Rattle.theorems_flip.specs.Flip.{differing}
use Rattle.theorems_flip.proofs.Linear.{mix, length_mix}

module _ (f : ℕ → Bool) where
  where_append : (i m n : ℕ) → list_where f i (m + n) ≡ list_where f i m ++ list_where f (i + m) n
  unfolding list_where
  where_append i zero n = ap₂ (list_where f) (sym (add-zero i)) (zero-add n)
  where_append i (suc m) n =
      ap (list_where f i) (suc-add m n)
      ∙ ap (λ (xs : List ℕ). cond (f i) (i ∷ []) [] ++ xs)
      (where_append (suc i) m n ∙ ap (λ (j : ℕ). list_where f (suc i) m ++ list_where f j n) (suc-add i m ∙ sym (add-suc i m)))
      ∙ sym (append_assoc (cond (f i) (i ∷ []) []) (list_where f (suc i) m) (list_where f (i + suc m) n))

  where_none : (i n : ℕ) → ((j : ℕ) → i ≤ j → j < i + n → f j ≡ false) → list_where f i n ≡ []
  unfolding list_where
  where_none i zero h = refl
  where_none i (suc n) h = rw (h i (omega arith) (omega arith)) (where_none (suc i) n (λ j a b. h j (omega arith) (omega arith)))

  -- as those of another, b places before
  where_shift : (g : ℕ → Bool) (b i n : ℕ) → ((j : ℕ) → i ≤ j → j < i + n → f (b + j) ≡ g j)
      → list_where f (b + i) n ≡ map (λ p. b + p) (list_where g i n)
  unfolding list_where
  where_shift g b i zero h = refl
  where_shift g b i (suc n) h =
      rw (h i (omega arith) (omega arith))
      (go (g i)
      (ap (λ (j : ℕ). list_where f j n) (sym (add-suc b i)) ∙ where_shift g b (suc i) n (λ j a c. h j (omega arith) (omega arith))))
    where
      go : (v : Bool) → list_where f (suc (b + i)) n ≡ map (λ p. b + p) (list_where g (suc i) n)
          → cond v ((b + i) ∷ []) [] ++ list_where f (suc (b + i)) n ≡ map (λ p. b + p) (cond v (i ∷ []) [] ++ list_where g (suc i) n)
      go true e = ap (λ (xs : List ℕ). (b + i) ∷ xs) e
      go false e = e

xor_same : (a : Bool) → a ⊕ a ≡ false
xor_same true = refl
xor_same false = refl

xor-back : (a e : Bool) → a ⊕ (a ⊕ e) ≡ e
xor-back true true = refl
xor-back true false = refl
xor-back false e = refl

mix_at : (ss es : List Bool) (j : ℕ) → j < length ss → length ss ≡ length es → nth (mix ss es) j ≡ nth ss j ⊕ nth es j
unfolding nth
mix_at [] es j h n = absurd (not-suc-le-zero h)
mix_at (s ∷ ss) [] j h n = absurd (omega arith)
mix_at (s ∷ ss) (e ∷ es) zero h n = refl
mix_at (s ∷ ss) (e ∷ es) (suc j) h n = mix_at ss es j (omega arith) (omega arith)

-- bits that differ where g holds, between others: g holds nowhere past w
module _ (a c d : List Bool) (g : ℕ → Bool) (w : ℕ) (le : w ≤ length c) (past : (j : ℕ) → w ≤ j → g j ≡ false) where
  abbrev es : List Bool
  es = list_from g 0 (length c)

  abbrev f : ℕ → Bool
  f p = nth (a ++ (c ++ d)) p ⊕ nth (a ++ (mix c es ++ d)) p

  before : (j : ℕ) → j < length a → f j ≡ false
  unfolding nth
  before j h =
      ap₂ ◌⊕◌ (get_or-append a (c ++ d) false j h) (get_or-append a (mix c es ++ d) false j h) ∙ xor_same (get_or a j false)

  inside : (j : ℕ) → j < length c → f (length a + j) ≡ g j
  unfolding nth
  inside j h =
      ap₂ ◌⊕◌ (get_or-append-add a (c ++ d) j false ∙ get_or-append c d false j h)
      (get_or-append-add a (mix c es ++ d) j false ∙ get_or-append (mix c es) d false j (omega (arith, length_mix c es))
      ∙ mix_at c es j h (sym (length-list_from g 0 (length c))))
      ∙ xor-back (get_or c j false) (get_or es j false) ∙ get_d_list g false (length c) j h

  beyond : (j : ℕ) → f (length a + (length c + j)) ≡ false
  unfolding nth
  beyond j =
      let z : length c + j ≡ length (mix c es) + j = omega (arith, length_mix c es) in
      ap₂ ◌⊕◌ (get_or-append-add a (c ++ d) (length c + j) false ∙ get_or-append-add c d j false)
      (get_or-append-add a (mix c es ++ d) (length c + j) false ∙ ap (λ (k : ℕ). get_or (mix c es ++ d) k false) z
      ∙ get_or-append-add (mix c es) d j false)
      ∙ xor_same (get_or d j false)

  later : (j : ℕ) → length a + w ≤ j → f j ≡ false
  later j h = go (dec_le (length a + length c) j)
    where
      go : Dec (length a + length c ≤ j) → f j ≡ false
      go (yes l) = let z : j ≡ length a + (length c + (j - length a - length c)) = omega arith in ap f z ∙ beyond (j - length a - length c)
      go (no l) =
          let z : j ≡ length a + (j - length a) = omega arith in
          ap f z ∙ inside (j - length a) (omega arith) ∙ past (j - length a) (omega arith)

  pub differing-parts : differing (a ++ (c ++ d)) (a ++ (mix c es ++ d)) ≡ map (λ p. length a + p) (list_where g 0 w)
  unfolding differing
  differing-parts =
      let b = length a in
      let m = length c - w + length d in
      let n : length (a ++ (c ++ d)) ≡ b + (w + m) = omega (arith, length-append a (c ++ d), length-append c d) in
      let z : 0 + b ≡ b + 0 = omega arith in
      ap (list_where f 0) n ∙ where_append f 0 b (w + m)
      ∙ ap₂ ◌++◌ (where_none f 0 b (λ j p q. before j (omega arith)))
      (ap (λ (k : ℕ). list_where f k (w + m)) z ∙ where_append f (b + 0) w m
      ∙ ap₂ ◌++◌ (where_shift f g b 0 w (λ j p q. inside j (omega arith))) (where_none f (b + 0 + w) m (λ j p q. later j (omega arith)))
      ∙ append-nil (map (λ p. b + p) (list_where g 0 w)))
