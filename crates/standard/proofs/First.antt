-- Laws of the first test that applies. Assumes nothing.
use mathlib.Core.Path.{◌≡◌, refl, sym, ap, ◌∙◌}
use Prim.Native.Nat.{ℕ, zero, suc, ◌+◌, ◌-◌, ◌≤◌, ◌<◌}
use mathlib.Core.Bool.{Bool, true, false, true≢false, cond, ◌&&◌, ◌||◌}
use mathlib.Core.List.{List, [], ◌∷◌, ◌++◌}
use native.Mathlib.Nat.{not-suc-le-zero, add-zero, add-suc, suc-add, zero-lt-suc}
use native.Mathlib.Numerals.{add-one}
use native.Mathlib.Omega.{arith}
use borrow.Author.Tests.{eqb-false}
use lib.Dec.{T, eqb, ltb, ltb→lt}
use lib.ListN.{length, get_or}
use Rattle.standard.specs.Lists.{list_from}
use Rattle.standard.specs.First.{Answer, bare, valued, Test, valued_test, first}
use Rattle.standard.proofs.Lists.{and_left, and_right, list_from-cons}

pub same_number : {a b : Answer} → a ≡ b → a.number ≡ b.number
same_number e = ap (λ (a : Answer). a.number) e

pub first_hit : {v : ℕ} (n : ℕ) (b : Bool) (ts : List Test) → b ≡ true → valued n v ≡ first (valued_test n v b ∷ ts)
unfolding first
first_hit n b ts e = rw e

pub first_skip : {a : Answer} (t : Test) (ts : List Test) → t.applies ≡ false → a ≡ first ts → a ≡ first (t ∷ ts)
unfolding first
first_skip t ts e r = rw e r

-- no test has the number 0
abbrev pub numbered : List Test → Bool
numbered [] = true
numbered (t ∷ ts) = ltb 0 t.answer.number && numbered ts

-- none of them applies
abbrev pub None : List Test → Type 0
None [] = Unit {0}
None (t ∷ ts) = (t.applies ≡ false) × None ts

-- 'only when its condition holds': 0 is answered where no test applies, and only there
pub first-none : (ts : List Test) → None ts → first ts ≡ bare 0
unfolding first
first-none [] p = refl
first-none (t ∷ ts) p = rw p.0 (first-none ts p.1)

pub none_first : (ts : List Test) → T (numbered ts) → (first ts).number ≡ 0 → None ts
unfolding first
none_first [] p e = tt
none_first (t ∷ ts) p e = go (none_first ts (and_right (ltb 0 t.answer.number) (numbered ts) p)) t.applies refl
  where
    go : ((first ts).number ≡ 0 → None ts) → (b : Bool) → t.applies ≡ b → (t.applies ≡ false) × None ts
    go ih true q = absurd (omega (arith, ltb→lt 0 t.answer.number (and_left (ltb 0 t.answer.number) (numbered ts) p), rw q at e))
    go ih false q = (q, ih (rw q at e))

-- test k of them, counted from 0
pub none-at : (ts : List Test) → None ts → (k : ℕ) → k < length ts → (d : Test) → (get_or ts k d).applies ≡ false
none-at [] p k h d = absurd (not-suc-le-zero h)
none-at (t ∷ ts) p zero h d = p.0
none-at (t ∷ ts) p (suc k) h d = none-at ts p.1 k (omega arith) d

pub none-append : (ts us : List Test) → None ts → None us → None (ts ++ us)
none-append [] us p q = q
none-append (t ∷ ts) us p q = (p.0, none-append ts us p.1 q)

pub none_split : (ts us : List Test) → None (ts ++ us) → None ts × None us
none_split [] us p = (tt, p)
none_split (t ∷ ts) us p = let q = none_split ts us p.1 in ((p.0, q.0), q.1)

pub none-list_from : (f : ℕ → Test) (i n : ℕ) → ((k : ℕ) → k < n → (f (i + k)).applies ≡ false) → None (list_from f i n)
unfolding list_from
none-list_from f i zero h = tt
none-list_from f i (suc n) h = (
  ap (λ (k : ℕ). (f k).applies) (sym (add-zero i)) ∙ h zero (zero-lt-suc n),
  none-list_from f (suc i) n (λ k l. ap (λ (j : ℕ). (f j).applies) (suc-add i k ∙ sym (add-suc i k)) ∙ h (suc k) (omega arith)),
)

-- ---- the tests f 0 to f (n - 1), made one a turn

-- the answer of those from f i on
abbrev pub first_from : (ℕ → Test) → ℕ → ℕ → Answer
first_from f n i = first (list_from f i (n - i))

module _ (f : ℕ → Test) (n : ℕ) where
  module _ (i : ℕ) (h : i < n) where
    turn : list_from f i (n - i) ≡ f i ∷ list_from f (i + 1) (n - (i + 1))
    turn = let e : n - i - 1 ≡ n - (i + 1) = omega arith in list_from-cons f i (n - i) (omega arith) ∙ rw e

    pub turn_hit : (f i).applies ≡ true → first_from f n i ≡ (f i).answer
    unfolding first
    turn_hit e = ap first turn ∙ rw e

    pub turn_past : (f i).applies ≡ false → first_from f n i ≡ first_from f n (i + 1)
    unfolding first
    turn_past e = ap first turn ∙ rw e

  pub turns_over : first_from f n n ≡ bare 0
  unfolding first list_from
  turns_over = let z : n - n ≡ 0 = omega arith in rw z

  turns_past : (i : ℕ) → i ≤ n → ((k : ℕ) → k < i → (f k).applies ≡ false) → first (list_from f 0 n) ≡ first_from f n i
  turns_past zero h p = let e : n - 0 ≡ n = omega arith in rw e
  turns_past (suc i) h p = rw (← add-one i) (turns_past i (omega arith) (λ k l. p k (omega arith)) ∙ turn_past i h (p i (omega arith)))

  -- the lowest that applies answers
  pub first-lowest : (i : ℕ) → i < n → (f i).applies ≡ true → ((k : ℕ) → k < i → (f k).applies ≡ false) → first (list_from f 0 n) ≡ (f i).answer
  first-lowest i h e p = turns_past i (omega arith) p ∙ turn_hit i h e

-- a test of the number n applies
abbrev pub says : ℕ → List Test → Bool
says n [] = false
says n (t ∷ ts) = (eqb t.answer.number n && t.applies) || says n ts

-- only then is n answered
pub first_says : (n : ℕ) (ts : List Test) → 0 < n → says n ts ≡ false → (first ts).number ≡ n → ⊥
unfolding first
first_says n [] h s e = omega arith
first_says n (t ∷ ts) h s e = go (first_says n ts h) t.applies refl (eqb t.answer.number n) refl
  where
    go : (says n ts ≡ false → (first ts).number ≡ n → ⊥) → (b : Bool) → t.applies ≡ b → (c : Bool) → eqb t.answer.number n ≡ c → ⊥
    go ih true q true k = true≢false (rw (q, k) at s)
    go ih true q false k = eqb-false t.answer.number n k (rw q at e)
    go ih false q true k = ih (rw (q, k) at s) (rw q at e)
    go ih false q false k = ih (rw (q, k) at s) (rw q at e)

-- a list of tests of which none applies is passed over
pub first-append : (ts us : List Test) → None ts → first (ts ++ us) ≡ first us
unfolding first
first-append [] us p = refl
first-append (t ∷ ts) us p = rw p.0 (first-append ts us p.1)

-- one that answers a number answers it whatever follows
pub first-left : (ts us : List Test) → 0 < (first ts).number → first (ts ++ us) ≡ first ts
unfolding first
first-left [] us h = absurd (not-suc-le-zero h)
first-left (t ∷ ts) us h = go (first-left ts us) t.applies refl
  where
    go : (0 < (first ts).number → first (ts ++ us) ≡ first ts) → (b : Bool) → t.applies ≡ b
        → cond t.applies t.answer (first (ts ++ us)) ≡ cond t.applies t.answer (first ts)
    go ih true q = rw q
    go ih false q = rw q (ih (rw q at h))
