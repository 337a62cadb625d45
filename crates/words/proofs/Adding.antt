-- A text to which characters are added a few at a time. Assumes nothing.
use mathlib.Core.Path.{◌≡◌, refl, sym, ◌∙◌}
use Prim.Native.Nat.{ℕ, suc, ◌+◌, ◌-◌, ◌≤◌, ◌<◌, min}
use mathlib.Core.Bool.{cond}
use mathlib.Core.List.{List, [], ◌∷◌, ◌++◌}
use native.Mathlib.Decide.{dec_le}
use native.Mathlib.Numerals.{add-one}
use native.Mathlib.Omega.{arith}
use lib.Dec.{ltb}
use lib.ListN.{length, set, take, drop, length-set}
use Rattle.std.proofs.lemmas.List.{take-append-drop, take_more_set, drop-set-lt, append_assoc}
use borrow.Author.Tests.{lt-ltb, le-ltb}
use Rattle.words.specs.Message.{added, place_after, Added}

pub added_none : {s : List ℕ} {at : ℕ} → Added s at [] s at
unfolding added place_after
added_none = record { place = refl; text = refl }

-- where there is no room, nothing is added
pub added_full : {s : List ℕ} {at : ℕ} (xs : List ℕ) → length s ≤ at → Added s at xs s at
unfolding added place_after
added_full [] h = added_none
added_full {s} {at} (c ∷ cs) h = let e = le-ltb at (length s) h in record { place = rw e; text = rw e }

-- a place within the text stays within it
within : (n at : ℕ) (xs : List ℕ) → at ≤ n → place_after n at xs ≤ n
unfolding place_after
within n at [] h = h
within n at (c ∷ cs) h = go (dec_le n at) (within n (suc at) cs)
  where
    go : Dec (n ≤ at) → (suc at ≤ n → place_after n (suc at) cs ≤ n) → cond (ltb at n) (place_after n (suc at) cs) at ≤ n
    go (yes l) ih = rw (le-ltb at n l) h
    go (no l) ih = rw (lt-ltb at n (omega arith)) (ih (omega arith))

-- what comes of an addition from a place within the text
pub added-within : {s : List ℕ} {at : ℕ} {xs t : List ℕ} {end : ℕ} → at ≤ length s → (end ≡ place_after (length s) at xs) × (t ≡ added s at xs)
    → Added s at xs t end × (end ≤ length s)
added-within {s} {at} {xs} h a = (record { place = a.0; text = a.1 }, rw a.0 (within (length s) at xs h))

full-added : {s : List ℕ} {at : ℕ} {xs t : List ℕ} {end : ℕ} → length s ≤ at → Added s at xs t end → (end ≡ at) × (t ≡ s)
full-added {s} {at} {xs} h a = let f = added_full xs h in (a.place ∙ sym f.place, a.text ∙ sym f.text)

-- where there is, the first is put, and then the others
module _ {s : List ℕ} {at : ℕ} {cs t : List ℕ} {end : ℕ} (c : ℕ) (h : at < length s) where
  pub added-first : Added (set s at c) (at + 1) cs t end → Added s at (c ∷ cs) t end
  unfolding added place_after
  added-first a =
      let e = lt-ltb at (length s) h in
      record { place = rw e (rw (length-set, add-one) at a.place); text = rw e (rw add-one at a.text) }

  first-added : Added s at (c ∷ cs) t end → Added (set s at c) (at + 1) cs t end
  unfolding added place_after
  first-added a =
      let e = lt-ltb at (length s) h in
      record { place = rw (length-set, add-one) (rw e at a.place); text = rw add-one (rw e at a.text) }

-- so many of the characters as there is room for, put at once
pub added_slice : (s : List ℕ) (at n : ℕ) (xs : List ℕ) → at ≤ length s → n ≡ min (length xs) (length s - at)
    → Added s at xs (take at s ++ (take n xs ++ drop (at + n) s)) (at + n)
added_slice s at n [] h e =
    let z : n ≡ 0 = omega arith in
    let p : at + 0 ≡ at = omega arith in
    rw (z, p, take-append-drop at s) added_none
added_slice s at n (c ∷ cs) h e = go (dec_le (length s) at) (λ i j. added_slice (set s at c) (at + 1) (n - 1) cs i j)
  where
    go : Dec (length s ≤ at)
        → (at + 1 ≤ length (set s at c) → n - 1 ≡ min (length cs) (length (set s at c) - (at + 1))
        → Added (set s at c) (at + 1) cs (take (at + 1) (set s at c) ++ (take (n - 1) cs ++ drop (at + 1 + (n - 1)) (set s at c))) (at + 1 + (n - 1)))
        → Added s at (c ∷ cs) (take at s ++ (take n (c ∷ cs) ++ drop (at + n) s)) (at + n)
    go (yes l) ih =
        let z : n ≡ 0 = omega arith in
        let p : at + 0 ≡ at = omega arith in
        rw (z, p, take-append-drop at s) (added_full (c ∷ cs) l)
    go (no l) ih =
        let r : at < length s = omega arith in
        let q : n ≡ suc (n - 1) = omega arith in
        let p : at + suc (n - 1) ≡ at + 1 + (n - 1) = omega arith in
        let t = rw (take_more_set s at c r, drop-set-lt (at + 1 + (n - 1)) s at c (omega arith), append_assoc) at ih (rw length-set (omega arith)) (rw length-set (omega arith)) in
        rw (q, p) (added-first c r t)

-- some characters, and then others behind them
pub added-both : {s : List ℕ} {at : ℕ} {xs ys t u : List ℕ} {m end : ℕ} → Added s at xs t m → Added t m ys u end
    → Added s at (xs ++ ys) u end
unfolding added place_after
added-both {xs = []} a b = rw (a.place, a.text) at b
added-both {s} {at} {xs = c ∷ cs} {ys} {t} {u} {m} {end} a b = go (λ p. added-both {s = set s at c} {at = at + 1} {xs = cs} p b) (dec_le (length s) at)
  where
    go : (Added (set s at c) (at + 1) cs t m → Added (set s at c) (at + 1) (cs ++ ys) u end) → Dec (length s ≤ at)
        → Added s at (c ∷ cs ++ ys) u end
    go ih (yes h) =
        let p = full-added h a in
        let q = full-added h (rw (p.0, p.1) at b) in
        rw (q.0, q.1) (added_full (c ∷ cs ++ ys) h)
    go ih (no h) = added-first c (omega arith) (ih (first-added c (omega arith) a))

-- what is left to add: whatever comes of adding ys to text t from place m on comes of adding xs to text s from place `at` on
abbrev pub Left : List ℕ → ℕ → List ℕ → List ℕ → ℕ → List ℕ → Type 0
Left s at xs t m ys = (u : List ℕ) (end : ℕ) → Added t m ys u end → Added s at xs u end
