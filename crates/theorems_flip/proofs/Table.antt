-- One sign flipped in a run of good frames: what changes, for each K and interval, by one computed table. Assumes nothing.
use mathlib.Core.Path.{◌≡◌, refl, ap₂}
use Prim.Native.Nat.{ℕ, ◌+◌, ◌-◌, ◌*◌, ◌/◌, ◌≤◌, ◌<◌}
use mathlib.Core.Bool.{Bool, true, false, cond, ◌&&◌, ◌||◌, beq}
use mathlib.Core.List.{List, [], ◌∷◌}
use native.Mathlib.Nat.{div-lt_iff_lt-mul}
use native.Mathlib.Omega.{arith}
use borrow.Author.Tests.{ne_eqb}
use lib.Dec.{T, eqb, eqb→eq}
use lib.ListN.{length, replicate}
use Rattle.standard.specs.Lists.{list_from, list_where, last_or, joined, each, after}
use Rattle.standard.specs.Bits.{◌⊕◌}
use Rattle.standard.specs.Scrambler.{taps, push, push_all, descramble}
use Rattle.standard.specs.Signs.{sign_bits}
use Rattle.standard.specs.Flip.{next_sign, reaches, changes, changed_places, frames_after}
use Rattle.standard.proofs.Lists.{every, every_at, and_left, and_right, beq→eq}
use Rattle.theorems_flip.specs.Flip.{cost, FewFrames}
use Rattle.theorems_flip.proofs.Frames.{Errors, bit_errors, next_errors, no_sign, none}

-- of the frame with the sign, and of those after it to which it comes
abbrev pub sign_errors : ℕ → ℕ → List (ℕ → Bool)
sign_errors k i = (λ j. eqb j i) ∷ replicate (frames_after k i) no_sign

abbrev pub errors_in : ℕ → ℕ → List Bool
errors_in k i = joined (each (bit_errors k) (next_errors k) none (sign_errors k i))

abbrev pub errors_left : ℕ → ℕ → Errors
errors_left k i = after (next_errors k) none (sign_errors k i)

-- as many places as those frames have bits
abbrev pub expected : ℕ → ℕ → List Bool
expected k i = list_from (changes k i) 0 ((frames_after k i + 1) * (k + 6))

abbrev same_bits : List Bool → List Bool → Bool
same_bits [] [] = true
same_bits [] (y ∷ ys) = false
same_bits (x ∷ xs) [] = false
same_bits (x ∷ xs) (y ∷ ys) = beq x y && same_bits xs ys

same→eq : (xs ys : List Bool) → T (same_bits xs ys) → xs ≡ ys
same→eq [] [] t = refl
same→eq [] (y ∷ ys) t = absurd t
same→eq (x ∷ xs) [] t = absurd t
same→eq (x ∷ xs) (y ∷ ys) t =
    ap₂ ◌∷◌ (beq→eq x y (and_left (beq x y) (same_bits xs ys) t)) (same→eq xs ys (and_right (beq x y) (same_bits xs ys) t))

-- ---- the table

abbrev left_none : ℕ → ℕ → Bool
left_none k i = eqb (errors_left k i).history 0 && beq (errors_left k i).sign false

abbrev counted : ℕ → ℕ → Bool
counted k i = eqb (length (changed_places k i)) (cost k i) && eqb (last_or 0 (changed_places k i)) (next_sign k i + 23)

abbrev row : ℕ → ℕ → Bool
row k i = same_bits (errors_in k i) (expected k i) && (left_none k i && counted k i)

-- K from 15 to 42, and each interval
table : T (every (λ n. every (row (15 + n)) 6) 28)
unfolding list_from list_where last_or joined each after taps push push_all descramble sign_bits changes changed_places frames_after
table = tt

module _ (k i : ℕ) (lo : 15 ≤ k) (hi : k ≤ 42) (h : i < 6) where
  at_row : T (row k i)
  at_row =
      let e : 15 + (k - 15) ≡ k = omega arith in
      rw e at (every_at (row (15 + (k - 15))) 6 (every_at (λ n. every (row (15 + n)) 6) 28 table (k - 15) (omega arith)) i h)

  at_left : T (left_none k i)
  at_left = and_left (left_none k i) _ (and_right (same_bits (errors_in k i) (expected k i)) _ at_row)

  -- the bits that change
  pub errors_are : errors_in k i ≡ expected k i
  errors_are = same→eq (errors_in k i) (expected k i) (and_left (same_bits (errors_in k i) (expected k i)) _ at_row)

  -- after them nothing is the other way
  pub none_left : errors_left k i ≡ none
  none_left =
      ap₂ (λ (n : ℕ) (b : Bool). record { history = n; sign = b })
      (eqb→eq (errors_left k i).history 0 (and_left (eqb (errors_left k i).history 0) _ at_left))
      (beq→eq (errors_left k i).sign false (and_right (eqb (errors_left k i).history 0) _ at_left))

  at_counted : T (counted k i)
  at_counted = and_right (left_none k i) _ (and_right (same_bits (errors_in k i) (expected k i)) _ at_row)

  -- 'Exactly six', or four
  pub places-many : length (changed_places k i) ≡ cost k i
  places-many = eqb→eq (length (changed_places k i)) (cost k i) (and_left (eqb (length (changed_places k i)) (cost k i)) _ at_counted)

  last_place : last_or 0 (changed_places k i) ≡ next_sign k i + 23
  last_place =
      eqb→eq (last_or 0 (changed_places k i)) (next_sign k i + 23) (and_right (eqb (length (changed_places k i)) (cost k i)) _ at_counted)

-- ---- how far they come

next_le : (k i : ℕ) → 15 ≤ k → i < 6 → next_sign k i + 23 < 3 * (k + 6)
next_le k i lo h = go (eqb i 5)
  where
    go : (b : Bool) → cond b (k + 6) (i + 1) + 23 < 3 * (k + 6)
    go true = omega arith
    go false = omega arith

own-le : (k i : ℕ) → i < 6 → i ≤ next_sign k i
own-le k i h = go (eqb i 5)
  where
    go : (b : Bool) → i ≤ cond b (k + 6) (i + 1)
    go true = omega arith
    go false = omega arith

pub few-frames : FewFrames
unfolding frames_after
few-frames k i lo hi h =
    let p : 0 < k + 6 = omega arith in
    let q : (next_sign k i + 23) / (k + 6) < 3 = (div-lt_iff_lt-mul p).1 (next_le k i lo h) in
    rw (last_place k i lo hi h) (omega arith)

-- within the frames that are looked at
pub all-within : (k i : ℕ) → 15 ≤ k → k ≤ 42 → i < 6 → next_sign k i + 24 ≤ (frames_after k i + 1) * (k + 6)
unfolding frames_after
all-within k i lo hi h =
    let p : 0 < k + 6 = omega arith in
    let q : (next_sign k i + 23) / (k + 6) < (next_sign k i + 23) / (k + 6) + 1 = omega arith in
    let z : next_sign k i + 23 < ((next_sign k i + 23) / (k + 6) + 1) * (k + 6) = (div-lt_iff_lt-mul p).0 q in
    rw (last_place k i lo hi h) (omega arith)

-- none is later
pub late_none : (k i p : ℕ) → i < 6 → next_sign k i + 24 ≤ p → changes k i p ≡ false
unfolding changes
late_none k i p h l =
    ap₂ ◌⊕◌ (unreached i (omega (arith, own-le k i h))) (unreached (next_sign k i) l)
  where
    unreached : (a : ℕ) → a + 24 ≤ p → reaches a p ≡ false
    unreached a q =
        ap₂ ◌||◌ (ne_eqb p a (λ z. omega arith)) (ap₂ ◌||◌ (ne_eqb p (a + 18) (λ z. omega arith)) (ne_eqb p (a + 23) (λ z. omega arith)))
