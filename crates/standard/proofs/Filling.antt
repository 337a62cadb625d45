-- A buffer that is filled from the front, a place or a part a turn. Assumes nothing.
use mathlib.Core.Path.{◌≡◌, refl, sym, ap, ap₂, ◌∙◌}
use mathlib.Core.Logic.{◌⊎◌, inl, inr}
use Prim.Native.Nat.{ℕ, suc, ◌+◌, ◌-◌, ◌≤◌, ◌<◌}
use mathlib.Core.List.{List, [], ◌∷◌, ◌++◌, append_assoc}
use native.Mathlib.Nat.{not-suc-le-zero, eq-or-lt_of_le}
use native.Mathlib.Numerals.{add-one}
use native.Mathlib.Omega.{arith}
use borrow.Rule.Slice.PartMut.{put_mid}
use lib.ListN.{length, get_or, set, take, drop, length-set, length-drop}
use lib.Seq.{get_or-set_same, get_or-set_other, drop-cons, set_at, length-take-le, take_at, drop_at, drop-drop}
use Rattle.standard.specs.Lists.{list_from}
use Rattle.standard.specs.Calls.{over}
use Rattle.standard.proofs.Lists.{length-list_from, list_from_is, list_from_snoc}

-- one place more
pub one_more : {X : Type 0} (d : X) (f : ℕ → X) (xs : List X) (i : ℕ) (v : X) → i < length xs → v ≡ f i
    → ((k : ℕ) → k < i → get_or xs k d ≡ f k)
    → (k : ℕ) → k < i + 1 → get_or (set xs i v) k d ≡ f k
one_more d f xs i v h e done k l = go (eq-or-lt_of_le (omega arith))
  where
    go : (k ≡ i) ⊎ (k < i) → get_or (set xs i v) k d ≡ f k
    go (inl q) = rw q (get_or-set_same xs i v d h ∙ e)
    go (inr q) = get_or-set_other xs i k v d (λ (z : k ≡ i). omega arith) ∙ done k q

-- the first i of n numbers are as f says
pub record Filled (f : ℕ → ℕ) (n : ℕ) (xs : List ℕ) (i : ℕ) : Type 0 where
  pub long : length xs ≡ n
  pub done : (k : ℕ) → k < i → get_or xs k 0 ≡ f k

pub filled_none : (f : ℕ → ℕ) (n : ℕ) (xs : List ℕ) → length xs ≡ n → Filled f n xs 0
filled_none f n xs e = record { long = e; done = λ k l. absurd (not-suc-le-zero l) }

pub filled_more : {f : ℕ → ℕ} {n i : ℕ} {xs : List ℕ} (v : ℕ) → Filled f n xs i → i < n → v ≡ f i → Filled f n (set xs i v) (i + 1)
filled_more {f} {n} {i} {xs} v p h e =
    record { long = length-set xs i v ∙ p.long; done = one_more 0 f xs i v (omega (arith, p.long)) e p.done }

pub filled-all : {f : ℕ → ℕ} {n : ℕ} {xs : List ℕ} → Filled f n xs n → xs ≡ list_from f 0 n
filled-all {f} {n} {xs} p = list_from_is f 0 n xs p.long p.done

-- a lent buffer d that is filled from the front, and whose rest stays
module _ {X : Type 0} (f : ℕ → X) (d : List X) where
  pub listed_none : d ≡ list_from f 0 0 ++ drop 0 d
  unfolding list_from
  listed_none = refl

  pub listed_more : (xs : List X) (n : ℕ) (v : X) → xs ≡ list_from f 0 n ++ drop n d → n < length d → v ≡ f n
      → set xs n v ≡ list_from f 0 (n + 1) ++ drop (n + 1) d
  listed_more xs n v e h q =
      let z : 0 + n ≡ n = omega arith in
      rw (
        e,
        drop-cons d n (f n),
        set_at (list_from f 0 n) (get_or d n (f n)) (drop (suc n) d) v n
            (length-list_from f 0 n),
        q,
        add-one,
        list_from_snoc f 0 n,
        z,
      )
      (sym (append_assoc (list_from f 0 n) (f n ∷ []) (drop (suc n) d)))

  pub listed_all : (xs : List X) (n : ℕ) → xs ≡ list_from f 0 n ++ drop n d → xs ≡ over (list_from f 0 n) d
  listed_all xs n e = e ∙ ap (λ (k : ℕ). list_from f 0 n ++ drop k d) (sym (length-list_from f 0 n))

-- ---- a part of k elements from place n on

pub part_long : {X : Type 0} (xs : List X) (n k : ℕ) → n + k ≤ length xs → length (take (n + k - n) (drop n xs)) ≡ k
part_long xs n k h =
    let e : n + k - n ≡ k = omega arith in
    rw e (length-take-le k (drop n xs) (omega (arith, length-drop n xs)))

-- stored after the front xs
pub front_more : {X : Type 0} (xs ys buffer : List X) (n k : ℕ) → length xs ≡ n → put_mid n (n + k - n) (xs ++ drop n buffer) ys ≡ (xs ++ ys)
    ++ drop (n + k) buffer
front_more {X} xs ys buffer n k e =
    let z : n + k - n ≡ k = omega arith in
    ap₂ (λ (x y : List X). x ++ (ys ++ y)) (take_at xs (drop n buffer) n e)
    (ap₂ (λ (i : ℕ) (y : List X). drop i y) z (drop_at xs (drop n buffer) n e) ∙ drop-drop k n buffer)
    ∙ sym (append_assoc xs ys (drop (n + k) buffer))
