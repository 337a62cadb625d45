-- Laws of the modulus encoder. Assumes nothing.
use mathlib.Core.Path.{◌≡◌, refl, sym, ap, ◌∙◌, subst}
use mathlib.Core.Logic.{◌⊎◌, inl, inr}
use Prim.Native.Nat.{ℕ, zero, suc, ◌+◌, ◌*◌, ◌/◌, ◌%◌, ◌^◌, ◌≤◌, ◌<◌}
use mathlib.Core.List.{List, [], ◌∷◌}
use native.Mathlib.Nat.{mod-lt, mod-add-div, div-lt_iff_lt-mul, mul_comm, not-suc-le-zero, eq-zero-or-pos, zero-mul, mul-zero, le_trans}
use native.Mathlib.Nat.{le_refl, le_of_eq, add_comm, mul-suc, mul-le-mul_left, add-lt-add_of_lt_of_le, pow-zero, pow-suc}
use native.Mathlib.Omega.{arith}
use lib.ListN.{length, get_or, replicate}
use Rattle.standard.specs.Lists.{list_from}
use Rattle.standard.specs.Modulus.{product, labels, number}

-- the number that the labels of R form is R
pub number-labels : (M : ℕ) (Ms : List ℕ) (R : ℕ) → number (M ∷ Ms) (labels (M ∷ Ms) R) ≡ R
unfolding number labels
number-labels M [] R = omega arith
number-labels M (N ∷ Ms) R = ap (λ (x : ℕ). R % M + M * x) (number-labels N Ms (R / M)) ∙ mod-add-div R M

pub length-labels : (Ms : List ℕ) (R : ℕ) → length (labels Ms R) ≡ length Ms
unfolding labels
length-labels [] R = refl
length-labels (M ∷ []) R = refl
length-labels (M ∷ N ∷ Ms) R = ap suc (length-labels (N ∷ Ms) (R / M))

-- each label is below its interval's size
abbrev pub Within : List ℕ → List ℕ → Type 0
Within [] [] = Unit {0}
Within [] (c ∷ cs) = ⊥
Within (M ∷ Ms) [] = ⊥
Within (M ∷ Ms) (c ∷ cs) = (c < M) × Within Ms cs

pub within-at : (Ms cs : List ℕ) → Within Ms cs → (i : ℕ) → i < length Ms → get_or cs i 0 < get_or Ms i 0
within-at [] cs w i h = absurd (not-suc-le-zero h)
within-at (M ∷ Ms) [] w i h = absurd w
within-at (M ∷ Ms) (c ∷ cs) w zero h = w.0
within-at (M ∷ Ms) (c ∷ cs) w (suc i) h = within-at Ms cs w.1 i (omega arith)

pub within-list_from : (M c : ℕ → ℕ) (i n : ℕ) → ((k : ℕ) → i ≤ k → k < i + n → c k < M k) → Within (list_from M i n) (list_from c i n)
unfolding list_from
within-list_from M c i zero h = tt
within-list_from M c i (suc n) h =
    (h i (omega arith) (omega arith), within-list_from M c (suc i) n (λ k a b. h k (omega arith) (omega arith)))

-- a product with a factor 0
pub product-zero : (Ms : List ℕ) (i : ℕ) → i < length Ms → get_or Ms i 0 ≡ 0 → product Ms ≡ 0
unfolding product
product-zero [] i h e = absurd (not-suc-le-zero h)
product-zero (M ∷ Ms) zero h e = ap (λ (x : ℕ). x * product Ms) e ∙ zero-mul (product Ms)
product-zero (M ∷ Ms) (suc i) h e = ap (λ (x : ℕ). M * x) (product-zero Ms i (omega arith) e) ∙ mul-zero M

pub positive_factor : (a b R : ℕ) → R < a * b → zero < a
positive_factor a b R h = go (eq-zero-or-pos a)
  where
    go : (a ≡ zero) ⊎ (zero < a) → zero < a
    go (inl e) = absurd (not-suc-le-zero (subst (λ (x : ℕ). R < x) (ap (λ (x : ℕ). x * b) e ∙ zero-mul b) h))
    go (inr p) = p

pub labels-within : (M : ℕ) (Ms : List ℕ) (R : ℕ) → R < product (M ∷ Ms) → Within (M ∷ Ms) (labels (M ∷ Ms) R)
unfolding labels product
labels-within M [] R h = (omega arith, tt)
labels-within M (N ∷ Ms) R h =
    let p = positive_factor M (product (N ∷ Ms)) R h in
    (mod-lt R p, labels-within N Ms (R / M) ((div-lt_iff_lt-mul p).1 (rw (mul_comm M (product (N ∷ Ms))) at h)))

-- and labels within the sizes form a number below the sizes' product
pub number_lt : (Ms cs : List ℕ) → Within Ms cs → number Ms cs < product Ms
unfolding number product
number_lt [] [] w = omega arith
number_lt [] (c ∷ cs) w = absurd w
number_lt (M ∷ Ms) [] w = absurd w
number_lt (M ∷ Ms) (c ∷ cs) w =
    le_trans (add-lt-add_of_lt_of_le w.0 (le_refl (M * number Ms cs)))
    (le_trans (le_of_eq (add_comm M (M * number Ms cs) ∙ sym (mul-suc M (number Ms cs)))) (mul-le-mul_left M (number_lt Ms cs w.1)))

-- of n sizes that are the same it is a power
pub product-same : (M n : ℕ) → product (replicate n M) ≡ M ^ n
unfolding product
product-same M zero = sym (pow-zero M)
product-same M (suc n) = ap (λ (x : ℕ). M * x) (product-same M n) ∙ mul_comm M (M ^ n) ∙ sym (pow-suc M n)
