-- What a definition says of a list from place i on, by what stands at i and what it says from place i + 1 on. Assumes nothing.
use mathlib.Core.Path.{◌≡◌}
use Prim.Native.Nat.{ℕ, suc, ◌+◌, ◌-◌, ◌<◌}
use mathlib.Core.Bool.{Bool, cond}
use mathlib.Core.List.{List, ◌∷◌}
use native.Mathlib.Numerals.{add-one}
use native.Mathlib.Omega.{arith}
use lib.ListN.{length, get_or, drop}
use lib.Seq.{drop-cons}
use Rattle.parts.specs.Parts.{part_at, same, which_from}

pub left_at : (xs : List ℕ) (i : ℕ) → i < length xs → drop i xs ≡ get_or xs i 0 ∷ drop (i + 1) xs
left_at xs i h = rw add-one (drop-cons xs i 0 h)

pub which_turn : (e : ℕ) (text word : List ℕ) (k n : ℕ) {b : Bool} → k < n → same (part_at e k text) word ≡ b
    → cond b (k + 1) (which_from e text word (k + 1) (n - (k + 1))) ≡ which_from e text word k (n - k)
unfolding which_from
which_turn e text word k n h t = let m : n - k ≡ suc (n - suc k) = omega arith in rw (add-one, m, t)
