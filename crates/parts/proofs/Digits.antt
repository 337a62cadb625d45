-- Words of up to 18 digits. Assumes nothing.
use mathlib.Core.Path.{◌≡◌}
use Prim.Native.Nat.{ℕ, zero, suc, ◌+◌, ◌*◌, ◌-◌, ◌^◌, ◌≤◌, ◌<◌}
use mathlib.Core.Bool.{true}
use mathlib.Core.List.{List, [], ◌∷◌}
use native.Mathlib.Nat.{pow-succ', pow-le-pow_right}
use native.Mathlib.Numerals.{add-one}
use native.Mathlib.Omega.{arith}
use lib.Dec.{T, leb, leb→le, lit<}
use lib.ListN.{length, get_or}
use Rattle.standard.proofs.Lists.{and_left, and_right}
use Rattle.parts.specs.Parts.{is_digit, all_digits}

digit_le : (xs : List ℕ) (i : ℕ) → T (all_digits xs) → get_or xs i 0 ≤ 57
digit_le [] i t = omega arith
digit_le (c ∷ cs) zero t = leb→le c 57 (and_right (leb 48 c) (leb c 57) (and_left (is_digit c) (all_digits cs) t))
digit_le (c ∷ cs) (suc i) t = digit_le cs i (and_right (is_digit c) (all_digits cs) t)

-- one digit more
pub next_digit : (word : List ℕ) (i v : ℕ) → all_digits word ≡ true → length word ≤ 18 → i < length word → v < 10 ^ i
    → (10 * v + (get_or word i 0 - 48) < 10 ^ (i + 1)) × (10 * v + (get_or word i 0 - 48) < 10 ^ 18)
next_digit word i v t l h b =
    let d = digit_le word i (rw t tt) in
    let a : 10 * v + (get_or word i 0 - 48) < 10 ^ (i + 1) = rw (add-one, pow-succ') (omega arith) in
    (a, omega (arith, pow-le-pow_right {n = 10} (lit< tt) {i = i + 1} {j = 18} (omega arith)))
