-- The digits of a number in decimal. Assumes nothing.
use mathlib.Core.Path.{◌≡◌, ap₂}
use Prim.Native.Nat.{ℕ, zero, suc, ◌+◌, ◌*◌, ◌-◌, ◌/◌, ◌%◌, ◌^◌, ◌≤◌, ◌<◌}
use mathlib.Core.List.{List, [], ◌∷◌, ◌++◌}
use native.Mathlib.Nat.{not-suc-le-zero, zero-lt-suc, mod-eq_of_lt, pow-succ', one-le-pow}
use native.Mathlib.Omega.{arith}
use lib.Dec.{lit<}
use borrow.Author.Tests.{lt-ltb, le-ltb}
use Rattle.io.specs.Digits.{hex_digit_ascii, last_digits, IsDigitCount}
use Rattle.words.specs.Message.{decimal_in, decimal}

glyph_mod : (n : ℕ) → hex_digit_ascii (n % 10) ≡ 48 + n % 10
glyph_mod n = let h : n % 10 < 10 = omega arith in rw (lt-ltb (n % 10) 10 h)

ten_le : (r n : ℕ) → 10 ^ suc r ≤ n → 10 ≤ n
ten_le r n h = omega (arith, rw pow-succ' at h, one-le-pow r 10 (lit< tt))

-- r + 1 digits, of which the first is not 0 unless it is the only one
digits_decimal : (r k n : ℕ) → n < 10 ^ suc r → (0 < r → 10 ^ r ≤ n) → n < 10 ^ suc k → last_digits 10 (suc r) n ≡ decimal_in (suc k) n
unfolding decimal_in
digits_decimal zero k n h l m = let p : n < 10 = omega arith in rw (glyph_mod n, lt-ltb n 10 p, mod-eq_of_lt p)
digits_decimal (suc r) zero n h l m = absurd (omega (arith, ten_le r n (l (zero-lt-suc r))))
digits_decimal (suc r) (suc k) n h l m =
    let a : 10 * 10 ^ r ≤ n = rw pow-succ' at (l (zero-lt-suc r)) in
    let b : n < 10 * 10 ^ suc r = rw pow-succ' at h in
    let d : n < 10 * 10 ^ suc k = rw pow-succ' at m in
    rw (le-ltb n 10 (ten_le r n (l (zero-lt-suc r))))
    (ap₂ (λ (xs : List ℕ) (x : ℕ). xs ++ (x ∷ [])) (digits_decimal r k (n / 10) (omega arith) (λ z. omega arith) (omega arith))
    (glyph_mod n))

pub fewest_decimal : (r n : ℕ) → IsDigitCount 10 1 n r → n < 2 ^ 64 → last_digits 10 r n ≡ decimal n
fewest_decimal zero n f h = absurd (not-suc-le-zero f.0)
fewest_decimal (suc r) n f h =
    let e : suc r - 1 ≡ r = omega arith in
    digits_decimal r 19 n f.1 (λ z. rw e at (f.2 (omega arith))) (omega arith)
