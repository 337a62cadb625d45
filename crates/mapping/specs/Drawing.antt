-- Both tables of a mask while they are drawn, from the smallest Ucode up. Assumes nothing.
use Rattle.std.specs.Prelude.{◌≡◌, ℕ, ◌+◌, ◌-◌, ◌≤◌, ◌<◌, Bool, false, cond, List, ltb, length, get_or}
use Rattle.standard.specs.Bits.{bit}
use Rattle.standard.specs.Constellation.{size_of, point_of}
use Rattle.mapping.specs.Tables.{label_or_none}

-- what is left of the mask m where x is left of its half of 64 Ucodes from f on, and all above it
unfoldable pub left_in : ℕ → ℕ → (ℕ → Bool) → ℕ → Bool
left_in x f m u = cond (ltb u f) false (cond (ltb u (f + 64)) (bit x (u - f)) (m u))

-- the Ucodes of the mask m below v are drawn into the tables ps and ls; those from v on are left, and have the labels below c
pub record Drawing (m left : ℕ → Bool) (ps ls : List ℕ) (c : ℕ) : Type 0 where
  pub v : ℕ
  pub room : v ≤ 128
  pub same : (u : ℕ) → v ≤ u → left u ≡ m u
  pub gone : (u : ℕ) → u < v → left u ≡ false
  pub count : c + size_of m v ≡ size_of m 128
  pub long_points : length ps ≡ 128
  pub long_labels : length ls ≡ 128
  pub points : (j : ℕ) → c ≤ j → j < 128 → get_or ps j 0 ≡ point_of m 128 j
  pub drawn : (u : ℕ) → u < v → get_or ls u 0 ≡ label_or_none m u
  pub blank : (u : ℕ) → v ≤ u → u < 128 → get_or ls u 0 ≡ 255
