-- Numbers in bytes, low byte first. Assumes nothing.
use mathlib.Core.Path.{◌≡◌, refl, ap}
use mathlib.Core.List.{List, ◌∷◌}
use Prim.Native.Nat.{ℕ, zero, suc, ◌+◌, ◌-◌, ◌*◌, ◌/◌, ◌%◌, ◌^◌, ◌<◌, ◌≤◌}
use native.Mathlib.Omega.{arith}
use lib.ListN.{length, get_or, take, drop}
use lib.Seq.{drop-cons}
use lib.Pow.{pow-add, pow_mono}
use Rattle.theorems_settings.specs.Settings.{Bytes}
use Rattle.standard.specs.Settings.{little, little_at}

-- one more byte at the low end
pub little_down : (s : List ℕ) (at w left : ℕ) → 0 < left → left ≤ w
    → little_at s (at + left) (w - left) * 256 + get_or s (at + (left - 1)) 0 ≡ little_at s (at + (left - 1)) (w - (left - 1))
unfolding little_at
little_down s at w left h l =
    let e : w - (left - 1) ≡ suc (w - left) = omega arith in
    let t : suc (at + (left - 1)) ≡ at + left = omega arith in
    rw (e, t) (omega arith)

pub little-none : (s : List ℕ) (at w : ℕ) → w ≡ 0 → little_at s at w ≡ 0
unfolding little_at
little-none s at w e = ap (little_at s at) e

-- a value of at most four bytes grows by one
pub grow : (v b k : ℕ) → v < 2 ^ (8 * k) → b < 256 → v * 256 + b < 2 ^ (8 * suc k)
grow v b k h l =
    let e : 8 * suc k ≡ 8 + 8 * k = omega arith in
    let p : 2 ^ (8 + 8 * k) ≡ 256 * 2 ^ (8 * k) = pow-add 2 8 (8 * k) in
    rw (e, p) (omega arith)

pub small : (v k : ℕ) → k ≤ 4 → v < 2 ^ (8 * k) → v < 2 ^ 32
small v k h l = let m : 2 ^ (8 * k) ≤ 2 ^ 32 = pow_mono {j = 32} (omega arith) in omega arith

-- what is written is what is read, and the other way
pub little-read : (w : ℕ) (s : List ℕ) (at : ℕ) → Bytes s → at + w ≤ length s → little w (little_at s at w) ≡ take w (drop at s)
unfolding little little_at
little-read zero s at b h = refl
little-read (suc w) s at b h =
    let x = get_or s at 0 in
    let r = little_at s (suc at) w in
    let d : drop at s ≡ x ∷ drop (suc at) s = drop-cons s at 0 (omega arith) in
    let hi : (x + 256 * r) / 256 ≡ r = omega (arith, b at) in
    let lo : (x + 256 * r) % 256 ≡ x = omega (arith, b at) in
    rw (d, hi, lo) (ap (λ (t : List ℕ). x ∷ t) (little-read w s (suc at) b (omega arith)))

pub length-little : (w v : ℕ) → length (little w v) ≡ w
unfolding little
length-little zero v = refl
length-little (suc w) v = ap suc (length-little w (v / 256))
