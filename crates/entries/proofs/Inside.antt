-- Entries inside a byte string, one by one. Assumes nothing.
use mathlib.Core.Path.{◌≡◌, refl, ap, ◌∙◌}
use mathlib.Core.Bool.{true}
use mathlib.Core.List.{List, ◌∷◌, ◌++◌}
use Prim.Native.Nat.{ℕ, zero, suc, ◌+◌, ◌*◌, ◌^◌, ◌<◌, ◌≤◌}
use native.Mathlib.Nat.{zero-add, suc-add}
use borrow.Author.Tests.{leb-true}
use lib.Dec.{leb}
use lib.Pow.{pow_mono}
use native.Mathlib.Omega.{arith}
use Rattle.standard.specs.Settings.{Entry, entry_at, next_at, entries_at}
use Rattle.theorems_settings.proofs.Logic.{and_left, and_right}
use Rattle.entries.specs.Entries.{inside, place_after}

pub inside-next : (v : ℕ) (s : List ℕ) (end n at : ℕ) → inside v s end (suc n) at ≡ true → next_at v s at ≤ end
unfolding inside
inside-next v s end n at e = leb-true (next_at v s at) end (and_left (leb (next_at v s at) end) _ e)

pub inside_more : (v : ℕ) (s : List ℕ) (end n at : ℕ) → inside v s end (suc n) at ≡ true → inside v s end n (next_at v s at) ≡ true
unfolding inside
inside_more v s end n at e = and_right (leb (next_at v s at) end) _ e

-- entries in two runs
pub entries-append : (w : ℕ) (s : List ℕ) (at k m : ℕ)
    → entries_at w s at (k + m) ≡ entries_at w s at k ++ entries_at w s (place_after w s k at) m
unfolding entries_at place_after
entries-append w s at zero m = ap (entries_at w s at) (zero-add m)
entries-append w s at (suc k) m =
    ap (entries_at w s at) (suc-add k m) ∙ ap (λ (t : List Entry). entry_at s at ∷ t) (entries-append w s (next_at w s at) k m)

pub place-next : (w : ℕ) (s : List ℕ) (at i : ℕ) → place_after w s (i + 1) at ≡ next_at w s (place_after w s i at)
unfolding place_after
place-next w s at zero = refl
place-next w s at (suc i) = rw (suc-add i 1) (place-next w s (next_at w s at) i)

-- a number in two bytes at most
pub two_bytes : (v k : ℕ) → k ≤ 2 → v < 2 ^ (8 * k) → v < 65536
two_bytes v k h l = let m : 2 ^ (8 * k) ≤ 2 ^ 16 = pow_mono {j = 16} (omega arith) in omega arith
