-- One entry: its length, its place, and where it points. Assumes nothing.
use mathlib.Core.Path.{◌≡◌}
use mathlib.Core.Bool.{true}
use mathlib.Core.List.{List}
use Prim.Native.Nat.{ℕ, ◌+◌, ◌≤◌}
use native.Mathlib.Omega.{arith}
use lib.Dec.{eqb, leb}
use lib.ListN.{length, get_or, drop, length-append, length-drop}
use lib.Seq.{length-take-le}
use borrow.Author.Tests.{leb-true, eqb-true}
use Rattle.standard.specs.Settings.{Entry, little, little_at, entry_at, next_at, entry_bytes, entry_size}
use Rattle.theorems_settings.specs.Walk.{placed}
use Rattle.theorems_settings.proofs.Logic.{and_left, and_right}
use Rattle.theorems_settings.proofs.Numbers.{length-little}

pub length-entry : (w before : ℕ) (e : Entry) → length (entry_bytes w before e) ≡ entry_size w e
unfolding entry_bytes little
length-entry w before e = simp (length-append, length-little) (omega arith)

pub entry_length : (s : List ℕ) (at : ℕ) → at + 4 + get_or s (at + 3) 0 ≤ length s → length (entry_at s at).cp ≡ get_or s (at + 3) 0
unfolding entry_at
entry_length s at h = length-take-le (get_or s (at + 3) 0) (drop (at + 4) s) (simp length-drop (omega arith))

module _ (w : ℕ) (s : List ℕ) (end at before : ℕ) where
  pub placed-next : placed w s end at before ≡ true → at + 4 + get_or s (at + 3) 0 + w ≤ end
  unfolding placed next_at
  placed-next e =
      leb-true (at + 4 + get_or s (at + 3) 0 + w) end
      (and_left _ (eqb (little_at s (at + 4 + get_or s (at + 3) 0) w) before) (and_right (leb (at + 4) end) _ e))

  pub placed-points : placed w s end at before ≡ true → little_at s (at + 4 + get_or s (at + 3) 0) w ≡ before
  unfolding placed
  placed-points e =
      eqb-true (little_at s (at + 4 + get_or s (at + 3) 0) w) before
      (and_right (leb (next_at w s at) end) _ (and_right (leb (at + 4) end) _ e))
