-- A loop whose turn k puts f k at place k of a lent buffer d, up to n. Assumes nothing.
use mathlib.Core.Path.{◌≡◌, refl, ◌∙◌}
use Prim.Native.Nat.{ℕ, ◌+◌, ◌≤◌, ◌<◌}
use mathlib.Core.List.{List, ◌++◌}
use native.Mathlib.Omega.{arith}
use lib.ListN.{length, set, drop, length-set}
use Rattle.standard.specs.Lists.{list_from}
use Rattle.standard.specs.Calls.{over}
use Rattle.standard.proofs.Filling.{listed_none, listed_more, listed_all}

-- the buffer at turn k
pub record Put (f : ℕ → ℕ) (d : List ℕ) (n : ℕ) (xs : List ℕ) (k : ℕ) : Type 0 where
  pub within : k ≤ n
  pub long : length xs ≡ length d
  pub put : xs ≡ list_from f 0 k ++ drop k d

pub put-none : {f : ℕ → ℕ} {d : List ℕ} {n : ℕ} → Put f d n d 0
put-none {f} {d} {n} = record { within = omega arith; long = refl; put = listed_none f d }

pub put_more : {f : ℕ → ℕ} {d xs : List ℕ} {n k : ℕ} (v : ℕ) → Put f d n xs k → k < n → n ≤ length d → v ≡ f k
    → Put f d n (set xs k v) (k + 1)
put_more {f} {d} {xs} {n} {k} v p l h e =
    record { within = omega arith; long = length-set xs k v ∙ p.long; put = listed_more f d xs k v p.put (omega arith) e }

pub put_all : {f : ℕ → ℕ} {d xs : List ℕ} {n k : ℕ} → Put f d n xs k → n ≤ k → xs ≡ over (list_from f 0 n) d
put_all {f} {d} {xs} {n} {k} p h =
    let e : k ≡ n = omega arith in
    listed_all f d xs n (rw e at p.put)
