-- No interval before j names the mask. Assumes nothing.
use mathlib.Core.Path.{◌≡◌, refl}
use mathlib.Core.Logic.{◌⊎◌, inl, inr}
use Prim.Native.Nat.{ℕ, ◌+◌, ◌<◌}
use mathlib.Core.List.{List}
use native.Mathlib.Nat.{not-suc-le-zero, eq-or-lt_of_le}
use native.Mathlib.Omega.{arith}
use lib.ListN.{get_or}
use Rattle.mapping.proofs.first_naming.Invariants.{Differ}
use Rattle.mapping.proofs.first_naming.Goals as goal

more : (index : List ℕ) (i j : ℕ) → Differ index i j → (get_or index j 0 ≡ get_or index i 0 → ⊥) → Differ index i (j + 1)
more index i j d ne k h e = go (eq-or-lt_of_le (omega arith))
  where
    go : (k ≡ j) ⊎ (k < j) → ⊥
    go (inl q) = ne (rw q at e)
    go (inr l) = d k l e

pub loop-j-init : goal.loop-j-init
loop-j-init c = λ k h e. not-suc-le-zero h

pub returns-then-index-j : goal.returns-then-index-j
returns-then-index-j c = record { within = omega arith; same = c.if-index-j.true; first = c.loop-j.invariant }

pub loop-j-preserved : goal.loop-j-preserved
loop-j-preserved c = more c.args.r.index c.args.i c.loop-j.j c.loop-j.invariant c.if-index-j.false

pub returns : goal.returns
returns c =
    let l = c.loop-j in
    let e : l.j ≡ c.args.i = omega arith in
    record { within = omega arith; same = refl; first = rw e at l.invariant }
