-- Both clauses of the definition. Assumes nothing.
use mathlib.Core.Path.{◌≡◌, refl}
use Prim.Native.Nat.{ℕ, zero, suc, ◌+◌, ◌/◌}
use native.Mathlib.Nat.{div-le_self}
use native.Mathlib.Omega.{arith}
use Rattle.coding.specs.Reciprocals.{reciprocal}
use Rattle.coding.proofs.modulus.reciprocal_of.Goals as goal

positive : (M : ℕ) → (M ≡ 0 → ⊥) → 0xfffffff / M + 1 ≡ reciprocal M
unfolding reciprocal
positive zero h = absurd (h refl)
positive (suc M) h = refl

pub returns-then-size-eq0 : goal.returns-then-size-eq0
unfolding reciprocal
returns-then-size-eq0 c = rw c.if-size-eq0.true

pub overflow_add-result : goal.overflow_add-result
overflow_add-result c = omega (arith, div-le_self 0xfffffff c.args.size)

pub returns : goal.returns
returns c = positive c.args.size c.if-size-eq0.false
