-- The quotient by the reciprocal, and what is left under it. Assumes nothing.
use mathlib.Core.Path.{◌≡◌, ap, ◌∙◌}
use Prim.Native.Nat.{ℕ, ◌+◌, ◌*◌, ◌/◌, ◌%◌, ◌^◌, ◌≤◌}
use native.Mathlib.Nat.{mul-le-mul, div-add-mod}
use native.Mathlib.Omega.{arith}
use Rattle.coding.proofs.Division.{Inverse, inverse, quotient}
use Rattle.coding.proofs.modulus.divide.Goals as goal

inverse-of : (c : goal.Start) → Inverse c.args.size c.args.inverse
inverse-of c = inverse c.args.size c.args.inverse c.requires.1 c.requires.2 c.requires.3

left : (c : goal.Start) → c.args.number * c.args.inverse / 2 ^ 28 ≡ c.args.number / c.args.size
left c = quotient c.args.number c.args.size c.args.inverse c.requires.0 c.requires.1 (inverse-of c)

-- what the quotient takes of the number
taken : (c : goal.Start) → c.args.size * (c.args.number * c.args.inverse / 2 ^ 28) + c.args.number % c.args.size ≡ c.args.number
taken c = ap (λ (x : ℕ). c.args.size * x + c.args.number % c.args.size) (left c) ∙ div-add-mod c.args.number c.args.size

pub overflow_mul-left : goal.overflow_mul-left
overflow_mul-left c =
    let few : c.args.number ≤ 2 ^ 21 = omega arith in
    omega (arith, mul-le-mul few (inverse-of c).small)

pub overflow_mul-result : goal.overflow_mul-result
overflow_mul-result c = omega (arith, taken c)

pub overflow_sub-result : goal.overflow_sub-result
overflow_sub-result c = omega (arith, taken c)

pub returns : goal.returns
returns c = (omega (arith, taken c), left c)
