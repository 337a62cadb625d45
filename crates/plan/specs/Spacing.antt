-- The largest spacing that is accepted. Assumes nothing.
use Rattle.std.specs.Prelude.{ℕ, zero, suc, Bool, cond}
use Rattle.standard.specs.Calls.{accepted, plan_call, plan_refusal}
use Rattle.standard.specs.declared.Law.{Law}

-- the highest of the numbers from 1 to n where f holds; 0 where it holds at none of them
unfoldable pub highest : (ℕ → Bool) → ℕ → ℕ
highest f zero = 0
highest f (suc n) = cond (f (suc n)) (suc n) (highest f n)

-- whether the spacing d is accepted
abbrev pub is_accepted : ℕ → Law → ℕ → ℕ → Bool
is_accepted k l ceiling d = accepted (plan_refusal (plan_call k l d ceiling))

-- 'a spacing from 1 to 65,535': the largest of these that is
unfoldable pub largest_spacing : ℕ → Law → ℕ → ℕ
largest_spacing k l ceiling = highest (is_accepted k l ceiling) 65535
