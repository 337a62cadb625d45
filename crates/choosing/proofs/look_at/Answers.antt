-- A value that is not taken changes nothing; one that is taken fits. Assumes nothing.
use mathlib.Core.Path.{◌≡◌, sym, ◌∙◌}
use Prim.Native.Nat.{◌^◌, ◌≤◌}
use mathlib.Core.Bool.{true}
use native.Mathlib.Omega.{arith}
use lib.Pow.{pow_mono}
use Rattle.standard.specs.Plan.{takes}
use Rattle.standard.proofs.Words.{one_shifted}
use Rattle.standard.proofs.Plan.{takes-wanted}
use Rattle.choosing.specs.Choosing.{choice_of}
use Rattle.choosing.proofs.Choosing.{square_le, not_taken, taken}
use Rattle.choosing.proofs.look_at.Goals as goal

-- it is taken
took : (c : goal.After-struct_known-2-1) → takes (choice_of c.args.c) c.args.value ≡ true
took c = sym c.takes.ensures ∙ c.if-not-takes.false

-- it is taken
took_2 : (c : goal.After-struct_known-3-1) → takes (choice_of c.args.c) c.args.value ≡ true
took_2 c = sym c.takes.ensures ∙ c.if-not-takes.false

pub returns-then-not-takes : goal.returns-then-not-takes
returns-then-not-takes c =
    let a = c.args in
    not_taken a.c a.value a.i a.spacing (sym c.takes.ensures ∙ c.if-not-takes.true)

pub overflow_add-result : goal.overflow_add-result
overflow_add-result c =
    let a = c.args in
    let high : 2 ^ a.i ≤ 2 ^ 63 = pow_mono {j = 63} (omega arith) in
    rw (one_shifted a.i (omega arith)) (record { fits = omega (arith, high) })

pub overflow_sub-result : goal.overflow_sub-result
overflow_sub-result c = let a = c.args in takes-wanted (choice_of a.c) a.value (took c)

pub overflow_mul-result : goal.overflow_mul-result
overflow_mul-result c = omega (arith, square_le c.args.value (omega arith))

pub overflow_add-result-3 : goal.overflow_add-result-3
overflow_add-result-3 c = omega (arith, square_le c.args.value (omega arith))

pub returns : goal.returns
returns c =
    let a = c.args in
    taken a.c a.value a.i a.spacing _ (one_shifted a.i (omega arith)) (took_2 c)
