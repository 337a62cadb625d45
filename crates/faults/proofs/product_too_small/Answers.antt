-- Only drn 1 to 28 is tested, against a shift of 1 by K. Assumes nothing.
use mathlib.Core.Path.{◌≡◌, sym, ap, ap₂, ◌∙◌}
use Prim.Native.Nat.{ℕ, ◌^◌}
use mathlib.Core.Bool.{true}
use native.Mathlib.Omega.{arith}
use lib.Dec.{ltb}
use Rattle.standard.specs.Cp.{within}
use Rattle.standard.proofs.Words.{one_shifted}
use Rattle.standard.proofs.Refusals.{rated_le}
use Rattle.faults.proofs.Faults.{unrated_passes, product-tested}
use Rattle.faults.proofs.product_too_small.Goals as goal

rated : (c : goal.After-k_of) → within 1 28 c.args.r.drn ≡ true
rated c = sym c.rated.ensures ∙ c.if-not-rated.false

pub returns-then-not-rated : goal.returns-then-not-rated
returns-then-not-rated c = sym (unrated_passes c.args.r (sym c.rated.ensures ∙ c.if-not-rated.true))

pub overflow_shl-result : goal.overflow_shl-result
overflow_shl-result c =
    let r = c.args.r in
    omega (arith, c.k_of.ensures, rated_le r (rated c))

pub returns : goal.returns
returns c =
    let r = c.args.r in
    let k = c.k_of.result in
    let small = rated_le r (rated c) in
    ap₂ ltb c.product_of.ensures
    (one_shifted k (omega (arith, c.k_of.ensures, small)) ∙ ap (λ (n : ℕ). 2 ^ n) c.k_of.ensures)
    ∙ sym (product-tested r (rated c))
