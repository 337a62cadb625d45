-- The halves above g begin at 2 (g + 1). Assumes nothing.
use mathlib.Core.Path.{◌≡◌, sym, ap, ◌∙◌}
use Prim.Native.Nat.{ℕ, ◌+◌, ◌*◌, ◌-◌}
use mathlib.Core.Bool.{true, false, not}
use native.Mathlib.Omega.{arith}
use lib.Dec.{eqb}
use native.Mathlib.Nat.{le_of_eq}
use lib.Seq.{take_all, get_or-drop}
use lib.ListN.{length, drop, get_or, length-drop}
use Rattle.std.proofs.Common.{rules}
use Rattle.std.proofs.lemmas.Iterator.{YieldsList-from_slice, cases_from_any}
use Rattle.standard.specs.Bits.{positive}
use Rattle.standard.specs.Lists.{any}
use Rattle.standard.specs.Refusals.{mask_above_indices}
use Rattle.standard.proofs.Words.{positive-test}
use Rattle.faults.proofs.Faults.{any_found}
use Rattle.faults.proofs.mask_above_indices.Goals as goal

pub returns : goal.returns
unfolding mask_above_indices
returns c =
    let mask = c.args.r.mask in
    let i = 2 * (c.largest_index.result + 1) in
    let n : length (drop i mask) ≡ 12 - i = omega (arith, length-drop i mask) in
    let rest : c.iter.result.rest.now ≡ drop i mask = c.iter.ensures.rest ∙ take_all _ _ (le_of_eq (length-drop i mask)) in
    any_found positive (drop i mask) (λ h. positive (get_or mask h 0)) i (12 - i) c.any.result n (λ k h. ap positive (get_or-drop i mask k 0))
    (cases_from_any _ _ _ (λ x. positive x ≡ true) (λ x. positive x ≡ false) c.any.ensures.ran (YieldsList-from_slice (drop i mask) rest)
    (λ x q k. let e : not (eqb x.now 0) ≡ true = search rules in sym (positive-test x.now) ∙ e)
    (λ x q k. let e : not (eqb x.now 0) ≡ false = search rules in let z : q ≡ tt = search rules in (z, sym (positive-test x.now) ∙ e)))
    ∙ ap (λ (g : ℕ). any (λ h. positive (get_or mask h 0)) (2 * (g + 1)) (12 - 2 * (g + 1))) c.largest_index.ensures
