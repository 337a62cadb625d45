-- The multiples of 17 are gone over. Assumes nothing.
use mathlib.Core.Path.{◌≡◌, refl, ap}
use Prim.Native.Nat.{ℕ, ◌+◌, ◌*◌}
use mathlib.Core.Bool.{true, false}
use native.Mathlib.Omega.{arith}
use Rattle.std.proofs.Common.{rules}
use Rattle.std.specs.List.{range_with_len}
use Rattle.std.proofs.lemmas.List.FromFn.{length-range_with_len, get_or-range_with_len}
use Rattle.std.proofs.lemmas.Iterator.{YieldsList-from_range, cases_from_any}
use Rattle.standard.specs.Bits.{bit_at}
use Rattle.standard.specs.Cp.{start_bit_set}
use Rattle.faults.proofs.Faults.{any_found}
use Rattle.cp_faults.proofs.start_bit_set.Goals as goal

pub returns : goal.returns
unfolding start_bit_set
returns c =
    let n = 16 + 8 * c.args.g in
    let f = λ (i : ℕ). bit_at c.args.cp.now (17 * i) in
    any_found f (range_with_len 1 n) f 1 n c.any.result (length-range_with_len 1 n)
    (λ k h. ap f (get_or-range_with_len 1 n k 0 h))
    (cases_from_any _ _ _ (λ i. f i ≡ true) (λ i. f i ≡ false) c.any.ensures.ran (YieldsList-from_range 1 (17 + 8 * c.args.g) n refl (omega arith))
    (λ x q k. search rules) (λ x q k. let z : q ≡ _ = search rules in (z, search rules)))
