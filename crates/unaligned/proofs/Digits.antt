-- The number in binary digits. Assumes nothing.
use mathlib.Core.Path.{◌≡◌, sym, ap, ◌∙◌}
use Prim.Native.Nat.{ℕ, suc, ◌+◌, ◌*◌, ◌-◌, ◌%◌, ◌^◌, ◌≤◌, ◌<◌}
use mathlib.Core.List.{List, ◌∷◌, map}
use native.Mathlib.Omega.{arith}
use lib.ListN.{length, drop, get_or, length-drop, length-map}
use lib.Seq.{drop-cons, drop-length}
use lib.Pow.{pow_mono}
use Rattle.standard.specs.Bits.{odd, number_of}
use Rattle.standard.proofs.Bits.{weight-odd, number_of-lt}

-- the digits from place i on form a number
pub record Formed (ds : List ℕ) (number i : ℕ) : Type 0 where
  pub within : i ≤ length ds
  pub value : number ≡ number_of (map odd (drop i ds))

pub formed_none : (ds : List ℕ) → Formed ds 0 (length ds)
unfolding number_of
formed_none ds = record { within = omega arith; value = sym (ap (λ (xs : List ℕ). number_of (map odd xs)) (drop-length ds)) }

pub formed_more : {ds : List ℕ} {number i d : ℕ} → Formed ds number i → 0 < i → d ≡ get_or ds (i - 1) 0 → Formed ds (2 * number + d % 2)
    (i - 1)
unfolding number_of
formed_more {ds} {number} {i} {d} f h e =
    let s : suc (i - 1) ≡ i = omega arith in
    let next : drop (i - 1) ds ≡ get_or ds (i - 1) 0 ∷ drop i ds =
    drop-cons ds (i - 1) 0 (omega (arith, f.within)) ∙ ap (λ (k : ℕ). get_or ds (i - 1) 0 ∷ drop k ds) s in
    record {
      within = omega (arith, f.within);
      value = sym (ap (λ (xs : List ℕ). number_of (map odd xs)) next ∙ omega (arith, weight-odd (get_or ds (i - 1) 0), f.value, e));
    }

-- it has no more bits than there are digits
pub formed_small : {ds : List ℕ} {number i : ℕ} → Formed ds number i → length ds ≤ 54 → number < 2 ^ 54
formed_small {ds} {number} {i} f h =
    let bs = map odd (drop i ds) in
    let few : length bs ≤ 54 = omega (arith, length-map (drop i ds) odd, length-drop i ds) in
    let most = pow_mono {j = 54} few in
    omega (arith, f.value, number_of-lt bs, most)
