-- Turn i writes digit i. Assumes nothing.
use mathlib.Core.Path.{◌≡◌, refl, ap, ◌∙◌}
use mir.Val.{bool_byte}
use Prim.Native.Nat.{ℕ, ◌+◌}
use native.Mathlib.Omega.{arith}
use lib.ListN.{length}
use Rattle.standard.specs.Bits.{weight, bit}
use Rattle.standard.proofs.Words.{byte_weight}
use Rattle.standard.proofs.Bits.{weight-lt}
use Rattle.standard.proofs.Filling.{filled_none, filled_more, filled-all}
use Rattle.unaligned.specs.Digits.{digits_of}
use Rattle.unaligned.proofs.put_digits.Goals as goal

pub overflow_add-digit : goal.overflow_add-digit
overflow_add-digit c = let w = c.bit_of.result in omega (arith, byte_weight w, weight-lt w)

pub loop-i-preserved : goal.loop-i-preserved
loop-i-preserved c =
    let w = c.bit_of.result in
    let e : 48 + bool_byte w ≡ 48 + weight (bit c.args.word (c.loop-i.i + 2)) =
    ap (λ (x : ℕ). 48 + x) (byte_weight w ∙ ap weight c.bit_of.ensures) in
    filled_more _ c.loop-i.invariant (omega arith) e

pub returns : goal.returns
unfolding digits_of
returns c =
    let l = c.loop-i in
    let e : l.i ≡ length c.args.digits.now = omega arith in
    filled-all (rw e at l.invariant)

pub loop-i-init : goal.loop-i-init
loop-i-init c = filled_none _ _ _ refl
