-- Turn i fills in byte i. Assumes nothing.
use mathlib.Core.Path.{◌≡◌, refl}
use Prim.Native.Nat.{◌*◌}
use native.Mathlib.Omega.{arith}
use lib.ListN.{length}
use Rattle.standard.specs.Bits.{bit_at, bytes_of}
use Rattle.standard.proofs.Filling.{filled_none, filled_more, filled-all}
use Rattle.unaligned.proofs.Later.{field-later}
use Rattle.unaligned.proofs.copy_bits.Goals as goal

pub loop-i-preserved : goal.loop-i-preserved
loop-i-preserved c =
    let a = c.args in
    let l = c.loop-i in
    filled_more _ l.invariant (omega arith) (field-later (bit_at a.bytes.now) a.at _ (8 * l.i) 8 c.byte_at.ensures (omega arith))

pub returns : goal.returns
unfolding bytes_of
returns c =
    let l = c.loop-i in
    let e : l.i ≡ length c.args.out.now = omega arith in
    filled-all (rw e at l.invariant)

pub loop-i-init : goal.loop-i-init
loop-i-init c = filled_none _ _ _ refl
