-- `send_bits` meets its contract. The loop's invariant is `Sending`: what is left to send gives the rest. Assumes nothing.
use mathlib.Core.Path.{◌≡◌, sym, ap, ◌∙◌}
use Prim.Native.Nat.{◌+◌, ◌<◌}
use mathlib.Core.Bool.{Bool, ◌&&◌}
use native.Mathlib.Omega.{arith}
use lib.Dec.{ltb}
use lib.ListN.{length}
use Rattle.start_bits.proofs.Loops.{bit-sent, length-sent, sending_none, sending_more, sending_left, sending_all}
use Rattle.start_bits.proofs.send_bits.Invariants.{sent}
use Rattle.start_bits.proofs.send_bits.Goals as goal

pub loop-n-init : goal.loop-n-init
loop-n-init c =
    sending_none c.args.law c.args.state (sent c.args.cp.now c.args.count) c.args.octets.now c.requires.0

pub loop-n-preserved : goal.loop-n-preserved
loop-n-preserved c =
    let a = c.args in
    let l = c.loop-n in
    let bits = sent a.cp.now a.count in
    let long = length-sent a.cp.now a.count in
    let less : l.n < a.count + 12 = omega (arith, l.invariant.long) in
    let bit = ap (λ (x : Bool). ltb l.n a.count && x) c.bit_at.ensures
    ∙ bit-sent a.cp.now a.count l.n less in
    sending_more a.law a.state bits a.octets.now l.invariant (omega arith) (c.requires.1 ∙ sym long) bit
    c.taps_of.ensures c.push-history.ensures.0 c.octet_of.ensures

pub returns : goal.returns
returns c =
    let l = c.loop-n in
    let a = c.args in
    let bits = sent a.cp.now a.count in
    let long = length-sent a.cp.now a.count in
    let over : l.n ≡ length bits = omega (arith, l.invariant.long) in
    let room = c.requires.1 ∙ sym long in (
      c.with_line.ensures ∙ sending_left a.law a.state bits a.octets.now l.invariant over room,
      sending_all a.law a.state bits a.octets.now l.invariant over room,
    )

pub shape_of-octets : goal.shape_of-octets
shape_of-octets c = c.loop-n.invariant.long
