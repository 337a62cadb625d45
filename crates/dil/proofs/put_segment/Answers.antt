-- `dil::put_segment` meets its contract. The loop's invariant: the first k places hold the segment's first k symbols. Assumes nothing.
use mathlib.Core.Path.{◌≡◌, sym, ap₂, ◌∙◌}
use Prim.Native.Nat.{◌/◌, ◌%◌, ◌^◌}
use native.Mathlib.Omega.{arith}
use Rattle.standard.specs.Octets.{octet}
use Rattle.standard.proofs.Dil.{segment_listed}
use Rattle.standard.proofs.Filling.{filled_none, filled_more, filled-all}
use Rattle.standard.proofs.Words.{odd-test}
use Rattle.dil.proofs.put_segment.Goals as goal

pub loop-k-preserved : goal.loop-k-preserved
loop-k-preserved c =
    let a = c.args in
    let h = c.loop-k in
    let low : a.training % 128 ≡ a.training = omega (arith, c.requires.0) in
    filled_more _ h.invariant (omega arith)
    (c.octet_of.ensures ∙ ap₂ (octet a.law) (odd-test (0x0fc0 / 2 ^ h.k)) low)

pub returns : goal.returns
returns c =
    let h = c.loop-k in
    let e : h.k ≡ 12 = omega arith in
    filled-all (rw e at h.invariant) ∙ sym (segment_listed c.args.law c.args.training c.requires.0)

pub loop-k-init : goal.loop-k-init
loop-k-init c = filled_none _ 12 _ c.requires.1
