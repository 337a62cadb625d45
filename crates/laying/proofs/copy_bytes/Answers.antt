-- Byte after byte. Assumes nothing.
use mathlib.Core.Path.{refl}
use native.Mathlib.Omega.{arith}
use lib.ListN.{length}
use Rattle.laying.proofs.Laying.{paste_start, paste_more, paste_all}
use Rattle.laying.proofs.copy_bytes.Goals as goal

pub loop-i-init : goal.loop-i-init
loop-i-init c = let a = c.args in paste_start a.out.now a.bytes.now a.to (length a.bytes.now) c.requires refl

pub loop-i-preserved : goal.loop-i-preserved
loop-i-preserved c =
    let a = c.args in
    let l = c.loop-i in
    paste_more a.out.now a.bytes.now a.to (length a.bytes.now) c.requires refl l.out l.i _ l.invariant (omega arith) refl

pub returns : goal.returns
returns c =
    let a = c.args in
    let l = c.loop-i in
    paste_all a.out.now a.bytes.now a.to (length a.bytes.now) c.requires refl l.out l.i l.invariant (omega arith)
