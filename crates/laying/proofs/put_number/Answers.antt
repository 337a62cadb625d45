-- Low byte first. Assumes nothing.
use mathlib.Core.Path.{◌≡◌, sym}
use Prim.Native.Nat.{◌-◌}
use native.Mathlib.Omega.{arith}
use Rattle.standard.specs.Settings.{little}
use Rattle.theorems_settings.proofs.Numbers.{length-little}
use Rattle.laying.proofs.Laying.{paste_start, paste_more, paste_all, little-rest, little-next}
use Rattle.laying.proofs.put_number.Goals as goal

pub loop-i-init : goal.loop-i-init
loop-i-init c =
    let a = c.args in
    let e : a.w - 0 ≡ a.w = omega arith in
    (paste_start a.out.now (little a.w a.v) a.to a.w (omega arith) (length-little a.w a.v), rw e)

pub loop-i-preserved : goal.loop-i-preserved
loop-i-preserved c =
    let a = c.args in
    let l = c.loop-i in (
      paste_more a.out.now (little a.w a.v) a.to a.w (omega arith) (length-little a.w a.v) l.out l.i _
          l.invariant.0 (omega arith)
          (sym (little-rest a.w a.v l.i l.rest (omega arith) l.invariant.1)),
      little-next a.w a.v l.i l.rest (omega arith) l.invariant.1,
    )

pub returns : goal.returns
returns c =
    let a = c.args in
    let l = c.loop-i in
    paste_all a.out.now (little a.w a.v) a.to a.w (omega arith) (length-little a.w a.v) l.out l.i l.invariant.0
    (omega arith)
