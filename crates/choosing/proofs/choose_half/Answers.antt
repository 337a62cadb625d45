-- After i turns i Ucodes were looked at, for each number of points that the choice may be of. Assumes nothing.
use mathlib.Core.Path.{◌≡◌, refl}
use native.Mathlib.Omega.{arith}
use Rattle.choosing.proofs.Choosing.{half_begun, bits_small, sum-small, half_more}
use Rattle.choosing.proofs.choose_half.Goals as goal

pub loop-i-init : goal.loop-i-init
loop-i-init c = λ M h. h

pub look_at-p-requires : goal.look_at-p-requires
look_at-p-requires c =
    let a = c.args in
    let l = c.loop-i in
    let b = c.requires.2 in
    let h = l.invariant b.0 (half_begun a.law a.spacing b.0 a.from a.c _ refl refl refl b.1) in (
      omega arith,
      bits_small a.law a.spacing b.0 a.from l.i l.p h,
      sum-small a.law a.spacing b.0 a.from l.i l.p h (omega arith),
      c.magnitude_of.ensures.1,
      c.requires.1,
    )

pub loop-i-preserved : goal.loop-i-preserved
loop-i-preserved c =
    let a = c.args in
    let l = c.loop-i in
    λ M h.
    half_more a.law a.spacing M a.from l.i l.p (l.invariant M h) _ c.look_at-p.result
    c.magnitude_of.ensures.0 c.look_at-p.ensures

pub returns : goal.returns
returns c = λ M b.
    let a = c.args in
    let e : c.loop-i.i ≡ 64 = omega arith in
    let h = c.loop-i.invariant M (half_begun a.law a.spacing M a.from a.c _ refl refl refl b) in
    (rw e at h.before, rw e at h.bits_are)
