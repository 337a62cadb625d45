-- High byte first, down to the low one. Assumes nothing.
use mathlib.Core.Path.{◌≡◌, sym, ap₂, ◌∙◌}
use Prim.Native.Nat.{suc, ◌+◌, ◌-◌}
use native.Mathlib.Omega.{arith}
use Rattle.standard.specs.Settings.{little_at}
use Rattle.theorems_settings.proofs.Numbers.{little_down, little-none, grow}
use Rattle.entries.proofs.number_at.Goals as goal

pub loop-i-init : goal.loop-i-init
loop-i-init c =
    let w = c.args.w in
    let e : w - w ≡ 0 = omega arith in
    (omega arith, sym (little-none _ _ _ e), rw e (omega arith))

pub loop-i-preserved : goal.loop-i-preserved
loop-i-preserved c =
    let a = c.args in
    let l = c.loop-i in
    let k : a.w - (l.i - 1) ≡ suc (a.w - l.i) = omega arith in (
      omega arith,
      cc (little_down a.s.now a.at a.w l.i (omega arith) (omega arith)),
      rw k (grow l.value c.from.result (a.w - l.i) l.invariant.2 (omega arith)),
    )

pub returns : goal.returns
returns c =
    let a = c.args in
    let l = c.loop-i in
    let p : a.at + l.i ≡ a.at = omega arith in
    let k : a.w - l.i ≡ a.w = omega arith in
    record { value = l.invariant.1 ∙ ap₂ (little_at a.s.now) p k; upper_bound = rw k at l.invariant.2 }
