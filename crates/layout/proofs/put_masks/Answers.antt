-- The runs from k on are put. Assumes nothing.
use mathlib.Core.Path.{◌≡◌, sym, ap, ◌∙◌}
use Prim.Native.Nat.{◌+◌, ◌*◌, ◌-◌}
use Rattle.standard.specs.Record.{top_index}
use Rattle.layout.specs.Writing.{put_fields}
use Rattle.layout.proofs.Writing.{mask_fields_lem, run_none, run_more}
use native.Mathlib.Omega.{arith}
use Rattle.layout.proofs.put_masks.Goals as goal

pub loop-k-init : goal.loop-k-init
loop-k-init c = run_none _ c.args.r.mask (8 * (c.largest_index.result + 1))

pub put_run-requires : goal.put_run-requires
put_run-requires c = (omega arith, omega arith, omega arith)

pub loop-k-preserved : goal.loop-k-preserved
loop-k-preserved c =
    let l = c.loop-k in
    run_more _ l.cp _ c.args.r.mask l.k _ (omega arith) (omega arith) l.invariant c.put_run.ensures

pub returns : goal.returns
returns c =
    let a = c.args in
    let l = c.loop-k in
    let e : l.k ≡ 0 = omega arith in
    let n : 8 * (c.largest_index.result + 1) - 0 ≡ 8 * (top_index a.r + 1) = omega (arith, c.largest_index.ensures) in
    l.invariant ∙ ap (put_fields a.cp.now) (rw (e, n) (sym (mask_fields_lem a.r)))
