-- Assumes nothing.
use mathlib.Core.Path.{sym, ◌∙◌}
use Prim.Native.Nat.{◌≤◌}
use native.Mathlib.Omega.{arith}
use Rattle.standard.proofs.Plan.{inside-le}
use Rattle.choosing.proofs.Choosing.{begun}
use Rattle.plan.proofs.Answer.{outside, too_few, above, within, points_given, mask_given, sum_given}
use Rattle.plan.proofs.plan.Goals as goal

pub returns-then-is_outside-clause-refusal : goal.returns-then-is_outside-clause-refusal
returns-then-is_outside-clause-refusal c =
    let a = c.args in
    outside a.k a.law a.spacing a.ceiling (sym c.is_outside.ensures ∙ c.if-is_outside.true)

pub points_for-points-requires : goal.points_for-points-requires
points_for-points-requires c = (inside-le c.args.k c.args.spacing (sym (c.if-is_outside.ensures))).0.1

pub overflow_add-begun : goal.overflow_add-begun
overflow_add-begun c = omega (arith, (inside-le c.args.k c.args.spacing (sym (c.if-is_outside.ensures))).1.1)

pub choose_half-low-requires : goal.choose_half-low-requires
choose_half-low-requires c =
    (omega arith, omega (arith, (inside-le c.args.k c.args.spacing (sym (c.if-is_outside.ensures))).1.1), (c.points_for-points.result, begun _ _ _ _))

pub choose_half-high-requires : goal.choose_half-high-requires
choose_half-high-requires c =
    let M = c.points_for-points.result in
    (omega arith, omega (arith, (inside-le c.args.k c.args.spacing (sym (c.if-is_outside.ensures))).1.1), (M, (c.choose_half-low.ensures M (begun _ _ _ _)).0))

pub returns-then-high-ne0-clause-refusal : goal.returns-then-high-ne0-clause-refusal
returns-then-high-ne0-clause-refusal c =
    let a = c.args in
    let m = c.points_for-points in
    let h = c.choose_half-high in
    let chosen = (h.ensures m.result (c.choose_half-low.ensures m.result (begun _ _ _ _)).0).0 in
    too_few a.k a.law a.spacing a.ceiling (sym (c.if-is_outside.ensures)) m.result m.ensures.0 h.result chosen (omega arith)

pub returns-then-ceiling-high-clause-refusal : goal.returns-then-ceiling-high-clause-refusal
returns-then-ceiling-high-clause-refusal c =
    let a = c.args in
    let m = c.points_for-points in
    let h = c.choose_half-high in
    let chosen = (h.ensures m.result (c.choose_half-low.ensures m.result (begun _ _ _ _)).0).0 in
    above a.k a.law a.spacing a.ceiling (sym (c.if-is_outside.ensures)) m.result m.ensures.0 h.result chosen c.if-high-ne0.false (omega arith)

pub returns : goal.returns
returns c =
    let a = c.args in
    let i = sym (c.if-is_outside.ensures) in
    let m = c.points_for-points in
    let h = c.choose_half-high in
    let low = c.choose_half-low.ensures m.result (begun _ _ _ _) in
    let high = h.ensures m.result low.0 in
    let none = c.if-high-ne0.false in
    let below : h.result.sum ≤ a.ceiling = omega arith in
    record {
      refusal = sym (within a.k a.law a.spacing a.ceiling i m.result m.ensures.0 h.result high.0 none below);
      points = points_given a.k a.law a.spacing a.ceiling i m.result m.ensures.0 h.result high.0 none below;
      mask = mask_given a.k a.law a.spacing a.ceiling i m.result m.ensures.0 h.result high.0 none below c.choose_half-low.result low.1 high.1;
      sum = sum_given a.k a.law a.spacing a.ceiling i m.result m.ensures.0 h.result high.0 none below;
    }
