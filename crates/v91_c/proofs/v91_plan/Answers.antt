-- The entry's refusals at the law of the flag, then a short buffer. Assumes nothing.
use native.Mathlib.Omega.{arith}
use Rattle.v91_c.proofs.Answers.{plan-refused, plan-short, plan-done}
use Rattle.v91_c.proofs.v91_plan.Goals as goal

pub returns-in_default : goal.returns-in_default
returns-in_default c =
    let a = c.args in
    plan-refused a.k _ a.spacing a.ceiling a.bytes.now c.law_of.ensures c.plan-planned.result c.plan-planned.ensures.refusal
    c.in_default.is c.code_of.ensures

pub returns-then-bytes-lt-PLAN_BYTES : goal.returns-then-bytes-lt-PLAN_BYTES
returns-then-bytes-lt-PLAN_BYTES c =
    let a = c.args in
    plan-short a.k _ a.spacing a.ceiling a.bytes.now c.law_of.ensures c.plan-planned.result c.plan-planned.ensures.refusal
    c.in-Ok.is (omega (arith, c.if-bytes-lt-PLAN_BYTES.true))

pub returns : goal.returns
returns c =
    let a = c.args in
    let e = c.plan-planned.ensures in
    plan-done a.k _ a.spacing a.ceiling a.bytes.now c.law_of.ensures c.plan-planned.result e.refusal
    c.in-Ok.is (omega (arith, c.if-bytes-lt-PLAN_BYTES.false)) _
    (rw c.in-Ok.is at e.mask) _ (rw c.in-Ok.is at e.sum) _ c.plan_into.ensures
