-- A short record or line state first, then a short buffer for what is heard, then the entry's answer and the end of the call. Assumes
-- nothing.
use mathlib.Core.Path.{sym, ◌∙◌}
use native.Mathlib.Omega.{arith}
use Rattle.standard.specs.Calls.{receive_refusal}
use Rattle.c_calls.proofs.Ends.{both_long}
use Rattle.frames_c.proofs.Answers.{receive-short, receive-unheard, receive-ended}
use Rattle.frames_c.proofs.receive.Goals as goal

pub returns-then-lent_short : goal.returns-then-lent_short
returns-then-lent_short c =
    let a = c.args in
    receive-short a.rec.now a.a_law a.frames a.control a.octets.now a.bits.now a.marks.now a.heard.now
    a.state.now
    (sym c.lent_short.ensures ∙ c.if-lent_short.true)

pub returns-then-heard-lt-HEARD_BYTES : goal.returns-then-heard-lt-HEARD_BYTES
unfolding receive_refusal
returns-then-heard-lt-HEARD_BYTES c =
    let a = c.args in
    let r = c.record_from-r in
    let line = c.state_from-line in
    let fault = c.receive_fault in
    receive-unheard a.rec.now a.a_law a.frames a.control a.octets.now a.bits.now a.marks.now a.heard.now
    a.state.now
    (sym c.lent_short.ensures ∙ c.if-lent_short.false) r.result r.ensures line.result line.ensures fault.result
    (omega (arith, c.if-heard-lt-HEARD_BYTES.true)) (λ l. fault.ensures) _ c.unheard.ensures

pub returns : goal.returns
returns c =
    let a = c.args in
    let r = c.record_from-r in
    let line = c.state_from-line in
    let law = c.law_of in
    let e = c.receive-said.ensures in
    let heard = c.end_heard in
    let end = c.end_call in
    receive-ended a.rec.now a.a_law a.frames a.control a.octets.now a.bits.now a.marks.now a.heard.now
    a.state.now
    (sym c.lent_short.ensures ∙ c.if-lent_short.false) r.result r.ensures line.result line.ensures
    (omega (arith, c.if-heard-lt-HEARD_BYTES.false)) law.result law.ensures c.receive-said.result e.refusal _ e.left e.said _ e.bytes _ e.marks
    _ end.ensures.0 _ heard.ensures.accepted heard.ensures.refused _ end.ensures.1

pub record_from-r-requires : goal.record_from-r-requires
record_from-r-requires c = (both_long _ _ (sym c.lent_short.ensures ∙ c.if-lent_short.false)).0

pub state_from-line-requires : goal.state_from-line-requires
state_from-line-requires c = (both_long _ _ (sym c.lent_short.ensures ∙ c.if-lent_short.false)).1

pub end_call-requires : goal.end_call-requires
end_call-requires c = (both_long _ _ (sym c.lent_short.ensures ∙ c.if-lent_short.false)).1
