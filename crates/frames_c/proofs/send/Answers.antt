-- A short record or line state first, then the entry's answer and the end of the call. Assumes nothing.
use mathlib.Core.Path.{sym, ◌∙◌}
use Rattle.c_calls.proofs.Ends.{both_long}
use Rattle.frames_c.proofs.Answers.{send-short, send-ended}
use Rattle.frames_c.proofs.send.Goals as goal

pub returns-then-lent_short : goal.returns-then-lent_short
returns-then-lent_short c =
    let a = c.args in
    send-short a.rec.now a.a_law a.frames a.control a.sequence a.bits.now a.octets.now a.state.now
    (sym c.lent_short.ensures ∙ c.if-lent_short.true)

pub returns : goal.returns
returns c =
    let a = c.args in
    let r = c.record_from-r in
    let line = c.state_from-line in
    let law = c.law_of in
    let e = c.send-sent.ensures in
    let end = c.end_call in
    send-ended a.rec.now a.a_law a.frames a.control a.sequence a.bits.now a.octets.now a.state.now
    (sym c.lent_short.ensures ∙ c.if-lent_short.false)
    r.result r.ensures line.result line.ensures law.result law.ensures
    c.send-sent.result e.refusal _ e.left _ e.octets
    _ end.ensures.0 _ end.ensures.1

pub record_from-r-requires : goal.record_from-r-requires
record_from-r-requires c = (both_long _ _ (sym c.lent_short.ensures ∙ c.if-lent_short.false)).0

pub state_from-line-requires : goal.state_from-line-requires
state_from-line-requires c = (both_long _ _ (sym c.lent_short.ensures ∙ c.if-lent_short.false)).1

pub end_call-requires : goal.end_call-requires
end_call-requires c = (both_long _ _ (sym c.lent_short.ensures ∙ c.if-lent_short.false)).1
