-- A short record or line state first, then the entry's answer. Assumes nothing.
use mathlib.Core.Path.{sym, ◌∙◌}
use Rattle.standard.specs.Calls.{cp_call}
use Rattle.c_calls.proofs.Ends.{both_long, count_below}
use Rattle.cp_c.proofs.Answers.{octets-fit, send-cp-short, send-cp-done, send-cp-refused}
use Rattle.cp_c.proofs.send_cp.Goals as goal
use Rattle.cp_c.proofs.send_cp.Goals.{then-is_ok, else-is_ok}

pub returns-then-lent_short : goal.returns-then-lent_short
returns-then-lent_short c =
    let a = c.args in
    send-cp-short a.rec.now a.a_law a.octets.now a.state.now (sym c.lent_short.ensures ∙ c.if-lent_short.true)

pub end_count-requires : goal.end_count-requires
end_count-requires c =
    count_below c.send_cp-sent.result c.send_cp-sent.ensures.count
    (octets-fit c.state_from-line.result (cp_call c.record_from-r.result c.law_of.result c.args.octets.now))

pub returns : goal.returns
returns c =
    let a = c.args in
    let long = sym c.lent_short.ensures ∙ c.if-lent_short.false in
    let sent = c.send_cp-sent in
    let ok = sym c.is_ok.ensures.value in
    let end = c.end_count in
    elim c.if-is_ok.branch [
      | then-is_ok w ↦
          send-cp-done a.rec.now a.a_law a.octets.now a.state.now long c.record_from-r.ensures c.state_from-line.ensures c.law_of.ensures
          sent.result sent.ensures.refusal (ok ∙ w.if-is_ok.true) sent.ensures.count sent.ensures.octets _ sent.ensures.left _
          (w.state-is ∙ w.line_into.ensures) end.result end.ensures.counted
      | else-is_ok w ↦
          send-cp-refused a.rec.now a.a_law a.octets.now a.state.now long c.record_from-r.ensures c.state_from-line.ensures c.law_of.ensures
          sent.result sent.ensures.refusal (ok ∙ w.if-is_ok.false) sent.ensures.octets _ w.state-is end.result end.ensures.refused
    ]

pub record_from-r-requires : goal.record_from-r-requires
record_from-r-requires c = (both_long _ _ (sym c.lent_short.ensures ∙ c.if-lent_short.false)).0

pub state_from-line-requires : goal.state_from-line-requires
state_from-line-requires c = (both_long _ _ (sym c.lent_short.ensures ∙ c.if-lent_short.false)).1

pub line_into-requires : goal.line_into-requires
line_into-requires c = (both_long _ _ (sym c.lent_short.ensures ∙ c.if-lent_short.false)).1
