-- A short line state first, then the entry's answer. Assumes nothing.
use mathlib.Core.Path.{sym, ◌∙◌}
use Rattle.cp_c.proofs.Answers.{find-short, find-done, find-refused}
use Rattle.cp_c.proofs.find_state.Goals as goal
use Rattle.cp_c.proofs.find_state.Goals.{then-is_ok, else-is_ok}

pub returns-then-state-lt-STATE_BYTES : goal.returns-then-state-lt-STATE_BYTES
returns-then-state-lt-STATE_BYTES c = let a = c.args in find-short a.octets.now a.state.now c.if-state-lt-STATE_BYTES.true

pub returns : goal.returns
returns c =
    let a = c.args in
    let found = c.find_state-found in
    let ok = sym c.is_ok.ensures.value in
    elim c.if-is_ok.branch [
      | then-is_ok w ↦
          find-done a.octets.now a.state.now c.if-state-lt-STATE_BYTES.false c.state_from-line.ensures found.result found.ensures.refusal
          (ok ∙ w.if-is_ok.true) _ found.ensures.left _ (w.state-is ∙ w.line_into.ensures) _ c.code_of.ensures
      | else-is_ok w ↦
          find-refused a.octets.now a.state.now c.if-state-lt-STATE_BYTES.false c.state_from-line.ensures found.result found.ensures.refusal
          (ok ∙ w.if-is_ok.false) _ w.state-is _ c.code_of.ensures
    ]
