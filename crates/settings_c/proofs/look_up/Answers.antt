-- The entry's refusals first, then a short record. Assumes nothing.
use Rattle.settings_c.proofs.Answers.{look-ends}
use Rattle.settings_c.proofs.look_up.Goals as goal

pub returns : goal.returns
returns c =
    let a = c.args in
    let e = c.look_up.ensures in
    let end = c.end_record in
    look-ends a.file.now a.junction a.rec.now c.look_up.result e.refusal e.read end.result end.ensures.answer _ end.ensures.accepted
    end.ensures.refused
