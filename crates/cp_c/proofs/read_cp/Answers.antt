-- The entry's refusals first, then a short record. Assumes nothing.
use Rattle.cp_c.proofs.Answers.{read-ends}
use Rattle.cp_c.proofs.read_cp.Goals as goal

pub returns : goal.returns
returns c =
    let a = c.args in
    let e = c.read_cp.ensures in
    let end = c.end_record in
    read-ends a.cp.now a.bit_count a.rec.now c.read_cp.result e.refusal e.read end.result end.ensures.answer _ end.ensures.accepted
    end.ensures.refused
