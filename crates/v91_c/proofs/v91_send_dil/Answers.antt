-- The entry's answer at the law of the flag, and the length of the sequence where it is accepted. Assumes nothing.
use Rattle.v91_c.proofs.Answers.{dil_refused, dil-done}
use Rattle.v91_c.proofs.v91_send_dil.Goals as goal

pub returns-in-Ok : goal.returns-in-Ok
returns-in-Ok c =
    let e = c.send_dil-sent.ensures in
    dil-done _ c.args.octets.now c.law_of.ensures c.send_dil-sent.result e.refusal e.written c.in-Ok.is

pub returns-in-Err : goal.returns-in-Err
returns-in-Err c =
    let e = c.send_dil-sent.ensures in
    dil_refused _ c.args.octets.now c.law_of.ensures c.send_dil-sent.result e.refusal e.written c.in-Err.is c.code_of.ensures
