-- The stage of the record's tests, then that of 13 to 15. Assumes nothing.
use Rattle.standard.specs.Refusals.{record_tests, line_tests}
use Rattle.standard.proofs.Refusals.{record_numbered}
use Rattle.standard.proofs.Stages.{stage_past}
use Rattle.faults.proofs.Faults.{stage_hands_on}
use Rattle.needs.proofs.call_fault.Goals as goal

pub returns-in_err-record_fault : goal.returns-in_err-record_fault
returns-in_err-record_fault c =
    let a = c.args in
    stage_hands_on c.from_residual.result _ (record_tests a.r) (line_tests a.r a.state a.frames) c.from_residual.ensures.1
    c.in_err-record_fault.ensures

pub returns : goal.returns
returns c =
    let a = c.args in
    let o = c.record_fault in
    stage_past o.result (record_tests a.r) (line_tests a.r a.state a.frames) (record_numbered a.r)
    c.in_ok-record_fault.was o.ensures c.line_fault.ensures
