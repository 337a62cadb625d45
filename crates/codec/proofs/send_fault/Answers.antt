-- The tests before the buffers are looked at, and then those of the buffers. Assumes nothing.
use Rattle.codec.proofs.Entries.{call_refused, send_tests}
use Rattle.codec.proofs.send_fault.Goals as goal

pub returns-in_err-needed : goal.returns-in_err-needed
returns-in_err-needed c =
    let a = c.args in
    call_refused a.r a.state a.frames _ _ c.from_residual.result _ c.from_residual.ensures.1 c.in_err-needed.ensures.refusal

pub returns : goal.returns
returns c =
    let a = c.args in
    let needed = c.in_ok-needed.ensures in
    send_tests a.r a.state a.frames a.control needed.refusal needed.bytes needed.octets a.bytes a.octets c.buffer_fault.ensures
