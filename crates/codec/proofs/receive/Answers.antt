-- The first refusal, or the frames received. Assumes nothing.
use mathlib.Core.Path.{◌∙◌}
use Rattle.standard.specs.declared.Said.{Said}
use Rattle.needs.proofs.Faults.{handed_on}
use Rattle.codec.proofs.Entries.{receive_tested, receive_state_kept, receive_bytes_kept, receive_marks_kept, receive_allowed}
use Rattle.codec.proofs.Entries.{receive-left, receive-said, receive-bytes, receive-marks}
use Rattle.codec.proofs.receive.Goals as goal

-- a refused call leaves the marks, the bytes and the state as they were

pub returns-in_err-receive_fault-clause-marks : goal.returns-in_err-receive_fault-clause-marks
returns-in_err-receive_fault-clause-marks c =
    let a = c.args in
    receive_marks_kept a.r a.law a.frames a.control a.state.now a.octets.now a.bytes.now a.marks.now _ c.in_err-receive_fault.ensures

pub returns-in_err-receive_fault-clause-bytes : goal.returns-in_err-receive_fault-clause-bytes
returns-in_err-receive_fault-clause-bytes c =
    let a = c.args in
    receive_bytes_kept a.r a.law a.frames a.control a.state.now a.octets.now a.bytes.now a.marks.now _ c.in_err-receive_fault.ensures

pub returns-in_err-receive_fault-clause-left : goal.returns-in_err-receive_fault-clause-left
returns-in_err-receive_fault-clause-left c =
    let a = c.args in
    receive_state_kept a.r a.law a.frames a.control a.state.now a.octets.now a.bytes.now a.marks.now _ c.in_err-receive_fault.ensures

pub returns-in_err-receive_fault-clause-refusal : goal.returns-in_err-receive_fault-clause-refusal
returns-in_err-receive_fault-clause-refusal c =
    let a = c.args in
    handed_on {X = Said} c.from_residual.result _ c.from_residual.ensures.1
    ∙ receive_tested a.r a.law a.frames a.control a.state.now a.octets.now a.bytes.now a.marks.now c.in_err-receive_fault.ensures

pub receive_frames-heard-requires : goal.receive_frames-heard-requires
receive_frames-heard-requires c =
    let a = c.args in
    receive_allowed a.r a.law a.frames a.control a.state.now a.octets.now a.bytes.now a.marks.now c.in_ok-receive_fault.ensures

pub returns-clause-refusal : goal.returns-clause-refusal
returns-clause-refusal c =
    let a = c.args in
    receive_tested a.r a.law a.frames a.control a.state.now a.octets.now a.bytes.now a.marks.now c.in_ok-receive_fault.ensures

pub returns-clause-left : goal.returns-clause-left
returns-clause-left c =
    let a = c.args in
    receive-left a.r a.law a.frames a.control a.state.now a.octets.now a.bytes.now a.marks.now c.in_ok-receive_fault.ensures _ c.receive_frames-heard.ensures.0

pub returns-clause-said : goal.returns-clause-said
returns-clause-said c =
    let a = c.args in
    receive-said a.r a.law a.frames a.control a.state.now a.octets.now a.bytes.now a.marks.now c.in_ok-receive_fault.ensures _ c.receive_frames-heard.ensures.1

pub returns-clause-bytes : goal.returns-clause-bytes
returns-clause-bytes c =
    let a = c.args in
    receive-bytes a.r a.law a.frames a.control a.state.now a.octets.now a.bytes.now a.marks.now c.in_ok-receive_fault.ensures _ c.receive_frames-heard.ensures.2

pub returns-clause-marks : goal.returns-clause-marks
returns-clause-marks c =
    let a = c.args in
    receive-marks a.r a.law a.frames a.control a.state.now a.octets.now a.bytes.now a.marks.now c.in_ok-receive_fault.ensures _ c.receive_frames-heard.ensures.3
