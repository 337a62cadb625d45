-- The first refusal, or the frames sent. Assumes nothing.
use mathlib.Core.Path.{◌∙◌}
use Rattle.needs.proofs.Faults.{handed_on}
use Rattle.codec.proofs.Entries.{send_tested, send_kept, send_allowed, send-left, send-octets}
use Rattle.codec.proofs.send.Goals as goal

-- a refused call leaves the octets and the state as they were

pub returns-in_err-send_fault-clause-octets : goal.returns-in_err-send_fault-clause-octets
returns-in_err-send_fault-clause-octets c =
    let a = c.args in
    (send_kept a.r a.law a.frames a.control a.word a.state.now a.bytes.now a.octets.now _ c.in_err-send_fault.ensures).1

pub returns-in_err-send_fault-clause-left : goal.returns-in_err-send_fault-clause-left
returns-in_err-send_fault-clause-left c =
    let a = c.args in
    (send_kept a.r a.law a.frames a.control a.word a.state.now a.bytes.now a.octets.now _ c.in_err-send_fault.ensures).0

pub returns-in_err-send_fault-clause-refusal : goal.returns-in_err-send_fault-clause-refusal
returns-in_err-send_fault-clause-refusal c =
    let a = c.args in
    handed_on {X = Unit {0}} c.from_residual.result _ c.from_residual.ensures.1
    ∙ send_tested a.r a.law a.frames a.control a.word a.state.now a.bytes.now a.octets.now c.in_err-send_fault.ensures

pub send_frames-requires : goal.send_frames-requires
send_frames-requires c =
    let a = c.args in
    send_allowed a.r a.law a.frames a.control a.word a.state.now a.bytes.now a.octets.now c.in_ok-send_fault.ensures

pub returns-clause-refusal : goal.returns-clause-refusal
returns-clause-refusal c =
    let a = c.args in
    send_tested a.r a.law a.frames a.control a.word a.state.now a.bytes.now a.octets.now c.in_ok-send_fault.ensures

pub returns-clause-left : goal.returns-clause-left
returns-clause-left c =
    let a = c.args in
    send-left a.r a.law a.frames a.control a.word a.state.now a.bytes.now a.octets.now c.in_ok-send_fault.ensures _ c.send_frames.ensures.0

pub returns-clause-octets : goal.returns-clause-octets
returns-clause-octets c =
    let a = c.args in
    send-octets a.r a.law a.frames a.control a.word a.state.now a.bytes.now a.octets.now c.in_ok-send_fault.ensures _ c.send_frames.ensures.1
