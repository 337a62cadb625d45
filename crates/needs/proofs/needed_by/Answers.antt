-- Where no test of the call applies, N is at most 1,024 and D at most 42 + 6. Assumes nothing.
use native.Mathlib.Omega.{arith}
use Rattle.needs.proofs.Faults.{rate_passed, frames_passed, place_passed}
use Rattle.needs.proofs.needed_by.Goals as goal

pub data_bytes-requires : goal.data_bytes-requires
data_bytes-requires c =
    let a = c.args in
    let o = c.call_fault in
    let told = c.in_ok-call_fault.was in (
      rate_passed a.r a.state a.frames o.result told o.ensures,
      place_passed a.r a.state a.frames o.result told o.ensures,
      frames_passed a.r a.state a.frames o.result told o.ensures,
    )

pub overflow_mul-result : goal.overflow_mul-result
overflow_mul-result c = omega (arith, frames_passed c.args.r c.args.state c.args.frames c.call_fault.result c.in_ok-call_fault.was c.call_fault.ensures)
