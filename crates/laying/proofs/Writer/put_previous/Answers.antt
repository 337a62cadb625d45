-- One entry, or none. Assumes nothing.
use native.Mathlib.Omega.{arith}
use Rattle.laying.proofs.Joining.{given_size, given_yes, given_no}
use Rattle.laying.proofs.Writer.put_previous.Goals as goal

pub put_entry-requires-clause-room : goal.put_entry-requires-clause-room
put_entry-requires-clause-room c =
    let a = c.args in
    omega (arith, c.requires.room, given_size a.self.now a.junction a.cp _ c.in-Some.is)

pub returns-in-Some-clause-lays : goal.returns-in-Some-clause-lays
returns-in-Some-clause-lays c =
    let a = c.args in
    given_yes a.self.now a.junction a.cp _ _ c.in-Some.is c.put_entry.ensures.lays

pub returns-in_default-clause-lays : goal.returns-in_default-clause-lays
returns-in_default-clause-lays c =
    let a = c.args in
    given_no a.self.now a.junction a.cp c.in_default.is
