-- Count, start and version byte, one behind the other. Assumes nothing.
use native.Mathlib.Omega.{arith}
use Rattle.rewriting.proofs.Afresh.{trailer-laid}
use Rattle.rewriting.proofs.put_trailer.Goals as goal

pub returns-clause-lays : goal.returns-clause-lays
returns-clause-lays c =
    let a = c.args in
    let p = a.writer.now in
    trailer-laid p.out.now _ _ _ p.spot.to a.count p.spot.before a.form.start a.form.count a.form.byte _ c.from.ensures (omega arith)
    (omega arith)
    c.put_number.ensures
    c.put_number-2.ensures c.put_number-3.ensures
