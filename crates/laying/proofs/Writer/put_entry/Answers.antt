-- Five pieces, one behind the other. Assumes nothing.
use mathlib.Core.Path.{refl, ap, ◌∙◌}
use Prim.Native.Nat.{ℕ, ◌+◌}
use native.Mathlib.Omega.{arith}
use Rattle.standard.specs.Settings.{little, entry}
use Rattle.laying.specs.Laying.{laid}
use Rattle.laying.proofs.Joining.{five, lays_one}
use Rattle.laying.proofs.Writer.put_entry.Goals as goal

pub returns-clause-lays : goal.returns-clause-lays
unfolding entry
returns-clause-lays c =
    let a = c.args in
    let p = a.self.now in
    record {
      lays = lays_one p.start p.out.now p.spot (record { junction = a.junction; kind = a.kind; cp = a.cp.now }) _ _
          (five p.out.now _ _ _ _ _ a.cp.now p.spot.to p.start p.spot.before a.junction a.kind (omega arith) (omega arith)
          (omega arith)
          c.put_number.ensures
          (c.put_number-2.ensures ∙ ap (λ (k : ℕ). laid c.put_number.new.out (p.spot.to + 2) (little 1 k)) c.from.ensures)
          c.put_number-3.ensures
          c.copy_bytes.ensures
          c.put_number-4.ensures)
          (omega arith);
      start = refl;
    }
