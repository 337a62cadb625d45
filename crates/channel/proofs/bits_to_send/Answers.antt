-- The sequence is put in where one starts, and then six of its bits are read. Assumes nothing.
use mathlib.Core.Path.{ap, ◌∙◌}
use Prim.Native.Nat.{ℕ}
use Rattle.std.specs.Prelude.{Some}
use Rattle.standard.proofs.Bits.{field_lt}
use Rattle.channel.proofs.bits_to_send.Goals as goal

pub returns-then-control : goal.returns-then-control
returns-then-control c =
    let six = c.field_at.ensures in
    (c.start.ensures, ap (λ (x : ℕ). Some x) six ∙ rw c.if-control.true, rw six (field_lt _ _ 6))

pub returns : goal.returns
returns c = (c.start.ensures, rw c.if-control.false, tt)
