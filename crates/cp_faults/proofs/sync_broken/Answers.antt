-- The first 17 bits as one number. Assumes nothing.
use mathlib.Core.Path.{ap, ◌∙◌}
use Prim.Native.Nat.{ℕ}
use mathlib.Core.Bool.{not}
use lib.Dec.{eqb}
use Rattle.standard.specs.Bits.{bit_at}
use Rattle.standard.specs.Refusals.{sync_broken}
use Rattle.cp_faults.proofs.Reading.{ones-test}
use Rattle.cp_faults.proofs.sync_broken.Goals as goal

pub returns : goal.returns
unfolding sync_broken
returns c = ap (λ (x : ℕ). not (eqb x 0x1ffff)) c.field_at.ensures ∙ ones-test (bit_at c.args.cp.now)
