-- The six lengths follow from the bytes. Assumes nothing.
use mathlib.Core.Path.{ap}
use Prim.Native.Nat.{ℕ, ◌/◌}
use Rattle.standard.specs.Settings.{bit_count_of}
use Rattle.standard.specs.Cp.{cp_length}
use Rattle.rules.proofs.bit_count_of.Goals as goal

pub returns-clause-value : goal.returns-clause-value
unfolding bit_count_of
returns-clause-value c = ap (λ (m : ℕ). cp_length (m / 17)) c.saturating_sub.ensures
