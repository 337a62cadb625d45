-- How many data bits a frame has. Assumes nothing.
use mathlib.Core.Path.{◌≡◌, ap}
use Prim.Native.Nat.{ℕ, ◌≤◌}
use mathlib.Core.Bool.{Bool, true, false, cond}
use native.Mathlib.Omega.{arith}
use Rattle.standard.specs.declared.Record.{Record}
use Rattle.mapping.specs.declared.Mapping.{Mapping}
use Rattle.mapping.specs.Tables.{mapping_of}
use Rattle.mapping.proofs.Tables.{number-le, width-le, width_ge}

-- the data bits of a frame
pub width_in : (r : Record) (m : Mapping) → m ≡ mapping_of r → r.drn ≤ 28 → (b : Bool) (k : ℕ) → k ≡ cond b m.k m.d → (14 ≤ k) ×
    (k ≤ 48)
width_in r m em rate true k e = (omega (arith, ap (λ (y : Mapping). y.k) em), omega (arith, number-le r m em rate))
width_in r m em rate false k e = (omega (arith, width_ge r m em), omega (arith, width-le r m em rate))
