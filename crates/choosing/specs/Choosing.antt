-- A choice of points on its way up the Ucodes, as the code has it. Assumes nothing.
use Rattle.std.specs.Prelude.{◌≡◌, ℕ}
use Rattle.standard.specs.Plan.{Choice, linear_values, sum_of_squares, choice_at, lowest_mask}
use Rattle.standard.specs.declared.Law.{Law}
use Rattle.choosing.specs.declared.Chosen.{Chosen}

-- what of it the definition has
abbrev pub choice_of : Chosen → Choice
choice_of c = record { floor = c.floor; wanted = c.wanted }

-- the choice before Ucode u, where M points are wanted, and the sum of squares of those taken
pub record Before (l : Law) (d M u : ℕ) (c : Chosen) : Type 0 where
  pub choice : choice_of c ≡ choice_at l d M u
  pub sum_is : c.sum ≡ sum_of_squares (linear_values l (lowest_mask l d M) u)
