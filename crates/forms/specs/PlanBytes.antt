-- What the planner gives in 24 bytes: the mask's two halves, then its sum of squares, eight bytes each, low byte first. Assumes nothing.
use Rattle.std.specs.Prelude.{ℕ, List, [], ◌∷◌, get_or}
use Rattle.standard.specs.Lists.{list_from}
use Rattle.forms.specs.RecordBytes.{half_byte}

abbrev pub plan_length : ℕ
plan_length = 24

unfoldable pub plan_bytes : List ℕ → ℕ → List ℕ
plan_bytes halves sum = list_from (half_byte (get_or halves 0 0 ∷ get_or halves 1 0 ∷ sum ∷ [])) 0 plan_length
