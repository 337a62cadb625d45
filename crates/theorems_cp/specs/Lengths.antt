-- Document 01, 'CP': the lengths of a CP as printed. Assumes nothing.
use Rattle.std.specs.Prelude.{◌≡◌, [], ◌∷◌}
use Rattle.standard.specs.Lists.{list_from}
use Rattle.standard.specs.Cp.{cp_length, cp_byte_count}

pub record LengthsAsPrinted : Type 0 where
  -- 'Lengths for g from 0 to 5 are 294, 426, 564, 702, 834 and 972 bits,
  pub bits : list_from cp_length 0 6 ≡ 294 ∷ 426 ∷ 564 ∷ 702 ∷ 834 ∷ 972 ∷ []
  -- which is 37, 54, 71, 88, 105 and 122 bytes.'
  pub bytes : list_from cp_byte_count 0 6 ≡ 37 ∷ 54 ∷ 71 ∷ 88 ∷ 105 ∷ 122 ∷ []
