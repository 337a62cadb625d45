-- A put once the record's own refusals are past: its CP; and the CPs of a junction by their numbers. Only proofs and inner contracts cite it. Assumes nothing.
use Rattle.std.specs.Prelude.{ℕ, ◌+◌, cond, ltb, List, [], ◌∷◌}
use Rattle.std.proofs.Math.Option.{Option, none, some}
use Rattle.standard.specs.First.{Answer, Test, first}
use Rattle.standard.specs.Settings.{put_file, file_broken, too_many_junctions, no_room}
use Rattle.places.specs.declared.Found.{Found}
use Rattle.places.specs.Finding.{cp_number}

unfoldable pub cp_put_tests : List ℕ → ℕ → List ℕ → ℕ → List Test
cp_put_tests s j cp room = file_broken s ∷ too_many_junctions s j cp ∷ no_room room (put_file s j cp) ∷ []

unfoldable pub cp_put_refusal : List ℕ → ℕ → List ℕ → ℕ → Answer
cp_put_refusal s j cp room = first (cp_put_tests s j cp room)

-- the CP of the entry of that number among those of the junction
abbrev pub number_shown : Found → ℕ → Option (List ℕ)
number_shown r n = cond (ltb (r.below + n) r.upto) (some (cp_number r.entries (r.below + n))) none
