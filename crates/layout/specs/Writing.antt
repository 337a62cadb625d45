-- Fields as the writer's code puts them into bytes. Assumes nothing.
use Rattle.std.specs.Prelude.{ℕ, ◌+◌, ◌*◌, ◌/◌, ◌%◌, ◌^◌, List, [], ◌∷◌, get_or}
use Rattle.standard.specs.Cp.{Field}
use Rattle.bits.specs.PutField.{put_field}

-- these fields put into the bytes s, the last of them first
unfoldable pub put_fields : List ℕ → List Field → List ℕ
put_fields s [] = s
put_fields s (x ∷ xs) = put_field (put_fields s xs) x.at x.width x.value

-- run c of mask m, from the halves: 16 bits of half 2 m + c / 4
abbrev pub run_of : List ℕ → ℕ → ℕ → ℕ
run_of mask m c = get_or mask (2 * m + c / 4) 0 / 2 ^ (16 * (c % 4)) % 2 ^ 16
