-- The reader's tests in stages, one function for each. Assumes nothing.
use Rattle.std.specs.Prelude.{ℕ, Bool, not, List, [], ◌∷◌, ◌++◌}
use Rattle.standard.specs.First.{Test, test}
use Rattle.standard.specs.Record.{top_index}
use Rattle.standard.specs.Bits.{bit_at}
use Rattle.standard.specs.Cp.{start_bit_set, crc_matches}
use Rattle.standard.specs.Refusals.{count_exceeds_bytes, count_too_small, sync_broken, index_too_large, length_wrong, fixed_bit_wrong, rate_tests}
use Rattle.standard.specs.declared.Record.{Record}

-- 1 to 3, which need no record
unfoldable pub shape_tests : List ℕ → ℕ → List Test
shape_tests s n = test 1 (count_exceeds_bytes s n) ∷ test 2 (count_too_small n) ∷ test 3 (sync_broken (bit_at s)) ∷ []

-- 5 to 8, at the largest index g
unfoldable pub sequence_tests : (ℕ → Bool) → ℕ → ℕ → List Test
sequence_tests f n g =
    test 5 (length_wrong n g) ∷ test 6 (start_bit_set f g) ∷ test 7 (not (crc_matches f g)) ∷ test 8 (fixed_bit_wrong f) ∷ []

-- 4 on, of the record that was read
unfoldable pub content_tests : (ℕ → Bool) → ℕ → Record → List Test
content_tests f n r = test 4 (index_too_large r) ∷ (sequence_tests f n (top_index r) ++ rate_tests r)
