-- The data of a control sequence in digits. Assumes nothing.
use Rattle.std.specs.Prelude.{ℕ, ◌+◌, List}
use Rattle.standard.specs.Lists.{list_from}
use Rattle.standard.specs.Bits.{weight, bit}

-- the character of digit k is that of 0 or 1, by bit k + 2 of the word: bits 0 and 1 are cleardown and retrain
unfoldable pub digits_of : ℕ → ℕ → List ℕ
digits_of w n = list_from (λ k. 48 + weight (bit w (k + 2))) 0 n
