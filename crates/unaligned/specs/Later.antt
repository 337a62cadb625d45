-- Bit strings that begin later, and how two bit strings differ. Assumes nothing.
use Rattle.std.specs.Prelude.{ℕ, zero, suc, ◌+◌, Bool}
use Rattle.standard.specs.Bits.{◌⊕◌, weight}

-- the bit string f from bit `at` on
unfoldable pub later : ℕ → (ℕ → Bool) → ℕ → Bool
later at f n = f (at + n)

-- how many of the k bits from bit p on are not the same in f and in g
unfoldable pub differing : (ℕ → Bool) → (ℕ → Bool) → ℕ → ℕ → ℕ
differing f g p zero = 0
differing f g p (suc k) = differing f g p k + weight (f (p + k) ⊕ g (p + k))
