-- Reciprocals of sizes, by which the modulus encoder divides. Assumes nothing.
use Rattle.std.specs.Prelude.{ℕ, zero, suc, ◌+◌, ◌/◌, List, get_or}

-- 2 ^ 28 / M rounded up, and 0 where M is 0
unfoldable pub reciprocal : ℕ → ℕ
reciprocal zero = 0
reciprocal (suc M) = 0xfffffff / suc M + 1

-- that of size i
abbrev pub reciprocal_of : List ℕ → ℕ → ℕ
reciprocal_of Ms i = reciprocal (get_or Ms i 0)
