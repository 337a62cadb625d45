-- An answer in one number, as interfaces hand it out. Assumes nothing.
use Rattle.std.specs.Prelude.{ℕ, ◌+◌, ◌*◌, ◌^◌}
use Rattle.standard.specs.First.{Answer}

-- the number of a refusal with its value in bits 24 to 31: for 25 that is '25 + (interval << 24)', for the others the number itself
abbrev pub coded : Answer → ℕ
coded a = a.number + 2 ^ 24 * a.value
