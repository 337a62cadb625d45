-- A frame's bits on the line, as code joins them. Assumes nothing.
use Rattle.std.specs.Prelude.{ℕ, ◌+◌, ◌*◌, Option, Some, None}

-- the number of a frame's bits on the line: those of a control frame are its six control bits, and then its scrambled bits
abbrev pub joined : Option ℕ → ℕ → ℕ
joined (Some six) bits = six + 64 * bits
joined None bits = bits
