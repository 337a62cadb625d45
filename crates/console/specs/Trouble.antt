-- What ended a stream before its input did. Assumes nothing.
use Rattle.std.specs.Prelude.{Bool, true, false, Result, Ok, Err}
use Rattle.console.specs.declared.trouble.Trouble.{Trouble}

-- nothing more can be written to its output
abbrev pub is_over : Result (Unit {0}) Trouble → Bool
is_over (Ok done) = false
is_over (Err (Trouble.Reading error)) = false
is_over (Err (Trouble.Writing error)) = true
is_over (Err (Trouble.Refused refusal)) = true
