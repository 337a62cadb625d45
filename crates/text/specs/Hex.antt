-- Bytes as lowercase hexadecimal text, two characters a byte, the high digit first. Assumes nothing.
use Rattle.std.specs.Prelude.{ℕ, ◌+◌, ◌*◌, ◌-◌, ◌/◌, ◌%◌, cond, List, eqb, ltb, get_or}

-- the value of a digit: '0' is 48, 'a' is 97
unfoldable pub digit_value : ℕ → ℕ
digit_value c = cond (ltb c 97) (c - 48) (c - 87) % 16

-- the digit of a value below 16
unfoldable pub digit_of : ℕ → ℕ
digit_of v = cond (ltb v 10) (48 + v) (87 + v)

-- byte k of a text
abbrev pub byte_in : List ℕ → ℕ → ℕ
byte_in text k = 16 * digit_value (get_or text (2 * k) 0) + digit_value (get_or text (2 * k + 1) 0)

-- character k of the text of bytes
abbrev pub char_of : List ℕ → ℕ → ℕ
char_of bytes k = let b = get_or bytes (k / 2) 0 in digit_of (cond (eqb (k % 2) 0) (b / 16) (b % 16))
