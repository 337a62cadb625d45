-- What is said of a control sequence in 8 bytes: its kind, then the 56 bits of a sequence heard, low byte first, and zeros where none is.
-- Assumes nothing.
use Rattle.std.specs.Prelude.{ℕ, ◌-◌, ◌*◌, ◌/◌, ◌%◌, ◌^◌, cond, List, ltb}
use Rattle.standard.specs.Lists.{list_from}
use Rattle.standard.specs.declared.Said.{Said}
use Rattle.standard.specs.declared.Said.TheVariants.{Nothing, Sequence, FrameLost, PatternWrong, CrcWrong}

-- none 0, heard 1, frame lost 2, pattern wrong 3, CRC wrong 4
unfoldable pub said_kind : Said → ℕ
said_kind Nothing = 0
said_kind (Sequence w) = 1
said_kind FrameLost = 2
said_kind PatternWrong = 3
said_kind CrcWrong = 4

unfoldable pub said_bits : Said → ℕ
said_bits Nothing = 0
said_bits (Sequence w) = w
said_bits FrameLost = 0
said_bits PatternWrong = 0
said_bits CrcWrong = 0

-- byte k
unfoldable pub heard_byte : Said → ℕ → ℕ
heard_byte x k = cond (ltb k 1) (said_kind x) (said_bits x / 2 ^ (8 * (k - 1)) % 256)

abbrev pub heard_length : ℕ
heard_length = 8

unfoldable pub heard_bytes : Said → List ℕ
heard_bytes x = list_from (heard_byte x) 0 heard_length
