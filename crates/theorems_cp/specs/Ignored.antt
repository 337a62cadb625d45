-- Document 01, 'CP': 'The reader ignores reserved bits (..), fill and padding.' Two calls of the reader whose bytes differ in these.
-- Assumes nothing.
use Rattle.std.specs.Prelude.{◌≡◌, ℕ, ◌+◌, ◌<◌, true, false, ◌||◌}
use Rattle.standard.specs.Bits.{bit_at}
use Rattle.standard.specs.Record.{top_index}
use Rattle.standard.specs.Cp.{gamma, record_in, crc_matches, within, ignored}
use Rattle.standard.specs.Refusals.{count_exceeds_bytes}
use Rattle.standard.specs.Calls.{accepted, ReadCall, read_refusal, read_record}

-- the largest of the six indices that stand in the bytes, 0 to 15
abbrev pub top_read : ReadCall → ℕ
top_read c = top_index (record_in (bit_at c.bytes))

-- bit n is the same in both
abbrev pub SameBit : ReadCall → ReadCall → ℕ → Type 0
SameBit c d n = bit_at c.bytes n ≡ bit_at d.bytes n

-- every bit below 289 + γ is the same in both: fill and padding follow it
abbrev pub SameButFill : ReadCall → ReadCall → Type 0
SameButFill c d = (n : ℕ) → n < 289 + gamma (top_read c) → SameBit c d n

-- every bit that is neither ignored nor in the CRC is the same in both
abbrev pub SameButIgnored : ReadCall → ReadCall → Type 0
SameButIgnored c d =
    let γ = gamma (top_read c) in
    (n : ℕ) → ignored (top_read c) n || within (273 + γ) (288 + γ) n ≡ false → SameBit c d n

-- one bit count, and 1 applies to both or to neither
abbrev pub SameCount : ReadCall → ReadCall → Type 0
SameCount c d =
    (c.bit_count ≡ d.bit_count) × (count_exceeds_bytes c.bytes c.bit_count ≡ count_exceeds_bytes d.bytes d.bit_count)

-- 7 applies to both or to neither: the CRC takes the reserved bits too
abbrev pub SameMatch : ReadCall → ReadCall → Type 0
SameMatch c d = crc_matches (bit_at c.bytes) (top_read c) ≡ crc_matches (bit_at d.bytes) (top_read d)

-- both get the same refusal or none, and the same record
abbrev pub SameRead : ReadCall → ReadCall → Type 0
SameRead c d = (read_refusal c ≡ read_refusal d) × (read_record c ≡ read_record d)

pub record ReaderIgnores : Type 0 where
  -- fill and padding
  pub fill : (c d : ReadCall) → SameCount c d → SameButFill c d → SameRead c d
  -- all ignored bits
  pub all : (c d : ReadCall) → SameCount c d → SameMatch c d → SameButIgnored c d → SameRead c d
  -- so two calls that are accepted give one record
  pub one_record : (c d : ReadCall) → SameButIgnored c d → accepted (read_refusal c) ≡ true → accepted (read_refusal d) ≡ true
      → read_record c ≡ read_record d
