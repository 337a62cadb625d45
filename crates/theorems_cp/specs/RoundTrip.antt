-- Document 01, 'CP': 'Writing then reading returns the record. Reading then writing returns the 37 to 122 bytes exactly where all ignored
-- bits were zero. The reader returns the record, the writer the bit count.' Assumes nothing.
use Rattle.std.specs.Prelude.{◌≡◌, ℕ, ◌*◌, ◌^◌, ◌≤◌, ◌<◌, Bool, true, false, ◌||◌, List, eqb, length, get_or, take}
use Rattle.standard.specs.Bits.{bit_at}
use Rattle.standard.specs.Record.{top_index, half_of}
use Rattle.standard.specs.Cp.{cp_byte_count, within, ignored}
use Rattle.standard.specs.Calls.{accepted, over, ReadCall, read_refusal, read_record, WriteCall, write_refusal, write_bit_count, write_bytes}
use Rattle.standard.specs.declared.Record.{Record}

-- what the type Record says of its arrays: [u8; 6] and [u64; 12]
pub record Shaped (r : Record) : Type 0 where
  pub indices : length r.index ≡ 6
  pub halves : length r.mask ≡ 12
  pub words : (h : ℕ) → half_of r h < 2 ^ 64

-- what a call of the writer left, handed to the reader with the bit count answered
abbrev pub read_back : WriteCall → ReadCall
read_back c = record { bytes = write_bytes c; bit_count = write_bit_count c }

abbrev pub WriteThenRead : Type 0
WriteThenRead =
    (c : WriteCall) → Shaped c.cp → accepted (write_refusal c) ≡ true
    → (accepted (read_refusal (read_back c)) ≡ true) × (read_record (read_back c) ≡ c.cp)

-- what a call of the reader answered, handed to the writer with a buffer
abbrev pub write_back : ReadCall → List ℕ → WriteCall
write_back c buffer = record { cp = read_record c; bytes = buffer }

abbrev pub read_top : ReadCall → ℕ
read_top c = top_index (read_record c)

-- 'all ignored bits were zero', in the bytes of a CP whose largest index is g
abbrev pub IgnoredZero : List ℕ → ℕ → Type 0
IgnoredZero s g = (n : ℕ) → n < 8 * cp_byte_count g → ignored g n ≡ true → bit_at s n ≡ false

abbrev pub ReadThenWrite : Type 0
ReadThenWrite =
    (c : ReadCall) → ((i : ℕ) → get_or c.bytes i 0 < 256) → accepted (read_refusal c) ≡ true → IgnoredZero c.bytes (read_top c)
    → (buffer : List ℕ) → cp_byte_count (read_top c) ≤ length buffer
    → (accepted (write_refusal (write_back c buffer)) ≡ true)
    × (write_bytes (write_back c buffer) ≡ over (take (cp_byte_count (read_top c)) c.bytes) buffer)
    × (write_bit_count (write_back c buffer) ≡ c.bit_count)

-- 'exactly where': and only where they were
abbrev pub OnlyWhereZero : Type 0
OnlyWhereZero =
    (c : ReadCall) → accepted (read_refusal c) ≡ true → (buffer : List ℕ) → cp_byte_count (read_top c) ≤ length buffer
    → write_bytes (write_back c buffer) ≡ over (take (cp_byte_count (read_top c)) c.bytes) buffer → IgnoredZero c.bytes (read_top c)

-- bits '30:32, 128'
abbrev pub cleared : ℕ → Bool
cleared n = within 30 32 n || eqb n 128

-- 'The writer puts 1 in bit 19 and 0 in 30:32, 128 and all reserved, fill and last-byte padding bits.'
pub record Puts (s : List ℕ) (g : ℕ) : Type 0 where
  pub one : bit_at s 19 ≡ true
  pub zeros : (n : ℕ) → cleared n ≡ true → bit_at s n ≡ false
  pub ignored_zero : IgnoredZero s g

abbrev pub WriterPuts : Type 0
WriterPuts = (c : WriteCall) → accepted (write_refusal c) ≡ true → Puts (write_bytes c) (top_index c.cp)
