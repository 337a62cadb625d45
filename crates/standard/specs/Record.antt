-- Document 01, 'Bits, octets and the record': 'The record holds a granted bit, the rate number drn, an acknowledge bit, six interval
-- indices and six 128-bit masks.' Assumes nothing.
use Rattle.std.specs.Prelude.{ℕ, ◌+◌, ◌*◌, ◌/◌, ◌%◌, Bool, false, get_or, replicate}
use Rattle.standard.specs.Lists.{largest}
use Rattle.standard.specs.Bits.{bit}
use Rattle.standard.specs.declared.Record.{Record}

-- the index of interval i
abbrev pub index_of : Record → ℕ → ℕ
index_of r i = get_or r.index i 0

-- g, 'the largest of the six indices'
unfoldable pub top_index : Record → ℕ
top_index r = largest (index_of r) 6

-- half h of the masks: the halves of mask m are 2 m and 2 m + 1
abbrev pub half_of : Record → ℕ → ℕ
half_of r h = get_or r.mask h 0

-- 'Bit u of a mask stands for Ucode u, 0 to 127.'
unfoldable pub in_mask : Record → ℕ → ℕ → Bool
in_mask r m u = bit (half_of r (2 * m + u / 64)) (u % 64)

-- 'K = drn + 14'
abbrev pub K : Record → ℕ
K r = r.drn + 14

-- 'a frame carries D = K + 6 bits'
abbrev pub D : Record → ℕ
D r = K r + 6

-- the all-zero record, which stands beside a refusal
unfoldable pub no_record : Record
no_record = record { granted = false; drn = 0; acknowledge = false; index = replicate 6 0; mask = replicate 12 0 }
