-- A record in 105 bytes: granted, drn, acknowledge, the six indices, then the twelve mask halves, eight bytes each, low byte first. Assumes
-- nothing.
use Rattle.std.specs.Prelude.{ℕ, ◌+◌, ◌*◌, ◌-◌, ◌/◌, ◌%◌, ◌^◌, cond, List, ltb, get_or}
use Rattle.standard.specs.Lists.{list_from}
use Rattle.standard.specs.Bits.{weight, positive, bit_at, field}
use Rattle.standard.specs.Record.{index_of}
use Rattle.standard.specs.declared.Record.{Record}

-- byte k of the mask halves
abbrev pub half_byte : List ℕ → ℕ → ℕ
half_byte mask k = get_or mask (k / 8) 0 / 2 ^ (8 * (k % 8)) % 256

-- byte k of a record
unfoldable pub record_byte : Record → ℕ → ℕ
record_byte r k =
    cond (ltb k 1) (weight r.granted)
    (cond (ltb k 2) r.drn (cond (ltb k 3) (weight r.acknowledge) (cond (ltb k 9) (index_of r (k - 3)) (half_byte r.mask (k - 9)))))

abbrev pub record_length : ℕ
record_length = 105

unfoldable pub record_bytes : Record → List ℕ
record_bytes r = list_from (record_byte r) 0 record_length

-- index i
abbrev pub index_at : List ℕ → ℕ → ℕ
index_at s i = get_or s (3 + i) 0

-- half h: the 64 bits from byte 9 + 8 h on
abbrev pub half_at : List ℕ → ℕ → ℕ
half_at s h = field (bit_at s) (72 + 64 * h) 64

-- the record in the bytes s; a flag is set where its byte is not 0
unfoldable pub record_at : List ℕ → Record
record_at s =
    record {
      granted = positive (get_or s 0 0);
      drn = get_or s 1 0;
      acknowledge = positive (get_or s 2 0);
      index = list_from (index_at s) 0 6;
      mask = list_from (half_at s) 0 12;
    }
