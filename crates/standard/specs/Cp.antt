-- Document 01, 'CP (V.91, Table 4)'. A CP is a bit string f, a function of the bit's number. Assumes nothing.
use Rattle.std.specs.Prelude.{ℕ, ◌+◌, ◌*◌, ◌-◌, ◌/◌, ◌%◌, Bool, false, cond, ◌&&◌, ◌||◌, List, [], ◌∷◌, ◌++◌, eqb, leb, ltb, get_or}
use Rattle.standard.specs.Lists.{list_from, any, largest}
use Rattle.standard.specs.Bits.{weight, bit, field, bytes_of, bytes_for}
use Rattle.standard.specs.Record.{index_of, top_index, in_mask}
use Rattle.standard.specs.Crc.{crc_over}
use Rattle.standard.specs.declared.Record.{Record}

-- 'γ = 136 × g'
abbrev pub gamma : ℕ → ℕ
gamma g = 136 * g

-- 'Zeros follow up to a multiple of 6.' The CRC ends at bit 288 + γ
abbrev pub cp_length : ℕ → ℕ
cp_length g = (289 + gamma g + 5) / 6 * 6

-- the bytes that hold them
abbrev pub cp_byte_count : ℕ → ℕ
cp_byte_count g = bytes_for (cp_length g)

-- ---- the table of fields, by which a CP is read and written

-- where a field stands: its first bit's number, and how many bits it has
pub record Place : Type 0 where
  pub at : ℕ
  pub width : ℕ

abbrev pub place : ℕ → ℕ → Place
place p k = record { at = p; width = k }

-- 'Bits 0 to 16 are seventeen ones.'
abbrev pub sync_place : Place
sync_place = place 0 17

-- 'Bit 18 is granted, 20:24 drn, 33 acknowledge.'
abbrev pub granted_place : Place
granted_place = place 18 1

abbrev pub drn_place : Place
drn_place = place 20 5

abbrev pub acknowledge_place : Place
acknowledge_place = place 33 1

-- bit 19, in which 'the writer puts 1'
abbrev pub set_place : Place
set_place = place 19 1

-- 'Indices stand at 103, 107, 111, 115, 120 and 124, four bits each.' That of interval i
abbrev pub index_place : ℕ → Place
index_place i = place (get_or (103 ∷ 107 ∷ 111 ∷ 115 ∷ 120 ∷ 124 ∷ []) i 0) 4

-- 'Mask m has its eight runs of 16 at 137 + 136 × m + 17 × c, for c from 0 to 7.'
abbrev pub run_place : ℕ → ℕ → ℕ
run_place m c = 137 + 136 * m + 17 * c

-- 'The CRC fills 273 + γ to 288 + γ.'
abbrev pub crc_place : ℕ → Place
crc_place g = place (273 + gamma g) 16

-- 'Every bit whose number is a multiple of 17 .. is a .. start bit.'
abbrev pub start_bit : ℕ → Bool
start_bit n = eqb (n % 17) 0

-- 'takes bits 18 to 271 + γ in order, start bits skipped'
unfoldable pub cp_crc : (ℕ → Bool) → ℕ → ℕ
cp_crc f g = crc_over start_bit f 18 (254 + gamma g)

-- ---- writing

-- a field: its first bit's number, how many bits it has, and the number in it, lowest bit first
pub record Field : Type 0 where
  pub at : ℕ
  pub width : ℕ
  pub value : ℕ

abbrev pub put : ℕ → ℕ → ℕ → Field
put p k v = record { at = p; width = k; value = v }

abbrev pub filled : Place → ℕ → Field
filled p v = put p.at p.width v

abbrev pub covers : Field → ℕ → Bool
covers x n = leb x.at n && ltb n (x.at + x.width)

-- the bit string that holds these fields and zeros elsewhere
unfoldable pub bit_in : List Field → ℕ → Bool
bit_in [] n = false
bit_in (x ∷ xs) n = cond (covers x n) (bit x.value (n - x.at)) (bit_in xs n)

-- the fields before the masks
unfoldable pub head_fields : Record → List Field
head_fields r =
    filled sync_place 0x1ffff ∷
    filled granted_place (weight r.granted) ∷
    filled set_place 1 ∷
    filled drn_place r.drn ∷
    filled acknowledge_place (weight r.acknowledge) ∷
    filled (index_place 0) (index_of r 0) ∷
    filled (index_place 1) (index_of r 1) ∷
    filled (index_place 2) (index_of r 2) ∷
    filled (index_place 3) (index_of r 3) ∷
    filled (index_place 4) (index_of r 4) ∷
    filled (index_place 5) (index_of r 5) ∷
    []

-- run c of mask m has its Ucodes 16 c to 16 c + 15
abbrev pub mask_run : Record → ℕ → ℕ → Field
mask_run r m c = put (run_place m c) 16 (field (in_mask r m) (16 * c) 16)

-- the runs of masks 0 to g, end to end
unfoldable pub mask_fields : Record → List Field
mask_fields r = list_from (λ k. mask_run r (k / 8) (k % 8)) 0 (8 * (top_index r + 1))

-- what the CRC is taken of
unfoldable pub cp_body : Record → List Field
cp_body r = head_fields r ++ mask_fields r

unfoldable pub crc_field : Record → Field
crc_field r = let g = top_index r in filled (crc_place g) (cp_crc (bit_in (cp_body r)) g)

-- start bits, bits 30:32 and 128, 'all reserved, fill and last-byte padding bits' are 0
unfoldable pub cp_bit : Record → ℕ → Bool
cp_bit r = bit_in (cp_body r ++ (crc_field r ∷ []))

unfoldable pub cp_bytes : Record → List ℕ
cp_bytes r = bytes_of (cp_byte_count (top_index r)) (cp_bit r)

-- ---- reading

-- the number that stands in a place
abbrev pub number_in : (ℕ → Bool) → Place → ℕ
number_in f p = field f p.at p.width

-- the index of interval i
abbrev pub index_in : (ℕ → Bool) → ℕ → ℕ
index_in f i = number_in f (index_place i)

-- bit u of mask m
unfoldable pub mask_bit_in : (ℕ → Bool) → ℕ → ℕ → Bool
mask_bit_in f m u = f (run_place m (u / 16) + u % 16)

-- half h of the masks; 'Masks above g are empty in a record read.'
unfoldable pub half_in : (ℕ → Bool) → ℕ → ℕ → ℕ
half_in f g h = cond (leb (h / 2) g) (field (mask_bit_in f (h / 2)) (64 * (h % 2)) 64) 0

unfoldable pub record_in : (ℕ → Bool) → Record
record_in f =
    record {
      granted = f granted_place.at;
      drn = number_in f drn_place;
      acknowledge = f acknowledge_place.at;
      index = list_from (index_in f) 0 6;
      mask = list_from (half_in f (largest (index_in f) 6)) 0 12;
    }

-- the register's CRC, and the one that was sent, lowest bit first
unfoldable pub crc_matches : (ℕ → Bool) → ℕ → Bool
crc_matches f g = eqb (cp_crc f g) (number_in f (crc_place g))

-- 'Every bit whose number is a multiple of 17, from 17 to 272 + γ, is a zero start bit.' One of them is 1
unfoldable pub start_bit_set : (ℕ → Bool) → ℕ → Bool
start_bit_set f g = any (λ i. f (17 * i)) 1 (16 + 8 * g)

-- bits a to b
abbrev pub within : ℕ → ℕ → ℕ → Bool
within a b n = leb a n && leb n b

-- 'reserved bits (25:29, 35:50, 52:67, 69:84, 86:101, 129:135)'
abbrev pub reserved : ℕ → Bool
reserved n = within 25 29 n || within 35 50 n || within 52 67 n || within 69 84 n || within 86 101 n || within 129 135 n

-- 'The reader ignores reserved bits .., fill and padding.'
unfoldable pub ignored : ℕ → ℕ → Bool
ignored g n = reserved n || leb (289 + gamma g) n
