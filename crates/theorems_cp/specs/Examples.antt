-- Document 01, 'Bench examples': B1 to B12 as one table and one statement; an example of document 02 beside it. Assumes nothing.
use Rattle.std.specs.Prelude.{◌≡◌, ℕ, suc, ◌+◌, ◌-◌, ◌<◌, Bool, true, false, not, ◌&&◌, List, [], ◌∷◌, eqb, drop, replicate}
use Rattle.standard.specs.First.{bare, valued, first}
use Rattle.standard.specs.Bits.{number_of}
use Rattle.standard.specs.Record.{K, top_index}
use Rattle.standard.specs.Cp.{gamma, cp_length, cp_bytes}
use Rattle.standard.specs.Constellation.{member, point, sizes}
use Rattle.standard.specs.Modulus.{product}
use Rattle.standard.specs.Octets.{octet}
use Rattle.standard.specs.Frame.{Outgoing, line_bits, fresh, send_frames, send_after, received_number, mark, receive_frames}
use Rattle.standard.specs.Refusals.{index_too_large, interval_empty, record_tests}
use Rattle.standard.specs.Calls.{read_refusal}
use Rattle.standard.specs.declared.Law.{Law}
use Rattle.standard.specs.declared.Law.TheVariants.{Mu, A}
use Rattle.standard.specs.declared.LineState.{LineState}
use Rattle.standard.specs.declared.Record.{Record}

-- ---- tests of equality

abbrev pub same_list : List ℕ → List ℕ → Bool
same_list [] [] = true
same_list [] (y ∷ ys) = false
same_list (x ∷ xs) [] = false
same_list (x ∷ xs) (y ∷ ys) = eqb x y && same_list xs ys

-- the places of the ones, counted from i
abbrev pub ones_from : ℕ → List Bool → List ℕ
ones_from i [] = []
ones_from i (true ∷ bs) = i ∷ ones_from (suc i) bs
ones_from i (false ∷ bs) = ones_from (suc i) bs

abbrev pub all : List Bool → Bool
all [] = true
all (b ∷ bs) = b && all bs

-- ---- what the examples are about

-- 'one mask for all intervals with Ucodes 0 to 5, drn 1'
abbrev pub common : Record
common = record { granted = false; drn = 1; acknowledge = false; index = replicate 6 0; mask = 63 ∷ replicate 11 0 }

abbrev pub state : ℕ → Bool → LineState
state h s = record { history = h; sign = s; doubtful = 0; place = 0; done = 0; sequence = replicate 12 0; lost = false }

-- six positive octets of Ucodes, and of labels in the common masks
abbrev pub of_ucodes : List ℕ → List ℕ
of_ucodes [] = []
of_ucodes (u ∷ us) = octet Mu true u ∷ of_ucodes us

abbrev pub points_from : ℕ → List ℕ → List ℕ
points_from i [] = []
points_from i (c ∷ cs) = point common i c ∷ points_from (suc i) cs

abbrev pub of_labels : List ℕ → List ℕ
of_labels cs = of_ucodes (points_from 0 cs)

-- two masks, of which the indices choose; each has the upper half given
abbrev pub two_masks : ℕ → ℕ → ℕ → ℕ → List ℕ → Record
two_masks d upper low₀ low₁ is =
    record { granted = false; drn = d; acknowledge = false; index = is; mask = low₀ ∷ upper ∷ low₁ ∷ upper ∷ replicate 8 0 }

abbrev pub word : ℕ
word = 0xffff_ffff_ffff_ffff

-- full masks at K = 42
abbrev pub full : Record
full = record { granted = false; drn = 28; acknowledge = false; index = replicate 6 0; mask = word ∷ word ∷ replicate 10 0 }

-- sizes 6 6 6 6 6 5 and 6 6 6 6 5 5
abbrev pub five_once : Record
five_once = two_masks 1 0 63 31 (0 ∷ 0 ∷ 0 ∷ 0 ∷ 0 ∷ 1 ∷ [])

abbrev pub five_twice : Record
five_twice = two_masks 1 0 63 31 (0 ∷ 0 ∷ 0 ∷ 0 ∷ 1 ∷ 1 ∷ [])

-- the common masks, but an empty one in intervals 2 and 4
abbrev pub empty_twice : Record
empty_twice = two_masks 1 0 63 0 (0 ∷ 0 ∷ 1 ∷ 0 ∷ 1 ∷ 0 ∷ [])

-- the refusal's number of a record for a fault in itself, 0 for none
abbrev pub fault : Record → ℕ
fault r = (first (record_tests r)).number

-- the CP of a record with g = 1, read with a bit count
abbrev pub read_with : ℕ → ℕ
read_with n = (read_refusal (record { bytes = cp_bytes five_once; bit_count = n })).number

-- ---- the table: the control channel is off

abbrev pub off : List Bool → Outgoing
off ds = record { control = false; sequence = 0; bits = ds }

abbrev pub zeros : ℕ → List Bool
zeros n = replicate n false

abbrev pub ones : ℕ → List Bool
ones n = replicate n true

unfoldable pub table : List Bool
table =
    -- B1
    same_list (send_frames common Mu false 0 1 fresh (zeros 21)) (replicate 6 0x7a) ∷
    -- B2
    (same_list (send_frames common Mu false 0 1 fresh (ones 21)) (0xfd ∷ 0x7e ∷ 0xff ∷ 0x7a ∷ 0xfd ∷ 0x7a ∷ []) && eqb
    (number_of (drop 6 (line_bits fresh (off (ones 21))))) 4_095
    && eqb (send_after common false 0 1 fresh (ones 21)).history 2_097_144 && not (send_after common false 0 1 fresh (ones 21)).sign) ∷
    -- B3
    (eqb (received_number common Mu (replicate 6 0xff)) 46_655 && eqb (mark common Mu (replicate 6 0xff)) 7) ∷
    -- B4
    (eqb (received_number common Mu (of_labels (1 ∷ 1 ∷ 4 ∷ 1 ∷ 1 ∷ 4 ∷ []))) 32_767 && eqb
    (mark common Mu (of_labels (1 ∷ 1 ∷ 4 ∷ 1 ∷ 1 ∷ 4 ∷ []))) 0
    && eqb (received_number common Mu (of_labels (2 ∷ 1 ∷ 4 ∷ 1 ∷ 1 ∷ 4 ∷ []))) 32_768 && eqb
    (mark common Mu (of_labels (2 ∷ 1 ∷ 4 ∷ 1 ∷ 1 ∷ 4 ∷ []))) 7) ∷
    -- B5
    eqb (mark common Mu (of_ucodes (0 ∷ 0 ∷ 6 ∷ 0 ∷ 6 ∷ 0 ∷ []))) 3 ∷
    -- B6
    same_list (ones_from 0 (receive_frames common Mu false 2 (state 0 true) (send_frames common Mu false 0 2 fresh (zeros 42))))
    (0 ∷ 18 ∷ 23 ∷ []) ∷
    -- B7
    same_list (ones_from 0 (receive_frames common Mu false 2 (state 1 false) (send_frames common Mu false 0 2 fresh (zeros 42))))
    (17 ∷ 22 ∷ []) ∷
    -- B8
    same_list (send_frames common A false 0 1 fresh (zeros 21)) (replicate 6 0x50) ∷
    -- B9
    (eqb (K five_once) 15 && same_list (sizes five_once) (6 ∷ 6 ∷ 6 ∷ 6 ∷ 6 ∷ 5 ∷ []) && eqb (product (sizes five_once)) 38_880 && eqb
    (fault five_once) 0
    && same_list (sizes five_twice) (6 ∷ 6 ∷ 6 ∷ 6 ∷ 5 ∷ 5 ∷ []) && eqb (product (sizes five_twice)) 32_400 && eqb (fault five_twice) 11) ∷
    -- B10, but for its 'never' and its every Ucode
    (eqb (K full) 42 && eqb (fault full) 0 && eqb (fault (two_masks 28 word word (word - 1) (0 ∷ 0 ∷ 0 ∷ 0 ∷ 0 ∷ 1 ∷ []))) 11) ∷
    -- B11
    same_list (octet Mu true 64 ∷ octet Mu false 64 ∷ octet A true 64 ∷ octet A false 64 ∷ []) (0xbf ∷ 0x3f ∷ 0x95 ∷ 0x15 ∷ []) ∷
    -- B12
    (eqb (top_index five_once) 1 && eqb (cp_length 1) 426 && eqb (cp_length 1 - (289 + gamma 1)) 1
    && eqb (read_with 426) 0 && eqb (read_with 425) 5 && eqb (read_with 427) 5) ∷
    []

-- a record at K = 42 whose interval i lacks Ucode u; no index is above 5 and no interval is empty
pub record Fewer (r : Record) (i u : ℕ) : Type 0 where
  pub rate : r.drn ≡ 28
  pub interval : i < 6
  pub ucode : u < 128
  pub lacks : member r i u ≡ false
  pub indices : index_too_large r ≡ false
  pub masks : (k : ℕ) → k < 6 → interval_empty r k ≡ false

pub record ExamplesHold : Type 0 where
  pub rows : all table ≡ true
  -- B10: 'mark 7 never occurs', whatever the octets
  pub never_seven : (l : Law) (os : List ℕ) → mark full l os ≡ 7 → ⊥
  -- B10: 'one Ucode fewer gets 11', whichever Ucode and interval
  pub one_fewer : (r : Record) (i u : ℕ) → Fewer r i u → first (record_tests r) ≡ bare 11
  -- A.8: 25 'with the lowest such interval'
  pub lowest_empty : first (record_tests empty_twice) ≡ valued 25 2
