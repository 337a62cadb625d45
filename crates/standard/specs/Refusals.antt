-- Document 01, 'When the codec declines', and document 02, A.1, A.2, A.3, A.8 and A.10: the tests 1 to 19 and 25 to 28, each under a name,
-- and the lists of them in the papers' order. 22 asks the CP reader's tests, so 22 to 24 stand in Settings. Assumes nothing.
use Rattle.std.specs.Prelude.{ℕ, ◌+◌, ◌*◌, ◌-◌, ◌^◌, Bool, not, ◌&&◌, ◌||◌, List, [], ◌∷◌, ◌++◌, eqb, leb, ltb, length, Result, Ok, Err}
use Rattle.standard.specs.Lists.{list_from, any}
use Rattle.standard.specs.First.{Answer, bare, valued, Test, test, valued_test}
use Rattle.standard.specs.Bits.{positive, bit_at}
use Rattle.standard.specs.Record.{index_of, top_index, half_of, K}
use Rattle.standard.specs.Cp.{cp_length, within, start_bit_set, crc_matches, record_in}
use Rattle.standard.specs.Constellation.{size_of, size, sizes}
use Rattle.standard.specs.Modulus.{product}
use Rattle.standard.specs.Plan.{points_for, sum_of, lowest_mask}
use Rattle.standard.specs.declared.Law.{Law}
use Rattle.standard.specs.declared.LineState.{LineState}
use Rattle.standard.specs.declared.Record.{Record}
use Rattle.standard.specs.declared.Refusal.{Refusal}
use Rattle.standard.specs.declared.Refusal.TheVariants.{CountExceedsBytes, CountTooSmall, SyncBroken, IndexTooLarge, LengthWrong}
use Rattle.standard.specs.declared.Refusal.TheVariants.{StartBitSet, CrcMismatch, FixedBitWrong, DrnTooLarge, GrantedBelowFullRate}
use Rattle.standard.specs.declared.Refusal.TheVariants.{ProductTooSmall, MaskAboveIndices, FramesAtCleardown, HistoryTooLarge}
use Rattle.standard.specs.declared.Refusal.TheVariants.{TooManyFrames, InputTooShort, OutputTooShort, DoubtfulTooLarge}
use Rattle.standard.specs.declared.Refusal.TheVariants.{PlaceTooLarge, FileBroken, SettingMissing, TooManyJunctions}
use Rattle.standard.specs.declared.Refusal.TheVariants.{IntervalEmpty, RateOrSpacingOutside, NoMask, SumExceedsCeiling}

-- 'A refusal carries its number'; 25 carries the interval too
abbrev pub refusal_answer : Refusal → Answer
refusal_answer CountExceedsBytes = bare 1
refusal_answer CountTooSmall = bare 2
refusal_answer SyncBroken = bare 3
refusal_answer IndexTooLarge = bare 4
refusal_answer LengthWrong = bare 5
refusal_answer StartBitSet = bare 6
refusal_answer CrcMismatch = bare 7
refusal_answer FixedBitWrong = bare 8
refusal_answer DrnTooLarge = bare 9
refusal_answer GrantedBelowFullRate = bare 10
refusal_answer ProductTooSmall = bare 11
refusal_answer MaskAboveIndices = bare 12
refusal_answer FramesAtCleardown = bare 13
refusal_answer HistoryTooLarge = bare 14
refusal_answer TooManyFrames = bare 15
refusal_answer InputTooShort = bare 16
refusal_answer OutputTooShort = bare 17
refusal_answer DoubtfulTooLarge = bare 18
refusal_answer PlaceTooLarge = bare 19
refusal_answer FileBroken = bare 22
refusal_answer SettingMissing = bare 23
refusal_answer TooManyJunctions = bare 24
refusal_answer (IntervalEmpty i) = valued 25 i
refusal_answer RateOrSpacingOutside = bare 26
refusal_answer NoMask = bare 27
refusal_answer SumExceedsCeiling = bare 28

-- the answer of an outcome: 0 where nothing is refused
abbrev pub outcome_answer : {X : Type 0} → Result X Refusal → Answer
outcome_answer (Ok x) = bare 0
outcome_answer (Err x) = refusal_answer x

-- ---- the tests. s is the bytes of a CP, f its bits, n a bit count

-- 1. 'The bit count exceeds 8 × the bytes lent.'
unfoldable pub count_exceeds_bytes : List ℕ → ℕ → Bool
count_exceeds_bytes s n = ltb (8 * length s) n

-- 2. 'The bit count is below 294.'
unfoldable pub count_too_small : ℕ → Bool
count_too_small n = ltb n 294

-- 3. 'One of bits 0 to 16 is 0.'
unfoldable pub sync_broken : (ℕ → Bool) → Bool
sync_broken f = any (λ n. not (f n)) 0 17

-- 4. 'An interval index exceeds 5.'
unfoldable pub index_too_large : Record → Bool
index_too_large r = any (λ i. ltb 5 (index_of r i)) 0 6

-- 5. 'The bit count is not the length for g.'
unfoldable pub length_wrong : ℕ → ℕ → Bool
length_wrong n g = not (eqb n (cp_length g))

-- 6. 'A start bit is 1.': start_bit_set. 7. 'The CRC does not match.': not crc_matches

-- 8. 'Bit 19 is 0, or one of 30:32 or 128 is 1.'
unfoldable pub fixed_bit_wrong : (ℕ → Bool) → Bool
fixed_bit_wrong f = not (f 19) || any f 30 3 || f 128

-- 9. 'drn exceeds 28.'
unfoldable pub drn_too_large : Record → Bool
drn_too_large r = ltb 28 r.drn

-- 10. 'Granted is 1 and drn is not 28.'
unfoldable pub granted_below_full_rate : Record → Bool
granted_below_full_rate r = r.granted && not (eqb r.drn 28)

-- 25 (A.8). 'drn is 1 to 28 and an interval's mask is empty': interval i's
unfoldable pub interval_empty : Record → ℕ → Bool
interval_empty r i = within 1 28 r.drn && eqb (size r i) 0

-- 11. 'drn is 1 to 28 and M0 × M1 × M2 × M3 × M4 × M5 is below 2^K.'
unfoldable pub product_too_small : Record → Bool
product_too_small r = within 1 28 r.drn && ltb (product (sizes r)) (2 ^ K r)

-- 12. 'A mask above g is not empty.'
unfoldable pub mask_above_indices : Record → Bool
mask_above_indices r = let from = 2 * (top_index r + 1) in any (λ h. positive (half_of r h)) from (12 - from)

-- 13. 'N is 1 or more and drn is 0.'
unfoldable pub frames_at_cleardown : Record → ℕ → Bool
frames_at_cleardown r n = leb 1 n && eqb r.drn 0

-- 14. 'The history is 2^23 or more.'
unfoldable pub history_too_large : LineState → Bool
history_too_large st = leb (2 ^ 23) st.history

-- 18 (A.1). 'the count exceeds 24'
unfoldable pub doubtful_too_large : LineState → Bool
doubtful_too_large st = ltb 24 st.doubtful

-- 19 (A.2). 'frame place exceeds 63 or sequence place exceeds 15 .. on or off'
unfoldable pub place_too_large : LineState → Bool
place_too_large st = ltb 63 st.place || ltb 15 st.done

-- 15. 'N exceeds 1,024.'
unfoldable pub too_many_frames : ℕ → Bool
too_many_frames n = ltb 1024 n

-- 16 and 17. 'shorter than needed'
abbrev pub shorter : {X : Type 0} → List X → ℕ → Bool
shorter xs needed = ltb (length xs) needed

-- 26 (A.10). 'K is outside 15 to 42 or the spacing outside its range', 'from 1 to 65,535'
unfoldable pub rate_or_spacing_outside : ℕ → ℕ → Bool
rate_or_spacing_outside k d = not (within 15 42 k) || not (within 1 65535 d)

-- 27 (A.10). 'no mask of M points keeps the spacing': the lowest that keep it are fewer
unfoldable pub no_mask : ℕ → Law → ℕ → Bool
no_mask k l d = ltb (size_of (lowest_mask l d (points_for k)) 128) (points_for k)

-- 28 (A.10). 'the least sum exceeds the ceiling'
unfoldable pub sum_exceeds_ceiling : ℕ → Law → ℕ → ℕ → Bool
sum_exceeds_ceiling k l d ceiling = ltb ceiling (sum_of l (lowest_mask l d (points_for k)))

-- ---- the lists

-- 25 for each interval, so that the first that applies has 'the lowest such interval'
unfoldable pub empty_test : Record → ℕ → Test
empty_test r i = valued_test 25 i (interval_empty r i)

unfoldable pub empty_tests : Record → List Test
empty_tests r = list_from (empty_test r) 0 6

-- 9, 10, 25 'checked just before 11', and 11
unfoldable pub rate_tests : Record → List Test
rate_tests r = test 9 (drn_too_large r) ∷ test 10 (granted_below_full_rate r) ∷ (empty_tests r ++ (test 11 (product_too_small r) ∷ []))

-- 'a fault in the record itself: here 4 and 9 to 12', and 25
unfoldable pub record_tests : Record → List Test
record_tests r = test 4 (index_too_large r) ∷ (rate_tests r ++ (test 12 (mask_above_indices r) ∷ []))

-- 'The reader uses 1 to 11', and 25
unfoldable pub read_tests : List ℕ → ℕ → List Test
read_tests s n =
    let f = bit_at s in
    let r = record_in f in
    let g = top_index r in
    test 1 (count_exceeds_bytes s n) ∷
    test 2 (count_too_small n) ∷
    test 3 (sync_broken f) ∷
    test 4 (index_too_large r) ∷
    test 5 (length_wrong n g) ∷
    test 6 (start_bit_set f g) ∷
    test 7 (not (crc_matches f g)) ∷
    test 8 (fixed_bit_wrong f) ∷
    rate_tests r

-- 'the writer 4, 9 to 12 and 17', and 25
unfoldable pub write_tests : Record → Bool → List Test
write_tests r writeShort = record_tests r ++ (test 17 writeShort ∷ [])

-- a fault in the line state: 14, 18 'checked after 14', and 19 'checked after 18'
unfoldable pub state_tests : LineState → List Test
state_tests st = test 14 (history_too_large st) ∷ test 18 (doubtful_too_large st) ∷ test 19 (place_too_large st) ∷ []

-- 13, those of the line state, and 15
unfoldable pub line_tests : Record → LineState → ℕ → List Test
line_tests r st n = test 13 (frames_at_cleardown r n) ∷ (state_tests st ++ (test 15 (too_many_frames n) ∷ []))

-- 16 and 17: readShort is the test of the buffer to be read, writeShort that of the buffers to be written
unfoldable pub buffer_tests : Bool → Bool → List Test
buffer_tests readShort writeShort = test 16 readShort ∷ test 17 writeShort ∷ []

-- 'sender and receiver 4 and 9 to 17', 18, 19 and 25
unfoldable pub frame_tests : Record → LineState → ℕ → Bool → Bool → List Test
frame_tests r st n readShort writeShort = (record_tests r ++ line_tests r st n) ++ buffer_tests readShort writeShort

-- A.3: 'declines as the writer does, with 14, 18 and 19 before 17'
unfoldable pub send_cp_tests : Record → LineState → Bool → List Test
send_cp_tests r st writeShort = record_tests r ++ (state_tests st ++ (test 17 writeShort ∷ []))

-- 'Turned away: 26 ..; 27 ..; 28 ..'
unfoldable pub plan_tests : ℕ → Law → ℕ → ℕ → List Test
plan_tests k l d ceiling =
    test 26 (rate_or_spacing_outside k d) ∷ test 27 (no_mask k l d) ∷ test 28 (sum_exceeds_ceiling k l d ceiling) ∷ []
