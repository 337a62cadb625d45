-- An instance of A.7's premises: two settings put for a junction and gone back from, refused calls between. Assumes nothing.
use mathlib.Core.Path.{◌≡◌, refl}
use Prim.Native.Nat.{ℕ, zero, suc, ◌^◌, ◌<◌}
use mathlib.Core.Bool.{true}
use mathlib.Core.List.{List, [], ◌∷◌, ◌++◌}
use mathlib.Core.Option.{some}
use lib.Dec.{lit<}
use lib.ListN.{get_or, replicate}
use Rattle.standard.specs.Lists.{list_from, any, largest, after}
use Rattle.standard.specs.First.{first}
use Rattle.standard.specs.Bits.{bit_at, field, bytes_of}
use Rattle.standard.specs.Record.{top_index, in_mask, no_record}
use Rattle.standard.specs.Constellation.{size_of, member, sizes}
use Rattle.standard.specs.Modulus.{product}
use Rattle.standard.specs.Crc.{crc_step, crc_over}
use Rattle.standard.specs.Cp.{cp_crc, bit_in, head_fields, mask_fields, cp_body, crc_field, cp_bit, cp_bytes, mask_bit_in, half_in, record_in, crc_matches}
use Rattle.standard.specs.Cp.{start_bit_set}
use Rattle.standard.specs.Refusals.{count_exceeds_bytes, count_too_small, sync_broken, index_too_large, length_wrong, fixed_bit_wrong, drn_too_large}
use Rattle.standard.specs.Refusals.{granted_below_full_rate, interval_empty, product_too_small, mask_above_indices, empty_test, empty_tests, rate_tests}
use Rattle.standard.specs.Refusals.{record_tests, read_tests}
use Rattle.standard.specs.Settings.{version_in, version_for, little, entry_bytes, entries_bytes, last_start, file_of, little_at, entry_at, next_at}
use Rattle.standard.specs.Settings.{entries_at, entries_in, settings_in, find, entry, below, above, replace, put, back, put_file, back_file, same, as_written}
use Rattle.standard.specs.Settings.{follows, in_order, orderly, junctions, few, bit_count_of, readable, all_readable, lawful, is_file, put_tests}
use Rattle.standard.specs.Settings.{back_tests}
use Rattle.standard.specs.Calls.{put_call, put_refusal, put_length, put_out, back_call, back_refusal, back_length, back_out}
use Rattle.theorems.specs.Runs.{over_calls}
use Rattle.theorems_cp.specs.Examples.{common}
use Rattle.theorems_cp.specs.RoundTrip.{Shaped}
use Rattle.theorems_settings.specs.Settings.{Bytes, FileCall, to_put, to_go_back, answer_to, length_by, out_by, file_after, AllTyped, file_left}
use Rattle.theorems_settings.specs.Settings.{naming, shown_in, turned_all, Looks, Settled}
use Rattle.theorems_settings.proofs.Settings.{calls_settle}

-- 'one with count 0 is valid and points to 0'
abbrev begun : List ℕ
begun = 0 ∷ 0 ∷ 0 ∷ 1 ∷ []

-- the record of the examples, a call with too little room, a cleardown, a going back of a junction that is not there, and one that is done
abbrev calls : List FileCall
calls =
    to_put (put_call 7 common (replicate 50 9)) ∷
    to_put (put_call 7 no_record (replicate 50 9)) ∷
    to_put (put_call 7 no_record (replicate 100 9)) ∷
    to_go_back (back_call 9 (replicate 100 9)) ∷
    to_go_back (back_call 7 (replicate 100 9)) ∷
    []

-- the file after them, as the reference has it: the entry of the examples' CP, current again, and that of the cleardown
abbrev file : List ℕ
file =
    7 ∷ 0 ∷ 0 ∷ 37 ∷ 255 ∷ 255 ∷ 25 ∷ 0 ∷ 0 ∷ 0 ∷ 0 ∷ 0 ∷ 0 ∷ 0 ∷ 0 ∷ 0 ∷ 0 ∷ 0 ∷ 0 ∷ 0 ∷ 0 ∷ 126 ∷ 0 ∷ 0 ∷ 0 ∷ 0 ∷ 0 ∷ 0 ∷ 0 ∷ 0 ∷ 0 ∷
    0 ∷ 0 ∷ 0 ∷ 0 ∷ 0 ∷ 0 ∷ 0 ∷ 224 ∷ 208 ∷ 0 ∷ 0 ∷ 0 ∷ 7 ∷ 0 ∷ 1 ∷ 37 ∷ 255 ∷ 255 ∷ 9 ∷ 0 ∷ 0 ∷ 0 ∷ 0 ∷ 0 ∷ 0 ∷ 0 ∷ 0 ∷ 0 ∷ 0 ∷ 0 ∷
    0 ∷ 0 ∷ 0 ∷ 0 ∷ 0 ∷ 0 ∷ 0 ∷ 0 ∷ 0 ∷ 0 ∷ 0 ∷ 0 ∷ 0 ∷ 0 ∷ 0 ∷ 0 ∷ 0 ∷ 0 ∷ 0 ∷ 0 ∷ 100 ∷ 199 ∷ 1 ∷ 0 ∷ 0 ∷ 2 ∷ 43 ∷ 0 ∷ 1 ∷ []

pub file_is : file_left begun calls ≡ file
unfolding list_from any largest after first bit_at field bytes_of top_index in_mask no_record size_of member sizes product crc_step crc_over cp_crc bit_in
    head_fields mask_fields cp_body crc_field cp_bit cp_bytes mask_bit_in half_in record_in crc_matches start_bit_set count_exceeds_bytes count_too_small
    sync_broken index_too_large length_wrong fixed_bit_wrong drn_too_large granted_below_full_rate interval_empty product_too_small mask_above_indices
    empty_test empty_tests rate_tests record_tests read_tests version_in version_for little entry_bytes entries_bytes last_start file_of little_at entry_at
    next_at entries_at entries_in settings_in find entry below above replace put back put_file back_file same as_written follows in_order orderly junctions
    few bit_count_of readable all_readable lawful is_file put_tests back_tests put_refusal put_length put_out back_refusal back_length back_out
    over_calls answer_to length_by out_by file_after
file_is = refl

-- the accepted calls before the last one
abbrev earlier : List FileCall
earlier = to_put (put_call 7 common (replicate 50 9)) ∷ to_put (put_call 7 no_record (replicate 100 9)) ∷ []

named : naming 7 begun calls ≡ earlier ++ (to_go_back (back_call 7 (replicate 100 9)) ∷ [])
unfolding list_from any largest after first bit_at field bytes_of top_index in_mask no_record size_of member sizes product crc_step crc_over cp_crc bit_in
    head_fields mask_fields cp_body crc_field cp_bit cp_bytes mask_bit_in half_in record_in crc_matches start_bit_set count_exceeds_bytes count_too_small
    sync_broken index_too_large length_wrong fixed_bit_wrong drn_too_large granted_below_full_rate interval_empty product_too_small mask_above_indices
    empty_test empty_tests rate_tests record_tests read_tests version_in version_for little entry_bytes entries_bytes last_start file_of little_at entry_at
    next_at entries_at entries_in settings_in find entry below above replace put back put_file back_file same as_written follows in_order orderly junctions
    few bit_count_of readable all_readable lawful is_file put_tests back_tests put_refusal put_length put_out back_refusal back_length back_out
    over_calls answer_to length_by out_by file_after naming
named = refl

bytes : Bytes begun
bytes zero = lit< tt
bytes (suc zero) = lit< tt
bytes (suc (suc zero)) = lit< tt
bytes (suc (suc (suc zero))) = lit< tt
bytes (suc (suc (suc (suc i)))) = lit< tt

-- what the type says of the two records
zeros : (n h : ℕ) → get_or (replicate n 0) h 0 < 2 ^ 64
zeros zero h = lit< tt
zeros (suc n) zero = lit< tt
zeros (suc n) (suc h) = zeros n h

shaped : Shaped common
shaped = record { indices = refl; halves = refl; words = small }
  where
    small : (h : ℕ) → get_or common.mask h 0 < 2 ^ 64
    small zero = lit< tt
    small (suc h) = zeros 11 h

shaped_none : Shaped no_record
unfolding no_record list_from
shaped_none = record { indices = refl; halves = refl; words = zeros 12 }

typed : AllTyped calls
unfolding AllTyped
typed = ((lit< tt, shaped), ((lit< tt, shaped_none), ((lit< tt, shaped_none), (lit< tt, (lit< tt, tt)))))

begun-file : is_file begun ≡ true
unfolding version_in little entries_bytes last_start file_of little_at entries_at entries_in settings_in same as_written orderly junctions few all_readable
    lawful is_file
begun-file = refl

settled : Settled begun calls
settled = calls_settle begun bytes begun-file calls typed

-- the last call goes back: a look-up gives what the put before the last one put
pub shown_again : (cp : List ℕ) × ((turned_all (shown_in 7 begun) earlier).previous ≡ some cp) × Looks (file_left begun calls) 7 cp
    × ((shown_in 7 (file_left begun calls)).previous ≡ (turned_all (shown_in 7 begun) earlier).current)
shown_again = settled.last_back 7 earlier (back_call 7 (replicate 100 9)) named
