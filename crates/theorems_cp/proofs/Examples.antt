-- The bench examples. Assumes nothing.
use mathlib.Core.Path.{◌≡◌, refl, sym, ◌∙◌}
use Prim.Native.Nat.{ℕ, ◌^◌, ◌<◌}
use mathlib.Core.Bool.{true}
use mathlib.Core.List.{List}
use native.Mathlib.Nat.{suc-ne-zero}
use native.Mathlib.Omega.{arith}
use lib.Dec.{T}
use Rattle.standard.specs.Lists.{list_from, any, largest, parts, joined, each, after}
use Rattle.standard.specs.First.{valued, first}
use Rattle.standard.specs.Bits.{bit_at, bits_in, field, bytes_of, nth, number_of, bits_of}
use Rattle.standard.specs.Record.{K, top_index, in_mask}
use Rattle.standard.specs.Crc.{crc_step, crc_over}
use Rattle.standard.specs.Cp.{cp_crc, bit_in, head_fields, mask_fields, cp_body, crc_field, cp_bit, cp_bytes, mask_bit_in, half_in, record_in}
use Rattle.standard.specs.Cp.{crc_matches, start_bit_set}
use Rattle.standard.specs.Scrambler.{taps, push, push_all, scramble, descramble}
use Rattle.standard.specs.Constellation.{size_of, label_of, point_of, member, size, label, sizes}
use Rattle.standard.specs.Modulus.{product, labels, number}
use Rattle.standard.specs.Signs.{signs_of, sign_bits}
use Rattle.standard.specs.Octets.{positive_octet, octet, sign_of, ucode_of}
use Rattle.standard.specs.Frame.{fresh, ucode_at, sequence_sent, control_bits, line_bits, frame_signs, frame_labels, frame_octets, send_frame}
use Rattle.standard.specs.Frame.{send_next, received_number, outside_test, outside_tests, mark_tests, mark, heard_bits, heard_data, receive_frame}
use Rattle.standard.specs.Frame.{doubtful_after, receive_next, outgoing_frames, send_frames, send_after, incoming_frames, receive_frames}
use Rattle.standard.specs.Frame.{receive_marks, receive_after}
use Rattle.standard.specs.Refusals.{count_exceeds_bytes, count_too_small, sync_broken, index_too_large, length_wrong, fixed_bit_wrong, drn_too_large}
use Rattle.standard.specs.Refusals.{granted_below_full_rate, interval_empty, product_too_small, mask_above_indices, empty_test, empty_tests}
use Rattle.standard.specs.Refusals.{rate_tests, record_tests, read_tests}
use Rattle.standard.specs.Calls.{read_refusal}
use Rattle.standard.specs.declared.Law.{Law}
use Rattle.standard.proofs.Lists.{every, every_at, T→true}
use Rattle.standard.proofs.Constellation.{label-below}
use Rattle.standard.proofs.Modulus.{within-list_from, number_lt}
use Rattle.standard.proofs.Octets.{ucode-lt}
use Rattle.standard.proofs.Frame.{mark-zero}
use Rattle.theorems_cp.specs.Examples.{all, table, full, empty_twice, ExamplesHold}
use Rattle.theorems_cp.proofs.Fewer.{one_fewer_lem}

rows_hold : all table ≡ true
unfolding table list_from any largest parts joined each after first bit_at bits_in field bytes_of nth number_of bits_of top_index in_mask crc_step
    crc_over cp_crc bit_in head_fields mask_fields cp_body crc_field cp_bit cp_bytes mask_bit_in half_in record_in crc_matches start_bit_set taps push push_all
    scramble descramble size_of label_of point_of member sizes product labels number signs_of sign_bits positive_octet octet sign_of ucode_of fresh
    sequence_sent control_bits line_bits frame_signs frame_labels frame_octets send_frame send_next received_number outside_test outside_tests
    mark_tests mark heard_bits heard_data receive_frame doubtful_after receive_next outgoing_frames send_frames send_after incoming_frames
    receive_frames receive_marks receive_after count_exceeds_bytes count_too_small
    sync_broken index_too_large length_wrong fixed_bit_wrong drn_too_large granted_below_full_rate interval_empty product_too_small mask_above_indices
    empty_test empty_tests rate_tests record_tests read_tests read_refusal
rows_hold = refl

-- ---- B10: with full masks every Ucode belongs, and the labels of any six form a number below 2^42

members : T (every (λ i. every (member full i) 128) 6)
unfolding member in_mask
members = tt

belong : (i u : ℕ) → i < 6 → u < 128 → member full i u ≡ true
belong i u h k = T→true (member full i u) (every_at (member full i) 128 (every_at (λ j. every (member full j) 128) 6 members i h) u k)

product-full : product (sizes full) ≡ 2 ^ K full
unfolding product sizes list_from size_of member in_mask
product-full = refl

never : (l : Law) (os : List ℕ) → mark full l os ≡ 0
unfolding received_number sizes
never l os =
    mark-zero full l os (λ i h. belong i (ucode_at l os i) h (ucode-lt l _))
    (rw (← product-full)
    (number_lt (sizes full) (list_from (λ i. label full i (ucode_at l os i)) 0 6)
    (within-list_from (size full) (λ i. label full i (ucode_at l os i)) 0 6
    (λ i a b. label-below (member full i) 128 (ucode_at l os i) (ucode-lt l _)
    (belong i (ucode_at l os i) (omega arith) (ucode-lt l _))))))

lowest_empty_lem : first (record_tests empty_twice) ≡ valued 25 2
unfolding first record_tests rate_tests empty_tests empty_test index_too_large drn_too_large granted_below_full_rate interval_empty any list_from size_of
    member in_mask
lowest_empty_lem = refl

pub examples : ExamplesHold
examples =
    record {
      rows = rows_hold;
      never_seven = λ l os e. suc-ne-zero 6 (sym e ∙ never l os);
      one_fewer = one_fewer_lem;
      lowest_empty = lowest_empty_lem;
    }
