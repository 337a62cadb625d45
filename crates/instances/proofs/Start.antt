-- An instance of A.3's premises: a CP and E_s sent from the fresh state and heard behind other octets by a receiver in another state, and
-- frames after them. Assumes nothing.
use mathlib.Core.Path.{◌≡◌, refl}
use Prim.Native.Nat.{ℕ, zero, suc, ◌<◌}
use mathlib.Core.Bool.{true, false}
use mathlib.Core.List.{List, [], ◌∷◌}
use native.Mathlib.Omega.{arith}
use lib.Dec.{lit≤}
use lib.ListN.{take, drop, replicate}
use Rattle.standard.specs.Lists.{list_from, any, largest, last_or, last_of, parts, joined, each, after}
use Rattle.standard.specs.First.{first}
use Rattle.standard.specs.Bits.{bit_at, bits_in, field, bytes_of, nth, number_of, bits_of}
use Rattle.standard.specs.Record.{top_index, in_mask}
use Rattle.standard.specs.Scrambler.{taps, push, push_all, scramble, descramble}
use Rattle.standard.specs.Constellation.{size_of, label_of, point_of, member, sizes}
use Rattle.standard.specs.Modulus.{product, labels, number}
use Rattle.standard.specs.Signs.{signs_of, sign_bits}
use Rattle.standard.specs.Octets.{positive_octet, octet, sign_of, ucode_of}
use Rattle.standard.specs.Crc.{crc_step, crc_over}
use Rattle.standard.specs.Cp.{cp_crc, bit_in, head_fields, mask_fields, cp_body, crc_field, cp_bit}
use Rattle.standard.specs.Frame.{fresh, data_bits, sequence_sent, control_bits, line_bits, frame_signs, frame_labels, frame_octets, send_frame}
use Rattle.standard.specs.Frame.{send_next, received_number, outside_test, outside_tests, mark_tests, mark, heard_bits, heard_control, heard_data}
use Rattle.standard.specs.Frame.{receive_frame, sequence_so_far, lost_so_far, doubtful_after, receive_next, outgoing_frames, send_frames, send_after}
use Rattle.standard.specs.Frame.{incoming_frames, receive_frames, receive_marks, receive_after}
use Rattle.standard.specs.Start.{cp_and_end, signs_for, octets_for, left_by, bits_between, found_history, found_sign, found_in}
use Rattle.standard.specs.Refusals.{index_too_large, drn_too_large, granted_below_full_rate, interval_empty, product_too_small, mask_above_indices}
use Rattle.standard.specs.Refusals.{frames_at_cleardown, history_too_large, doubtful_too_large, place_too_large, too_many_frames, empty_test}
use Rattle.standard.specs.Refusals.{empty_tests, rate_tests, record_tests, state_tests, line_tests, buffer_tests, frame_tests, send_cp_tests}
use Rattle.standard.specs.Calls.{SendCall, send_refusal, send_bits, send_left, send_octets, ReceiveCall, receive_refusal, receive_octets}
use Rattle.standard.specs.Calls.{receive_left, receive_bytes, receive_marked, CpCall, cp_call, send_cp_refusal, send_cp_count, send_cp_octets}
use Rattle.standard.specs.Calls.{send_cp_left, find_refusal, find_left}
use Rattle.standard.specs.declared.LineState.{LineState}
use Rattle.standard.specs.declared.Law.TheVariants.{Mu, A}
use Rattle.theorems_cp.specs.Examples.{common, state}
use Rattle.theorems.specs.Runs.{over_calls, AllCalls, message, sent, octets_read, handed_over, marks_given, send_choices, receive_choices}
use Rattle.theorems.specs.Runs.{SendsWith, ReceivesWith, clean, Carried, Run}
use Rattle.theorems_start.specs.Start.{cp_sent, Start, FromTheFirst}
use Rattle.theorems_start.proofs.Start.{start_delivers}

-- the CP of the examples in A-law, into a buffer of more octets than it has
abbrev call : CpCall
call = cp_call common A (replicate 310 9)

-- the state that it leaves, by the history that the reference has
abbrev left : LineState
left = state 7507785 false

start : Start fresh (state 77 true) left left call (1 ∷ 2 ∷ 3 ∷ [])
unfolding list_from any largest last_or last_of first field top_index in_mask taps push push_all scramble size_of sizes product signs_of sign_bits
    member positive_octet octet sign_of crc_step crc_over cp_crc bit_in head_fields mask_fields cp_body crc_field cp_bit fresh cp_and_end signs_for octets_for
    left_by bits_between found_history found_sign found_in index_too_large drn_too_large granted_below_full_rate interval_empty product_too_small
    mask_above_indices history_too_large doubtful_too_large place_too_large empty_test empty_tests rate_tests record_tests state_tests send_cp_tests
    send_cp_refusal send_cp_count send_cp_octets send_cp_left find_refusal find_left cp_sent
start = record { sends = refl; left = refl; finds = refl }

abbrev send : ℕ → List ℕ → SendCall
send n xs = record { cp = common; law = Mu; frames = n; control = false; sequence = 0; bytes = xs; octets = replicate 20 7 }

-- one frame, a call that is refused for its 2,000 frames, two frames
abbrev sending : List SendCall
sending = send 1 (1 ∷ 2 ∷ 3 ∷ []) ∷ send 2000 [] ∷ send 2 (0x55 ∷ 0xaa ∷ 0x12 ∷ 0x34 ∷ 0x56 ∷ 0x78 ∷ []) ∷ []

abbrev receive : ℕ → List ℕ → ReceiveCall
receive n xs = record { cp = common; law = Mu; frames = n; control = false; octets = xs; bytes = replicate 9 1; marks = replicate 3 9 }

-- two frames, and one
abbrev receiving : List ReceiveCall
receiving = receive 2 (take 12 (sent left sending)) ∷ receive 1 (drop 12 (sent left sending)) ∷ []

run : Run common Mu left left sending receiving clean (sent left sending) 3
unfolding list_from any largest parts joined each after first bit_at bits_in field bytes_of nth number_of bits_of top_index in_mask taps push
    push_all scramble descramble size_of label_of point_of member sizes product labels number signs_of sign_bits positive_octet octet sign_of
    ucode_of data_bits sequence_sent control_bits line_bits frame_signs frame_labels frame_octets send_frame send_next received_number outside_test
    outside_tests mark_tests mark heard_bits heard_control heard_data receive_frame sequence_so_far lost_so_far doubtful_after receive_next
    outgoing_frames send_frames send_after incoming_frames receive_frames receive_marks receive_after index_too_large drn_too_large
    granted_below_full_rate interval_empty product_too_small mask_above_indices frames_at_cleardown history_too_large doubtful_too_large place_too_large
    too_many_frames empty_test empty_tests rate_tests record_tests state_tests line_tests buffer_tests frame_tests send_refusal send_bits send_left
    send_octets receive_refusal receive_octets receive_left receive_bytes receive_marked over_calls AllCalls sent octets_read send_choices
    receive_choices SendsWith ReceivesWith Carried
run =
    record {
      sender = (λ e. (refl, refl), (λ e. (refl, refl), (λ e. (refl, refl), tt)));
      receiver = (λ e. (refl, refl), (λ e. (refl, refl), tt));
      carried = (refl, λ i o k h. refl);
      inside = lit≤ tt;
      reads = refl;
      choices = chosen;
      places = λ i e. refl;
    }
  where
    chosen : (i : ℕ) → i < 3 → nth (receive_choices left receiving) i ≡ nth (send_choices left sending) i
    chosen zero h = refl
    chosen (suc zero) h = refl
    chosen (suc (suc zero)) h = refl
    chosen (suc (suc (suc i))) h = absurd (omega arith)

-- and what it concludes: all 63 bits, from the first
pub instance_started : FromTheFirst common clean left 3 (send_choices left sending) (message left sending) (handed_over left receiving)
    (marks_given left receiving)
instance_started =
    start_delivers fresh (state 77 true) left left call (1 ∷ 2 ∷ 3 ∷ []) common Mu sending receiving clean (sent left sending) 3 start run
