-- An instance of the premises of demand 3, of A.1 and of A.2 for the C functions, with the control channel on: a short record, a call of no
-- frames, 7 bytes for what is heard and a flag byte of 2 beside accepted calls; and one of A.3's. Assumes nothing.
use mathlib.Core.Path.{◌≡◌, refl, sym}
use mathlib.Core.Logic.{inl, inr}
use Prim.Native.Nat.{ℕ}
use mathlib.Core.Bool.{true, false, true≢false}
use mathlib.Core.List.{List, [], ◌∷◌}
use lib.Dec.{lit≤}
use lib.ListN.{take, replicate}
use Rattle.standard.specs.Lists.{list_from, any, largest, parts, last_or, last_of, joined, each, after}
use Rattle.standard.specs.First.{first}
use Rattle.standard.specs.Bits.{bit_at, bits_in, field, bytes_of, nth, number_of, bits_of}
use Rattle.standard.specs.Record.{top_index, in_mask}
use Rattle.standard.specs.Crc.{crc_step, crc_over}
use Rattle.standard.specs.Cp.{cp_crc, bit_in, head_fields, mask_fields, cp_body, crc_field, cp_bit}
use Rattle.standard.specs.Scrambler.{taps, push, push_all, scramble}
use Rattle.standard.specs.Constellation.{size_of, label_of, point_of, member, sizes}
use Rattle.standard.specs.Modulus.{product, labels, number}
use Rattle.standard.specs.Signs.{signs_of, sign_bits}
use Rattle.standard.specs.Octets.{positive_octet, octet, sign_of, ucode_of}
use Rattle.standard.specs.Control.{slip_pattern, sequence_crc, pattern_wrong, crc_wrong, sequence_in, judged}
use Rattle.standard.specs.Frame.{data_bits, sequence_sent, control_bits, line_bits, frame_signs, frame_labels, frame_octets, send_frame, send_next}
use Rattle.standard.specs.Frame.{received_number, outside_test, outside_tests, mark_tests, mark, heard_bits, heard_control}
use Rattle.standard.specs.Frame.{sequence_so_far, lost_so_far, said_in, receive_next, outgoing_frames, send_frames, send_after, incoming_frames}
use Rattle.standard.specs.Start.{cp_and_end, signs_for, octets_for, left_by, bits_between, found_history, found_sign, found_in}
use Rattle.standard.specs.Refusals.{index_too_large, drn_too_large, granted_below_full_rate, interval_empty, product_too_small, mask_above_indices}
use Rattle.standard.specs.Refusals.{frames_at_cleardown, history_too_large, doubtful_too_large, place_too_large, too_many_frames, empty_test}
use Rattle.standard.specs.Refusals.{empty_tests, rate_tests, record_tests, state_tests, line_tests, buffer_tests, frame_tests, send_cp_tests}
use Rattle.standard.specs.Calls.{send_refusal, send_bits, send_left, send_octets, receive_refusal, send_cp_refusal, send_cp_count, send_cp_octets}
use Rattle.standard.specs.Calls.{send_cp_left, find_refusal, find_left}
use Rattle.standard.specs.declared.Law.TheVariants.{Mu}
use Rattle.theorems_cp.specs.Examples.{common}
use Rattle.theorems.specs.Runs.{over_calls, AllCalls, clean, Carried, Delivered}
use Rattle.theorems.specs.Counts.{Counted}
use Rattle.forms.specs.RecordBytes.{record_byte, record_bytes, record_at}
use Rattle.states.specs.StateBytes.{state_byte, state_bytes, line_bytes, state_at}
use Rattle.forms.specs.HeardBytes.{said_kind, said_bits, heard_byte, heard_bytes}
use Rattle.c_calls.specs.Answered.{answered, frame_answer, state_left, then_short}
use Rattle.frames_c.specs.Interface.{v91_send, v91_receive}
use Rattle.cp_c.specs.Interface.{v91_send_cp, v91_find_state}
use Rattle.theorems_c.specs.Runs.{CSend, c_sent, c_message, c_send_choices, CSendsWith, CReceive, c_receive_left, c_octets_read, c_handed_over}
use Rattle.theorems_c.specs.Runs.{c_marks_given, c_receive_choices, c_frames_read, c_state_before, CReceivesWith, CRun, c_said_at, c_said_given}
use Rattle.theorems_c.specs.Start.{CSendCp, CStart}
use Rattle.theorems_c.proofs.Runs.{c_runs, c_counts, c_said}

abbrev send : List ℕ → ℕ → List ℕ → CSend
send rec n bits = record { rec = rec; a_law = false; frames = n; control = true; word = 5; bits = bits; octets = replicate 12 7 }

-- a data frame, then a control frame, which has 15 data bits
abbrev sending : List CSend
sending =
    send (record_bytes common) 1 (1 ∷ 2 ∷ 3 ∷ []) ∷
    send (take 104 (record_bytes common)) 1 (1 ∷ 2 ∷ 3 ∷ []) ∷
    send (record_bytes common) 0 [] ∷
    send (record_bytes common) 1 (0x55 ∷ 0xaa ∷ []) ∷ []

-- at the last of 64 frame places, with fifteen control frames of a sequence done: its bits are those for 7
abbrev start : List ℕ
start =
    5 ∷ 0 ∷ 0 ∷ 0 ∷ 2 ∷ 9 ∷ 63 ∷ 15 ∷
    0xee ∷ 0x5f ∷ 0x03 ∷ 0x01 ∷ 0x00 ∷ 0x00 ∷ 0x00 ∷ 0x00 ∷ 0x00 ∷ 0x40 ∷ 0x8d ∷ 0x2b ∷ 0 ∷ []

-- the octets that they send
abbrev octets : List ℕ
octets = 0x7e ∷ 0x7e ∷ 0x7f ∷ 0x7f ∷ 0x7e ∷ 0x7c ∷ 0x7b ∷ 0xfd ∷ 0xfc ∷ 0x7d ∷ 0x7d ∷ 0x7a ∷ []

abbrev receive : List ℕ → CReceive
receive heard =
    record {
      rec = record_bytes common;
      a_law = false;
      frames = 2;
      control = true;
      octets = octets;
      bits = replicate 5 1;
      marks = replicate 2 9;
      heard = heard;
    }

abbrev receiving : List CReceive
receiving = receive (replicate 7 3) ∷ receive (replicate 9 3) ∷ []

instance : CRun common Mu start start sending receiving clean (c_sent start sending) 2
unfolding list_from any largest parts joined each after first bit_at bits_in field bytes_of nth number_of bits_of top_index in_mask taps push
    push_all scramble size_of point_of member sizes product labels signs_of positive_octet octet data_bits sequence_sent control_bits line_bits
    frame_signs frame_labels frame_octets send_frame send_next outgoing_frames send_frames send_after index_too_large drn_too_large granted_below_full_rate
    interval_empty product_too_small mask_above_indices frames_at_cleardown history_too_large doubtful_too_large place_too_large too_many_frames empty_test
    empty_tests rate_tests record_tests state_tests line_tests buffer_tests frame_tests send_refusal send_bits send_left send_octets receive_refusal over_calls
    AllCalls Carried record_byte record_bytes record_at state_byte state_bytes state_at answered frame_answer state_left v91_send then_short
    v91_receive c_sent c_send_choices CSendsWith c_octets_read c_receive_choices CReceivesWith
instance =
    record {
      sender = (λ e. (refl, refl), (λ e. absurd (true≢false (sym e)), (λ e. (refl, refl), (λ e. (refl, refl), tt))));
      receiver = (λ e. absurd (true≢false (sym e)), (λ e. (refl, refl), tt));
      carried = (refl, λ i o k h. refl);
      inside = lit≤ tt;
      reads = refl;
      choices = λ i h. refl;
      places = λ i e. refl;
    }

-- and what it concludes
pub instance_delivered : Delivered common clean (state_at start) (state_at start) 2 (c_send_choices start sending) (c_message start sending)
    (c_handed_over start receiving) (c_marks_given start receiving)
instance_delivered = c_runs common Mu start start sending receiving clean (c_sent start sending) 2 instance

pub instance_counted : Counted common (state_at start) 2 (c_state_before common Mu start receiving) (c_send_choices start sending)
    (c_message start sending) (c_handed_over start receiving) (c_marks_given start receiving) (state_at (after c_receive_left start receiving))
instance_counted =
    c_counts common Mu start start sending receiving clean (c_sent start sending) 2 instance (λ i h. inl (λ k q. refl)) (inr (refl, refl))

-- the sequence ends with the second frame, and is heard
pub instance_said : c_said_given start receiving ≡ (1 ∷ 7 ∷ 0 ∷ 0 ∷ 0 ∷ 0 ∷ 0 ∷ 0 ∷ []) ∷ []
unfolding list_from any largest parts joined each after first bit_at bits_in field bytes_of nth number_of bits_of top_index in_mask crc_step crc_over
    size_of label_of member sizes product number sign_bits positive_octet sign_of ucode_of slip_pattern sequence_crc pattern_wrong crc_wrong
    sequence_in judged data_bits received_number outside_test outside_tests mark_tests mark heard_bits heard_control sequence_so_far lost_so_far said_in
    receive_next incoming_frames index_too_large drn_too_large granted_below_full_rate interval_empty product_too_small mask_above_indices
    frames_at_cleardown history_too_large doubtful_too_large place_too_large too_many_frames empty_test empty_tests rate_tests record_tests state_tests line_tests
    buffer_tests frame_tests receive_refusal over_calls record_byte record_bytes record_at state_at said_kind said_bits heard_byte heard_bytes answered
    frame_answer then_short v91_receive c_frames_read c_said_at
instance_said = c_said common Mu start receiving instance.receiver

-- A.3's premises: a CP and E_s from the zero state, in mu-law, heard behind two other octets by an end that began elsewhere
abbrev cp : CSendCp
cp = record { rec = record_bytes common; a_law = false; octets = replicate 306 9 }

abbrev left : List ℕ
left = 0x49 ∷ 0x8f ∷ 0x72 ∷ replicate 18 0

pub instance_started : CStart (replicate 21 0) (5 ∷ 0 ∷ 0 ∷ 0 ∷ 2 ∷ replicate 16 0) left left cp (1 ∷ 2 ∷ [])
unfolding list_from any largest last_or last_of first bit_at field top_index in_mask taps push push_all scramble size_of member sizes product signs_of
    sign_bits positive_octet octet sign_of crc_step crc_over cp_crc bit_in head_fields mask_fields cp_body crc_field cp_bit cp_and_end signs_for octets_for
    left_by bits_between found_history found_sign found_in index_too_large drn_too_large granted_below_full_rate interval_empty product_too_small
    mask_above_indices history_too_large doubtful_too_large place_too_large empty_test empty_tests rate_tests record_tests state_tests send_cp_tests
    send_cp_refusal send_cp_count send_cp_octets send_cp_left find_refusal find_left record_byte record_bytes record_at state_byte line_bytes state_at
    answered frame_answer v91_send_cp v91_find_state
instance_started = record { sends = refl; left = refl; lent = lit≤ tt; finds = refl }
