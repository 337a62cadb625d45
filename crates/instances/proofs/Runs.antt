-- An instance of demand 3's premises: refused calls between accepted ones, damage, a receiver in another state, lists cut differently, the
-- control channel on. Assumes nothing.
use mathlib.Core.Path.{◌≡◌, refl, sym, ap, ◌∙◌}
use mathlib.Core.Logic.{◌⊎◌, inl, inr}
use Prim.Native.Nat.{ℕ, zero, suc, ◌+◌, ◌*◌, ◌<◌}
use mathlib.Core.Bool.{true, false, true≢false}
use mathlib.Core.List.{List, [], ◌∷◌}
use native.Mathlib.Omega.{arith}
use lib.Dec.{lit≤}
use lib.ListN.{get_or, take, drop, replicate}
use lib.Seq.{get_or-drop}
use Rattle.standard.specs.Lists.{list_from, any, largest, parts, joined, each, after}
use Rattle.standard.specs.First.{first}
use Rattle.standard.specs.Bits.{bit_at, bits_in, field, bytes_of, nth, number_of, bits_of}
use Rattle.standard.specs.Record.{top_index, in_mask}
use Rattle.standard.specs.Scrambler.{taps, push, push_all, scramble, descramble}
use Rattle.standard.specs.Constellation.{size_of, label_of, point_of, member, sizes}
use Rattle.standard.specs.Modulus.{product, labels, number}
use Rattle.standard.specs.Signs.{signs_of, sign_bits}
use Rattle.standard.specs.Octets.{positive_octet, octet, sign_of, ucode_of}
use Rattle.standard.specs.Crc.{crc_step, crc_over}
use Rattle.standard.specs.Cp.{bit_in}
use Rattle.standard.specs.Control.{slip_pattern, sequence_body, sequence_crc, sequence_bit, sequence_bytes}
use Rattle.standard.specs.Frame.{fresh, data_bits, sequence_sent, control_bits, line_bits, frame_signs, frame_labels, frame_octets, send_frame}
use Rattle.standard.specs.Frame.{send_next, received_number, outside_test, outside_tests, mark_tests, mark, heard_bits, heard_control, heard_data}
use Rattle.standard.specs.Frame.{receive_frame, sequence_so_far, lost_so_far, doubtful_after, receive_next, outgoing_frames, send_frames, send_after}
use Rattle.standard.specs.Frame.{incoming_frames, receive_frames, receive_marks, receive_after}
use Rattle.standard.specs.Refusals.{index_too_large, drn_too_large, granted_below_full_rate, interval_empty, product_too_small, mask_above_indices}
use Rattle.standard.specs.Refusals.{frames_at_cleardown, history_too_large, doubtful_too_large, place_too_large, too_many_frames, empty_test}
use Rattle.standard.specs.Refusals.{empty_tests, rate_tests, record_tests, state_tests, line_tests, buffer_tests, frame_tests}
use Rattle.standard.specs.Calls.{SendCall, send_refusal, send_bits, send_left, send_octets, ReceiveCall, receive_refusal, receive_octets}
use Rattle.standard.specs.Calls.{receive_left, receive_bytes, receive_marked}
use Rattle.standard.specs.declared.Law.TheVariants.{Mu, A}
use Rattle.theorems_cp.specs.Examples.{common, full, state}
use Rattle.theorems.specs.Runs.{over_calls, AllCalls, message, sent, octets_read, handed_over, marks_given, send_choices, receive_choices}
use Rattle.theorems.specs.Runs.{SendsWith, ReceivesWith, frames, Carried, Run, Delivered}
use Rattle.theorems.proofs.Runs.{runs}

abbrev send : ℕ → List ℕ → SendCall
send n xs = record { cp = common; law = Mu; frames = n; control = true; sequence = 5; bytes = xs; octets = replicate 20 7 }

-- one frame, a call that is refused for its 2,000 frames, one that is refused for its short buffer with another record and law, two frames
abbrev sending : List SendCall
sending =
    send 1 (1 ∷ 2 ∷ 3 ∷ []) ∷
    send 2000 [] ∷
    record { cp = full; law = A; frames = 1; control = false; sequence = 0; bytes = []; octets = replicate 6 0 } ∷
    send 2 (0x55 ∷ 0xaa ∷ 0x12 ∷ 0x34 ∷ 0x56 ∷ 0x78 ∷ []) ∷ []

-- what the line makes of it: other octets in frame 0, which is a control frame
abbrev delivered : List ℕ
delivered = 0xff ∷ 0x12 ∷ 0x7a ∷ 0 ∷ 3 ∷ 0xff ∷ drop 6 (sent fresh sending)

abbrev receive : ℕ → List ℕ → ReceiveCall
receive n xs = record { cp = common; law = Mu; frames = n; control = true; octets = xs; bytes = replicate 9 1; marks = replicate 3 9 }

-- two frames, a call that is refused, one frame
abbrev receiving : List ReceiveCall
receiving =
    receive 2 (take 12 delivered) ∷
    record { cp = common; law = A; frames = 5; control = false; octets = []; bytes = []; marks = [] } ∷
    receive 1 (drop 12 delivered) ∷ []

-- past the six octets in front
past : (a b c d e h : ℕ) (xs : List ℕ) (i k : ℕ) → 0 < i → get_or (a ∷ b ∷ c ∷ d ∷ e ∷ h ∷ drop 6 xs) (i * 6 + k) 0 ≡ get_or xs (i * 6 + k) 0
past a b c d e h xs zero k l = absurd (omega arith)
past a b c d e h xs (suc i) k l =
    let z : suc i * 6 + k ≡ suc (suc (suc (suc (suc (suc (i * 6 + k)))))) = omega arith in
    let y : suc i * 6 + k ≡ 6 + (i * 6 + k) = omega arith in
    ap (λ (n : ℕ). get_or (a ∷ b ∷ c ∷ d ∷ e ∷ h ∷ drop 6 xs) n 0) z ∙ get_or-drop 6 xs (i * 6 + k) 0 ∙ ap (λ (n : ℕ). get_or xs n 0) (sym y)

-- all of demand 3's premises; the altered frame gets a mark, the others none
instance : Run common Mu fresh (state 77 true) sending receiving (frames 0 0) delivered 3
    × (marks_given (state 77 true) receiving ≡ 2 ∷ 0 ∷ 0 ∷ [])
unfolding list_from any largest parts joined each after first bit_at bits_in field bytes_of nth number_of bits_of top_index in_mask taps push
    push_all scramble descramble size_of label_of point_of member sizes product labels number signs_of sign_bits positive_octet octet sign_of
    ucode_of crc_step crc_over bit_in slip_pattern sequence_body sequence_crc sequence_bit sequence_bytes fresh data_bits sequence_sent control_bits
    line_bits frame_signs frame_labels frame_octets send_frame send_next received_number outside_test outside_tests mark_tests mark heard_bits
    heard_control heard_data receive_frame sequence_so_far lost_so_far doubtful_after receive_next outgoing_frames send_frames send_after incoming_frames
    receive_frames receive_marks receive_after index_too_large drn_too_large granted_below_full_rate interval_empty product_too_small mask_above_indices
    frames_at_cleardown history_too_large doubtful_too_large place_too_large too_many_frames empty_test empty_tests rate_tests record_tests state_tests line_tests
    buffer_tests frame_tests send_refusal send_bits send_left send_octets receive_refusal receive_octets receive_left receive_bytes receive_marked
    over_calls AllCalls sent octets_read marks_given send_choices receive_choices SendsWith ReceivesWith Carried
instance = (
  record {
    sender = (λ e. (refl, refl), (λ e. (refl, refl), (λ e. absurd (true≢false (sym e)), (λ e. (refl, refl), tt))));
    receiver = (λ e. (refl, refl), (λ e. absurd (true≢false (sym e)), (λ e. (refl, refl), tt)));
    carried = (refl, λ i o k h. past 0xff 0x12 0x7a 0 3 0xff (sent fresh sending) i k (later i o));
    inside = lit≤ tt;
    reads = refl;
    choices = chosen;
    places = λ i e. refl;
  },
  refl,
)
  where
    later : (i : ℕ) → (i < 0) ⊎ (0 < i) → 0 < i
    later i (inl h) = absurd (omega arith)
    later i (inr h) = h

    chosen : (i : ℕ) → i < 3 → nth (receive_choices (state 77 true) receiving) i ≡ nth (send_choices fresh sending) i
    chosen zero h = refl
    chosen (suc zero) h = refl
    chosen (suc (suc zero)) h = refl
    chosen (suc (suc (suc i))) h = absurd (omega arith)

-- and what it concludes
pub instance_delivered : Delivered common (frames 0 0) fresh (state 77 true) 3 (send_choices fresh sending) (message fresh sending)
    (handed_over (state 77 true) receiving) (marks_given (state 77 true) receiving)
instance_delivered = runs common Mu fresh (state 77 true) sending receiving (frames 0 0) delivered 3 instance.0
