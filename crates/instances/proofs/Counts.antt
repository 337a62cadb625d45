-- An instance of A.1's premises: two separate frames are damaged and marked, the receiver is told that it begins cold, the lists are cut
-- differently. Assumes nothing.
use mathlib.Core.Path.{◌≡◌, refl, sym, ap, ◌∙◌}
use mathlib.Core.Logic.{◌⊎◌, inl, inr}
use Prim.Native.Nat.{ℕ, zero, suc, ◌+◌, ◌*◌, ◌<◌}
use mathlib.Core.Bool.{Bool, true, false, true≢false}
use mathlib.Core.List.{List, [], ◌∷◌}
use native.Mathlib.Nat.{suc-ne-zero}
use native.Mathlib.Omega.{arith}
use lib.Dec.{lit≤}
use lib.ListN.{length, get_or, take, drop, replicate, get_or-eq_default}
use lib.Seq.{get_or-take, get_or-drop}
use Rattle.standard.specs.Lists.{list_from, any, largest, parts, joined, each, after}
use Rattle.standard.specs.First.{first}
use Rattle.standard.specs.Bits.{bit_at, bits_in, field, bytes_of, nth, number_of, bits_of}
use Rattle.standard.specs.Record.{top_index, in_mask}
use Rattle.standard.specs.Scrambler.{taps, push, push_all, scramble, descramble}
use Rattle.standard.specs.Constellation.{size_of, label_of, point_of, member, sizes}
use Rattle.standard.specs.Modulus.{product, labels, number}
use Rattle.standard.specs.Signs.{signs_of, sign_bits}
use Rattle.standard.specs.Octets.{positive_octet, octet, sign_of, ucode_of}
use Rattle.standard.specs.Crc.{crc_step, crc_over}
use Rattle.standard.specs.Cp.{bit_in}
use Rattle.standard.specs.Control.{slip_pattern, sequence_body, sequence_crc, sequence_bit, sequence_bytes}
use Rattle.standard.specs.Frame.{fresh, data_bits, sequence_sent, control_bits, line_bits, frame_signs, frame_labels, frame_octets, send_frame}
use Rattle.standard.specs.Frame.{send_next, received_number, outside_test, outside_tests, mark_tests, mark, heard_bits, heard_control, heard_data}
use Rattle.standard.specs.Frame.{receive_frame, sequence_so_far, lost_so_far, doubtful_after, receive_next, outgoing_frames, send_frames, send_after}
use Rattle.standard.specs.Frame.{incoming_frames, receive_frames, receive_marks, receive_after}
use Rattle.standard.specs.Refusals.{index_too_large, drn_too_large, granted_below_full_rate, interval_empty, product_too_small, mask_above_indices}
use Rattle.standard.specs.Refusals.{frames_at_cleardown, history_too_large, doubtful_too_large, place_too_large, too_many_frames, empty_test}
use Rattle.standard.specs.Refusals.{empty_tests, rate_tests, record_tests, state_tests, line_tests, buffer_tests, frame_tests}
use Rattle.standard.specs.Calls.{SendCall, send_refusal, send_bits, send_left, send_octets, ReceiveCall, receive_refusal, receive_octets}
use Rattle.standard.specs.Calls.{receive_left, receive_bytes, receive_marked}
use Rattle.standard.specs.declared.Law.TheVariants.{Mu}
use Rattle.standard.specs.declared.LineState.{LineState}
use Rattle.theorems_cp.specs.Examples.{common}
use Rattle.theorems.specs.Runs.{over_calls, AllCalls, message, sent, octets_read, handed_over, marks_given, send_choices, receive_choices}
use Rattle.theorems.specs.Runs.{frames_read, state_before, SendsWith, ReceivesWith, frames, Unaltered, Carried, Run}
use Rattle.theorems.specs.Counts.{AlteredMarked, Counted}
use Rattle.theorems.proofs.Counts.{counts}

abbrev send : ℕ → List ℕ → SendCall
send n xs = record { cp = common; law = Mu; frames = n; control = false; sequence = 0; bytes = xs; octets = replicate 20 7 }

-- two frames, a call that is refused for its 2,000 frames, three frames
abbrev sending : List SendCall
sending =
    send 2 (1 ∷ 2 ∷ 3 ∷ 4 ∷ 5 ∷ 6 ∷ []) ∷
    send 2000 [] ∷
    send 3 (0x55 ∷ 0xaa ∷ 0x12 ∷ 0x34 ∷ 0x56 ∷ 0x78 ∷ 0x9a ∷ 0xbc ∷ []) ∷ []

-- the five frames that they send, one a line
abbrev octets : List ℕ
octets =
    0xfa ∷ 0xfc ∷ 0xfb ∷ 0xfd ∷ 0xff ∷ 0xfa ∷
    0xff ∷ 0xfe ∷ 0x7b ∷ 0x7e ∷ 0x7e ∷ 0xfd ∷
    0x7d ∷ 0x7c ∷ 0x7c ∷ 0xff ∷ 0xfe ∷ 0xfa ∷
    0xfd ∷ 0x7c ∷ 0xff ∷ 0x7a ∷ 0xfc ∷ 0x7a ∷
    0xfb ∷ 0xfe ∷ 0xfc ∷ 0x7b ∷ 0xfb ∷ 0x7a ∷ []

-- what the line makes of them: in frame 0 the Ucode of interval 1 is outside its mask, in frame 3 the number R is 2 ^ K or more
abbrev delivered : List ℕ
delivered =
    0xff ∷ 0x12 ∷ 0x7a ∷ 0x00 ∷ 0x03 ∷ 0xff ∷
    0xff ∷ 0xfe ∷ 0x7b ∷ 0x7e ∷ 0x7e ∷ 0xfd ∷
    0x7d ∷ 0x7c ∷ 0x7c ∷ 0xff ∷ 0xfe ∷ 0xfa ∷
    0xff ∷ 0xff ∷ 0xff ∷ 0xff ∷ 0xff ∷ 0xff ∷
    0xfb ∷ 0xfe ∷ 0xfc ∷ 0x7b ∷ 0xfb ∷ 0x7a ∷ []

-- a receiver told that it begins cold, in another history and sign than the sender
abbrev begun : LineState
begun = record { history = 77; sign = true; doubtful = 24; place = 0; done = 0; sequence = replicate 12 0; lost = false }

abbrev receive : ℕ → List ℕ → ReceiveCall
receive n xs = record { cp = common; law = Mu; frames = n; control = false; octets = xs; bytes = replicate 9 1; marks = replicate 3 9 }

-- three frames, a call that is refused for its short buffer, two frames
abbrev receiving : List ReceiveCall
receiving = receive 3 (take 18 delivered) ∷ receive 1 [] ∷ receive 2 (drop 18 delivered) ∷ []

-- what the calls come to, and the count before each frame and after the last: a marked frame sets it to 24, and a good one lowers it by 21,
-- not below 0
computed : SendsWith common Mu fresh sending
    × (sent fresh sending ≡ octets)
    × ReceivesWith common Mu begun receiving
    × (octets_read begun receiving ≡ delivered)
    × (receive_choices begun receiving ≡ send_choices fresh sending)
    × (marks_given begun receiving ≡ 2 ∷ 0 ∷ 0 ∷ 7 ∷ 0 ∷ [])
    × (list_from (λ i. (state_before common Mu begun receiving i).doubtful) 0 6 ≡ 24 ∷ 24 ∷ 3 ∷ 0 ∷ 24 ∷ 3 ∷ [])
unfolding list_from any largest parts joined each after first bit_at bits_in field bytes_of nth number_of bits_of top_index in_mask taps push
    push_all scramble descramble size_of label_of point_of member sizes product labels number signs_of sign_bits positive_octet octet sign_of
    ucode_of crc_step crc_over bit_in slip_pattern sequence_body sequence_crc sequence_bit sequence_bytes fresh data_bits sequence_sent control_bits
    line_bits frame_signs frame_labels frame_octets send_frame send_next received_number outside_test outside_tests mark_tests mark heard_bits
    heard_control heard_data receive_frame sequence_so_far lost_so_far doubtful_after receive_next outgoing_frames send_frames send_after incoming_frames
    receive_frames receive_marks receive_after index_too_large drn_too_large granted_below_full_rate interval_empty product_too_small mask_above_indices
    frames_at_cleardown history_too_large doubtful_too_large place_too_large too_many_frames empty_test empty_tests rate_tests record_tests state_tests line_tests
    buffer_tests frame_tests send_refusal send_bits send_left send_octets receive_refusal receive_octets receive_left receive_bytes receive_marked
    over_calls AllCalls sent octets_read marks_given send_choices receive_choices frames_read state_before SendsWith ReceivesWith Carried
computed = (
  (λ e. (refl, refl), (λ e. absurd (true≢false (sym e)), (λ e. (refl, refl), tt))),
  refl,
  (λ e. (refl, refl), (λ e. absurd (true≢false (sym e)), (λ e. (refl, refl), tt))),
  refl,
  refl,
  refl,
  refl,
)

-- a frame whose six octets are those sent
alone : (xs ys : List ℕ) (i : ℕ) → take 6 (drop (i * 6) ys) ≡ take 6 (drop (i * 6) xs) → Unaltered xs ys i
alone xs ys i e k h = sym (at ys) ∙ ap (λ (x : List ℕ). get_or x k 0) e ∙ at xs
  where
    at : (zs : List ℕ) → get_or (take 6 (drop (i * 6) zs)) k 0 ≡ get_or zs (i * 6 + k) 0
    at zs = get_or-take 6 (drop (i * 6) zs) k 0 h ∙ get_or-drop (i * 6) zs k 0

run : Run common Mu fresh begun sending receiving (frames 0 4) delivered 5
unfolding Carried fresh
run =
    record {
      sender = computed.0;
      receiver = computed.2;
      carried = rw computed.1 (refl, λ i o k h. end delivered i k o refl ∙ sym (end octets i k o refl));
      inside = lit≤ tt;
      reads = computed.3;
      choices = λ i h. ap (λ (on : List Bool). nth on i) computed.4;
      places = λ i e. refl;
    }
  where
    end : (xs : List ℕ) (i k : ℕ) → (i < 0) ⊎ (4 < i) → length xs ≡ 30 → get_or xs (i * 6 + k) 0 ≡ 0
    end xs i k (inl h) e = absurd (omega arith)
    end xs i k (inr h) e = get_or-eq_default xs 0 {n = i * 6 + k} (omega arith)

marked_or-sent : AlteredMarked 5 octets delivered (2 ∷ 0 ∷ 0 ∷ 7 ∷ 0 ∷ [])
marked_or-sent zero h = inr (suc-ne-zero 1)
marked_or-sent (suc zero) h = inl (alone octets delivered 1 refl)
marked_or-sent (suc (suc zero)) h = inl (alone octets delivered 2 refl)
marked_or-sent (suc (suc (suc zero))) h = inr (suc-ne-zero 6)
marked_or-sent (suc (suc (suc (suc zero)))) h = inl (alone octets delivered 4 refl)
marked_or-sent (suc (suc (suc (suc (suc i))))) h = absurd (omega arith)

-- and what it concludes: bits 3 to 20 of frame 2, past the count 3 before it, are those sent, and none of frames 1 and 4 need be
pub instance_counted : Counted common fresh 5 (state_before common Mu begun receiving) (send_choices fresh sending) (message fresh sending)
    (handed_over begun receiving) (marks_given begun receiving) (after receive_left begun receiving)
instance_counted =
    counts common Mu fresh begun sending receiving (frames 0 4) delivered 5 run
    (rw (computed.1, computed.5) marked_or-sent) (inl refl)
