-- An instance of A.13's premises: five frames, the sign of interval 5 in frame 1 flipped, and the channel on in frame 0; and what comes of
-- it where the second frame after that one is marked. Assumes nothing.
use mathlib.Core.Path.{◌≡◌, refl}
use Prim.Native.Nat.{ℕ, zero, suc, ◌+◌, ◌<◌}
use mathlib.Core.Bool.{Bool, true, false}
use mathlib.Core.List.{List, [], ◌∷◌, ◌++◌}
use native.Mathlib.Omega.{arith}
use lib.Dec.{lit<}
use lib.ListN.{get_or, take, drop, replicate}
use Rattle.standard.specs.Lists.{list_from, any, largest, list_where, parts, joined, each, after, last_or}
use Rattle.standard.specs.First.{first}
use Rattle.standard.specs.Bits.{bit_at, bits_in, field, bytes_of, nth, number_of, bits_of}
use Rattle.standard.specs.Record.{top_index, in_mask}
use Rattle.standard.specs.Scrambler.{taps, push, push_all, descramble}
use Rattle.standard.specs.Constellation.{size_of, label_of, member, sizes}
use Rattle.standard.specs.Modulus.{product, number}
use Rattle.standard.specs.Signs.{sign_bits}
use Rattle.standard.specs.Octets.{positive_octet, octet, sign_of, ucode_of}
use Rattle.standard.specs.Frame.{data_bits, received_number, outside_test, outside_tests, mark_tests, mark, heard_bits, heard_control, heard_data}
use Rattle.standard.specs.Frame.{receive_frame, sequence_so_far, lost_so_far, doubtful_after, receive_next, incoming_frames, receive_frames}
use Rattle.standard.specs.Frame.{receive_marks, receive_after}
use Rattle.standard.specs.Flip.{other_sign, flip_at, changes, changed_places, frames_after}
use Rattle.standard.specs.Refusals.{index_too_large, drn_too_large, granted_below_full_rate, interval_empty, product_too_small, mask_above_indices}
use Rattle.standard.specs.Refusals.{frames_at_cleardown, history_too_large, doubtful_too_large, place_too_large, too_many_frames, empty_test}
use Rattle.standard.specs.Refusals.{empty_tests, rate_tests, record_tests, state_tests, line_tests, buffer_tests, frame_tests}
use Rattle.standard.specs.Calls.{ReceiveCall, receive_refusal, receive_octets, receive_left, receive_bytes, receive_marked}
use Rattle.standard.specs.declared.LineState.{LineState}
use Rattle.standard.specs.declared.Law.TheVariants.{Mu}
use Rattle.theorems_cp.specs.Examples.{common, state}
use Rattle.theorems.specs.Runs.{over_calls, AllCalls, octets_read, handed_over, marks_given, receive_choices, ReceivesWith, begins}
use Rattle.theorems_flip.specs.Flip.{Within, Hit, differing, Costs}
use Rattle.theorems_flip.proofs.Flip.{flip_costs}

abbrev call : Bool → ℕ → List ℕ → ReceiveCall
call on n os = record { cp = common; law = Mu; frames = n; control = on; octets = os; bytes = replicate 10 1; marks = replicate 4 9 }

-- five frames, of which the fourth is handed in and the last is marked
abbrev line : List ℕ → List ℕ
line six =
    0xff ∷ 0x7e ∷ 0xfd ∷ 0x7c ∷ 0xfb ∷ 0x7c ∷ 0x7f ∷ 0xfe ∷ 0x7d ∷ 0xfc ∷ 0x7b ∷ 0xfd ∷ 0xfe ∷ 0xfa ∷ 0x7f ∷ 0x7e ∷ 0xff ∷ 0xfc
    ∷ (six ++ (0x80 ∷ 0x7c ∷ 0x7c ∷ 0xfa ∷ 0xff ∷ 0xfe ∷ []))

-- one frame with the channel on; then, off, a call that is refused for its 2,000 frames, two frames, and two
abbrev one : List ℕ → List ReceiveCall
one os = call true 1 (take 6 os) ∷ call false 2000 [] ∷ call false 2 (drop 6 os) ∷ call false 2 (drop 18 os) ∷ []

-- one, three and one
abbrev other : List ℕ → List ReceiveCall
other os = call true 1 (take 6 os) ∷ call false 3 (drop 6 os) ∷ call false 1 (drop 24 os) ∷ []

abbrev begun : LineState
begun = state 77 true

-- a fourth frame that is good
abbrev clear : List ℕ
clear = line (0x7e ∷ 0x7e ∷ 0xfd ∷ 0xfd ∷ 0xff ∷ 0x7d ∷ [])

-- and one that is marked
abbrev marred : List ℕ
marred = line (0x7e ∷ 0x80 ∷ 0xfd ∷ 0xfd ∷ 0xff ∷ 0x7d ∷ [])

-- the places at which the bits handed over differ where the sign of interval 5 in frame 1 is flipped
abbrev changed : List ℕ → List ℕ
changed os = differing (handed_over begun (one os)) (handed_over begun (other (flip_at Mu 11 os)))

reads : ReceivesWith common Mu begun (one clear) × ReceivesWith common Mu begun (other (flip_at Mu 11 clear))
unfolding AllCalls ReceivesWith
reads = (
  (λ e. (refl, refl), (λ e. (refl, refl), (λ e. (refl, refl), (λ e. (refl, refl), tt)))),
  (λ e. (refl, refl), (λ e. (refl, refl), (λ e. (refl, refl), tt))),
)

-- the premises; and six bits, of which the first is bit 5 after the 15 of frame 0, but five where the second frame after that one is marked:
-- two good frames are needed
pub computed : Hit common Mu 1 5 (receive_choices begun (one clear)) (receive_choices begun (other (flip_at Mu 11 clear)))
    (octets_read begun (one clear)) (octets_read begun (other (flip_at Mu 11 clear))) (marks_given begun (one clear))
    × (changed clear ≡ 20 ∷ 36 ∷ 38 ∷ 43 ∷ 54 ∷ 59 ∷ []) × (changed marred ≡ 20 ∷ 36 ∷ 38 ∷ 43 ∷ 54 ∷ [])
unfolding list_from any largest last_or list_where parts joined each after first bit_at bits_in field bytes_of nth number_of bits_of top_index in_mask
    taps push push_all descramble size_of label_of member sizes product number sign_bits positive_octet octet sign_of ucode_of data_bits
    received_number outside_test outside_tests mark_tests mark heard_bits heard_control heard_data receive_frame sequence_so_far lost_so_far
    doubtful_after receive_next incoming_frames receive_frames receive_marks receive_after other_sign flip_at changes changed_places frames_after
    index_too_large drn_too_large granted_below_full_rate interval_empty product_too_small mask_above_indices frames_at_cleardown history_too_large
    doubtful_too_large place_too_large too_many_frames empty_test empty_tests rate_tests record_tests state_tests line_tests buffer_tests frame_tests
    receive_refusal receive_octets receive_left receive_bytes receive_marked over_calls octets_read handed_over marks_given receive_choices differing
computed =
    (record { choices = refl; interval = lit< tt; flipped = refl; read = lit< tt; good = marked; off = chosen }, refl, refl)
  where
    marked : (j : ℕ) → Within 15 5 1 j → get_or (marks_given begun (one clear)) j 0 ≡ 0
    marked zero w = absurd (omega (arith, w.0))
    marked (suc zero) w = refl
    marked (suc (suc zero)) w = refl
    marked (suc (suc (suc zero))) w = refl
    marked (suc (suc (suc (suc j)))) w = absurd (omega (arith, w.1))

    chosen : (j : ℕ) → Within 15 5 1 j → nth (receive_choices begun (one clear)) j ≡ false
    chosen zero w = absurd (omega (arith, w.0))
    chosen (suc zero) w = refl
    chosen (suc (suc zero)) w = refl
    chosen (suc (suc (suc zero))) w = refl
    chosen (suc (suc (suc (suc j)))) w = absurd (omega (arith, w.1))

-- and what the theorem concludes
pub instance_flipped : Costs 15 5 (begins common begun (receive_choices begun (one clear)) 1) (handed_over begun (one clear))
    (handed_over begun (other (flip_at Mu 11 clear))) (marks_given begun (one clear)) (marks_given begun (other (flip_at Mu 11 clear)))
    (after receive_left begun (one clear)) (after receive_left begun (other (flip_at Mu 11 clear)))
instance_flipped = flip_costs common Mu begun (one clear) (other (flip_at Mu 11 clear)) 1 5 reads.0 reads.1 computed.0

-- where four bits change: the second sign bit is 18 or 23 places after the first
pub places_17 : changed_places 17 5 ≡ 5 ∷ 28 ∷ 41 ∷ 46 ∷ []
unfolding list_where changes changed_places
places_17 = refl

pub places_22 : changed_places 22 5 ≡ 5 ∷ 23 ∷ 46 ∷ 51 ∷ []
unfolding list_where changes changed_places
places_22 = refl
