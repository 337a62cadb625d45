-- Document 01, 'From data to line', and document 02, A.1 and A.2: a data frame sent, a data frame received with its mark, and N frames.
-- With the control channel on, some of them are control frames. Assumes nothing.
use Rattle.std.specs.Prelude.{ℕ, zero, suc, ◌+◌, ◌*◌, ◌-◌, ◌%◌, ◌^◌, Bool, false, cond, not, ◌&&◌, ◌||◌, List, [], ◌∷◌, ◌++◌, map, eqb, leb, get_or, take, drop, replicate}
use Rattle.standard.specs.Lists.{list_from, parts, joined, each, after}
use Rattle.standard.specs.First.{Test, test, first}
use Rattle.standard.specs.Bits.{bit_at, bits_in, bytes_of, nth, number_of, bits_of}
use Rattle.standard.specs.Record.{K, D}
use Rattle.standard.specs.Scrambler.{push_all, scramble, descramble}
use Rattle.standard.specs.Constellation.{member, label, point, sizes}
use Rattle.standard.specs.Modulus.{labels, number}
use Rattle.standard.specs.Signs.{signs_of, sign_bits}
use Rattle.standard.specs.Octets.{octet, sign_of, ucode_of}
use Rattle.standard.specs.Control.{sequence_bytes, judged}
use Rattle.standard.specs.declared.Law.{Law}
use Rattle.standard.specs.declared.LineState.{LineState}
use Rattle.standard.specs.declared.Record.{Record}
use Rattle.standard.specs.declared.Said.{Said}

-- the line state of an end that begins where nothing went before, with c doubtful bits. 'Line state' is a term of document 01; A.2's fields
-- are zero too
abbrev pub begun : ℕ → LineState
begun c = record { history = 0; sign = false; doubtful = c; place = 0; done = 0; sequence = replicate 12 0; lost = false }

-- 'The fresh state is zero for both.' A.1: 'The line state gains a count from 0 to 24: 24 for a receiver told that it begins cold, else 0.'
unfoldable pub fresh : LineState
fresh = begun 0

unfoldable pub cold : LineState
cold = begun 24

-- ---- the control channel (V.91 6.3.9, A.2): `on` is 'a choice handed in', p a frame place

-- 'The first data frame and every 64th after it give their six sign bits to the channel': '0 for a control frame'
abbrev pub is_control : Bool → ℕ → Bool
is_control on p = on && eqb p 0

-- the frame place after a frame, '0 to 63'. 'Off, the new fields pass through.'
abbrev pub next_place : Bool → ℕ → ℕ
next_place on p = cond on ((p + 1) % 64) p

-- a frame's data bits: D, and K in a control frame
abbrev pub width : Record → Bool → ℕ
width r control = cond control (K r) (D r)

-- 'a call's data bits lie end to end': those of n frames from the frame place p on, which is where those of frame n begin. Frame i has the
-- choice `on i`
unfoldable pub data_bits : Record → (ℕ → Bool) → ℕ → ℕ → ℕ
data_bits r on p zero = 0
data_bits r on p (suc n) = width r (is_control (on 0) p) + data_bits r (λ i. on (suc i)) (next_place (on 0) p) n

-- those of n frames that have one choice
abbrev pub call_bits : Record → Bool → ℕ → ℕ → ℕ
call_bits r on p n = data_bits r (λ i. on) p n

-- the frame that meets this state is a control frame
abbrev pub controls : LineState → Bool → Bool
controls st on = is_control on st.place

-- 'Sixteen control frames make the 96-bit sequence': one starts with the frame, or ends with it
abbrev pub starts_in : LineState → Bool → Bool
starts_in st on = controls st on && eqb st.done 0

abbrev pub ends_in : LineState → Bool → Bool
ends_in st on = controls st on && eqb st.done 15

-- the sequence place after a frame: '0 to 15 control frames done'
abbrev pub next_done : LineState → Bool → ℕ
next_done st on = cond (controls st on) ((st.done + 1) % 16) st.done

-- ---- sending

-- a frame to be sent: the channel's choice, the bits for a sequence that starts in it, and its data bits
pub record Outgoing : Type 0 where
  pub control : Bool
  pub sequence : ℕ
  pub bits : List Bool

-- the sequence: 'The sender takes bits 16, 17 and 24 to 77 for a sequence that starts in the call', and keeps it until another starts
unfoldable pub sequence_sent : LineState → Outgoing → List ℕ
sequence_sent st f = cond (starts_in st f.control) (sequence_bytes f.sequence) st.sequence

-- the six bits of it that a control frame has
unfoldable pub control_bits : LineState → Outgoing → List Bool
control_bits st f = cond (controls st f.control) (list_from (bit_at (sequence_sent st f)) (6 * st.done) 6) []

-- a frame's D bits on the line: its data bits, scrambled; 'control bits are not scrambled'
unfoldable pub line_bits : LineState → Outgoing → List Bool
line_bits st f = control_bits st f ++ scramble st.history f.bits

-- 'The first six scrambled bits of a frame are s0 to s5.' Their six signs, after the sign g
unfoldable pub frame_signs : Bool → List Bool → List Bool
frame_signs g ss = signs_of g (take 6 ss)

-- 'The next K, lowest first, form the number R.' Its six labels
unfoldable pub frame_labels : Record → List Bool → List ℕ
frame_labels r ss = labels (sizes r) (number_of (drop 6 ss))

-- six octets, of a frame's bits on the line
unfoldable pub frame_octets : Record → Law → Bool → List Bool → List ℕ
frame_octets r l g ss = list_from (λ i. octet l (nth (frame_signs g ss) i) (point r i (get_or (frame_labels r ss) i 0))) 0 6

-- a frame: its octets, and the state left
unfoldable pub send_frame : Record → Law → LineState → Outgoing → List ℕ
send_frame r l st f = frame_octets r l st.sign (line_bits st f)

-- A.1: 'The sender carries it unchanged.' A.2: 'the sequence's bits (the sender's whole ..) and whether a frame of it was lost, taken as no
-- when one starts'
unfoldable pub send_next : LineState → Outgoing → LineState
send_next st f =
    record {
      history = push_all st.history (scramble st.history f.bits);
      sign = nth (frame_signs st.sign (line_bits st f)) 5;
      doubtful = st.doubtful;
      place = next_place f.control st.place;
      done = next_done st f.control;
      sequence = sequence_sent st f;
      lost = cond (starts_in st f.control) false st.lost;
    }

-- ---- receiving

-- the sign and the Ucode in interval i of six octets
abbrev pub sign_at : List ℕ → ℕ → Bool
sign_at os i = sign_of (get_or os i 0)

abbrev pub ucode_at : Law → List ℕ → ℕ → ℕ
ucode_at l os i = ucode_of l (get_or os i 0)

-- the number R of six octets
unfoldable pub received_number : Record → Law → List ℕ → ℕ
received_number r l os = number (sizes r) (list_from (λ i. label r i (ucode_at l os i)) 0 6)

-- 'Mark i + 1 names the first interval whose Ucode is outside its mask.'
unfoldable pub outside_test : Record → Law → List ℕ → ℕ → Test
outside_test r l os i = test (i + 1) (not (member r i (ucode_at l os i)))

unfoldable pub outside_tests : Record → Law → List ℕ → List Test
outside_tests r l os = list_from (outside_test r l os) 0 6

-- 'Mark 7 means all six belong but their number R is 2^K or more.'
unfoldable pub mark_tests : Record → Law → List ℕ → List Test
mark_tests r l os = outside_tests r l os ++ (test 7 (leb (2 ^ K r) (received_number r l os)) ∷ [])

-- 'Mark 0 is good.' A mark is a term of document 01
unfoldable pub mark : Record → Law → List ℕ → ℕ
mark r l os = (first (mark_tests r l os)).number

abbrev pub good : Record → Law → List ℕ → Bool
good r l os = eqb (mark r l os) 0

-- a frame's D bits on the line as received, where the last sign was g: 'A marked frame .. feeds D zeros to the history'
unfoldable pub heard_bits : Record → Law → Bool → List ℕ → List Bool
heard_bits r l g os =
    cond (good r l os) (sign_bits g (list_from (sign_at os) 0 6) ++ bits_of (K r) (received_number r l os)) (replicate (D r) false)

-- a frame received: the channel's choice, and its octets
pub record Incoming : Type 0 where
  pub control : Bool
  pub octets : List ℕ

-- its control bits, and the bits that it gives the history: 'A marked control frame .. keeps six zeros as its control bits and feeds K
-- zeros to the history.'
unfoldable pub heard_control : Record → Law → LineState → Incoming → List Bool
heard_control r l st y = cond (controls st y.control) (take 6 (heard_bits r l st.sign y.octets)) []

unfoldable pub heard_data : Record → Law → LineState → Incoming → List Bool
heard_data r l st y =
    let bits = heard_bits r l st.sign y.octets in
    cond (controls st y.control) (drop 6 bits) bits

-- its data bits: 'A marked frame gives D zero data bits'
unfoldable pub receive_frame : Record → Law → LineState → Incoming → List Bool
receive_frame r l st y =
    cond (good r l y.octets) (descramble st.history (heard_data r l st y)) (replicate (width r (controls st y.control)) false)

-- the sequence's bits so far, those of this frame last
unfoldable pub sequence_so_far : Record → Law → LineState → Incoming → List Bool
sequence_so_far r l st y = bits_in (6 * st.done) st.sequence ++ heard_control r l st y

-- 'whether a frame of it was lost, taken as no when one starts'
unfoldable pub lost_so_far : Record → Law → LineState → Incoming → Bool
lost_so_far r l st y = not (good r l y.octets) || (st.lost && not (starts_in st y.control))

-- what is said of a sequence that ends in the frame: one answer or none
unfoldable pub said_in : Record → Law → LineState → Incoming → List Said
said_in r l st y = cond (ends_in st y.control) (judged (lost_so_far r l st y) (nth (sequence_so_far r l st y)) ∷ []) []

-- A.1: 'A marked frame sets it to 24; a good frame lowers it by D, not below 0.' The count after a frame of d data bits, good or not, where
-- it is c before. A.2: 'Reach and A.1's count are in data bits'
unfoldable pub doubtful_after : ℕ → Bool → ℕ → ℕ
doubtful_after d isGood c = cond isGood (c - d) 24

-- the state left: 'its sixth octet still sets the last sign'
unfoldable pub receive_next : Record → Law → LineState → Incoming → LineState
receive_next r l st y =
    record {
      history = push_all st.history (heard_data r l st y);
      sign = sign_at y.octets 5;
      doubtful = doubtful_after (width r (controls st y.control)) (good r l y.octets) st.doubtful;
      place = next_place y.control st.place;
      done = next_done st y.control;
      sequence = cond (controls st y.control) (bytes_of 12 (nth (sequence_so_far r l st y))) st.sequence;
      lost = cond (controls st y.control) (lost_so_far r l st y) st.lost;
    }

-- ---- N frames: 'Six octets from place 6 × n are frame n.'

-- those to be sent, from the frame place p on: 'a call's data bits lie end to end'
unfoldable pub outgoing_frames : Record → Bool → ℕ → ℕ → ℕ → List Bool → List Outgoing
outgoing_frames r on w p zero ds = []
outgoing_frames r on w p (suc n) ds =
    let k = width r (is_control on p) in
    record { control = on; sequence = w; bits = take k ds } ∷ outgoing_frames r on w (next_place on p) n (drop k ds)

unfoldable pub send_frames : Record → Law → Bool → ℕ → ℕ → LineState → List Bool → List ℕ
send_frames r l on w n st ds = joined (each (send_frame r l) send_next st (outgoing_frames r on w st.place n ds))

unfoldable pub send_after : Record → Bool → ℕ → ℕ → LineState → List Bool → LineState
send_after r on w n st ds = after send_next st (outgoing_frames r on w st.place n ds)

-- those received
abbrev pub six_in : Bool → List ℕ → Incoming
six_in on os = record { control = on; octets = os }

unfoldable pub incoming_frames : Bool → ℕ → List ℕ → List Incoming
incoming_frames on n os = map (six_in on) (parts 6 n os)

unfoldable pub receive_frames : Record → Law → Bool → ℕ → LineState → List ℕ → List Bool
receive_frames r l on n st os = joined (each (receive_frame r l) (receive_next r l) st (incoming_frames on n os))

unfoldable pub receive_marks : Record → Law → ℕ → List ℕ → List ℕ
receive_marks r l n os = map (mark r l) (parts 6 n os)

unfoldable pub receive_after : Record → Law → Bool → ℕ → LineState → List ℕ → LineState
receive_after r l on n st os = after (receive_next r l) st (incoming_frames on n os)

unfoldable pub receive_said : Record → Law → Bool → ℕ → LineState → List ℕ → List Said
receive_said r l on n st os = joined (each (said_in r l) (receive_next r l) st (incoming_frames on n os))
