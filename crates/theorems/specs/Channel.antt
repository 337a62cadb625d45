-- Document 02, A.2: the control channel over the lists of calls of demand 3: its bits as sent and as received, and what is said of its
-- sequences. Assumes nothing.
use Rattle.std.specs.Prelude.{◌≡◌, ◌⊎◌, ℕ, zero, suc, ◌+◌, ◌%◌, ◌^◌, ◌≤◌, ◌<◌, Bool, true, false, cond, not, List, [], ◌∷◌, length, get_or, take, drop}
use Rattle.standard.specs.Lists.{list_from, joined, each, after}
use Rattle.standard.specs.Bits.{nth}
use Rattle.standard.specs.Control.{sequence_bit, judged}
use Rattle.standard.specs.Frame.{starts_in, Outgoing, control_bits, send_next, heard_control, said_in, receive_next, outgoing_frames, receive_said}
use Rattle.standard.specs.Calls.{SendCall, send_refusal, send_bits, send_left, ReceiveCall, receive_refusal, receive_octets, receive_left}
use Rattle.standard.specs.Calls.{receive_says}
use Rattle.standard.specs.declared.Law.{Law}
use Rattle.standard.specs.declared.LineState.{LineState}
use Rattle.standard.specs.declared.Record.{Record}
use Rattle.standard.specs.declared.Said.{Said}
use Rattle.standard.specs.declared.Said.TheVariants.{Nothing, Sequence, FrameLost, PatternWrong, CrcWrong}
use Rattle.theorems.specs.Runs.{over_calls, sends, sent, receives, marks_given, frames_read, ReceivesWith, Damage, Outside, Unaltered}
use Rattle.theorems.specs.Runs.{Run}
use Rattle.theorems.specs.Counts.{Good}

-- ---- control bits

-- the frames that the accepted calls send
unfoldable pub frames_sent : LineState → List SendCall → List Outgoing
frames_sent = over_calls sends send_left (λ st c. outgoing_frames c.cp c.control c.sequence st.place c.frames (send_bits st c))

-- the control bits of each frame as sent and as received: six or none
unfoldable pub control_sent : LineState → List SendCall → List (List Bool)
control_sent st cs = each control_bits send_next st (frames_sent st cs)

unfoldable pub control_heard : Record → Law → LineState → List ReceiveCall → List (List Bool)
control_heard r l st cs = each (heard_control r l) (receive_next r l) st (frames_read st cs)

-- frame i is not the first 'after damage or such a start'
abbrev pub Steady : Damage → LineState → LineState → ℕ → Type 0
Steady w s t zero = s.sign ≡ t.sign
Steady w s t (suc i) = Outside w i

-- 'The first control bit after damage or such a start may be wrong too, no other in unaltered frames': whatever the sequence places
abbrev pub ControlsDeliver : Type 0
ControlsDeliver =
    (r : Record) (l : Law) (s t : LineState) (sending : List SendCall) (receiving : List ReceiveCall) (w : Damage) (line : List ℕ) (m : ℕ)
    → Run r l s t sending receiving w line m
    → (i : ℕ) → i < m → Outside w i → (k : ℕ) → (1 ≤ k) ⊎ Steady w s t i
    → nth (get_or (control_heard r l t receiving) i []) k ≡ nth (get_or (control_sent s sending) i []) k

-- ---- the places

-- 'frame place (0 to 63 ..), sequence place (0 to 15 ..)'
abbrev pub Placed : LineState → Type 0
Placed st = (st.place ≤ 63) × (st.done ≤ 15)

-- they stay so, whatever the calls, so a call after any others does not get 19
pub record PlacesKept : Type 0 where
  pub sent : (s : LineState) (cs : List SendCall) → Placed s → Placed (after send_left s cs)
  pub received : (t : LineState) (cs : List ReceiveCall) → Placed t → Placed (after receive_left t cs)
  pub sender : (s : LineState) (cs : List SendCall) (c : SendCall) → Placed s → (send_refusal (after send_left s cs) c).number ≡ 19 → ⊥
  pub receiver : (t : LineState) (cs : List ReceiveCall) (c : ReceiveCall) → Placed t
      → (receive_refusal (after receive_left t cs) c).number ≡ 19 → ⊥

-- ---- at most one sequence starts and at most one ends in a call

-- the frames of a call with which a sequence starts
unfoldable pub starting : LineState → SendCall → List Outgoing
starting st c =
    joined
    (each (λ z f. cond (starts_in z f.control) (f ∷ []) []) send_next st
    (outgoing_frames c.cp c.control c.sequence st.place c.frames (send_bits st c)))

-- what is said of the sequences that end in it
unfoldable pub ending : LineState → ReceiveCall → List Said
ending st c = receive_said c.cp c.law c.control c.frames st (receive_octets c)

pub record OneSequence : Type 0 where
  pub starts : (st : LineState) (c : SendCall) → sends st c ≡ true → length (starting st c) ≤ 1
  pub ends : (st : LineState) (c : ReceiveCall) → receives st c ≡ true → length (ending st c) ≤ 1

-- ---- what is said

-- at each frame, of a sequence that ends with it: one answer or none
unfoldable pub said_at : Record → Law → LineState → List ReceiveCall → List (List Said)
said_at r l st cs = each (said_in r l) (receive_next r l) st (frames_read st cs)

-- what a call returned; 'else none'
abbrev pub spoken : Said → List Said
spoken Nothing = []
spoken (Sequence w) = Sequence w ∷ []
spoken FrameLost = FrameLost ∷ []
spoken PatternWrong = PatternWrong ∷ []
spoken CrcWrong = CrcWrong ∷ []

-- by the accepted calls of a list
unfoldable pub said_given : LineState → List ReceiveCall → List Said
said_given = over_calls receives receive_left (λ st c. spoken (receive_says st c))

-- the calls return what is said at their frames, all of it and nothing else
abbrev pub CallsSay : Type 0
CallsSay =
    (r : Record) (l : Law) (t : LineState) (receiving : List ReceiveCall) → ReceivesWith r l t receiving
    → said_given t receiving ≡ joined (said_at r l t receiving)

-- ---- a sequence that is sent whole

-- the n frames from frame q on, end to end
abbrev pub window : {X : Type 0} → ℕ → ℕ → List (List X) → List X
window q n xs = joined (take n (drop q xs))

-- a sequence starts with frame q, and v is handed in for it
pub record StartsAt (s : LineState) (sending : List SendCall) (q v : ℕ) : Type 0 where
  pub frame : Outgoing
  pub later : List Outgoing
  pub at : drop q (frames_sent s sending) ≡ frame ∷ later
  pub bits : frame.sequence ≡ v
  pub starts : starts_in (after send_next s (take q (frames_sent s sending))) frame.control ≡ true

-- frames q to q + n - 1 are read and have the whole of a sequence of v. 'a receiver begun in another state needs the sender's frame place,
-- and for sequences its sequence place'
pub record Whole (r : Record) (l : Law) (s t : LineState) (sending : List SendCall) (receiving : List ReceiveCall) (w : Damage)
    (line : List ℕ) (m q n v : ℕ) : Type 0 where
  pub run : Run r l s t sending receiving w line m
  pub done : s.done ≡ t.done
  pub starts : StartsAt s sending q v
  pub inside : q + n ≤ m
  pub bits : length (window q n (control_sent s sending)) ≡ 96

-- frame i is one of its control frames
abbrev pub ControlAt : LineState → List SendCall → ℕ → ℕ → ℕ → Type 0
ControlAt s sending q n i = (q ≤ i) × (i < q + n) × (0 < length (get_or (control_sent s sending) i []))

-- of bits 0 to 93, which Table 3 gives a meaning, only bit j of h is not the sequence's
abbrev pub OnlyWrong : ℕ → List Bool → ℕ → Type 0
OnlyWrong v h j = (nth h j ≡ not (sequence_bit v j)) × ((k : ℕ) → k < 94 → (k ≡ j → ⊥) → nth h k ≡ sequence_bit v k)

-- 'says pattern wrong or CRC wrong'
abbrev pub FaultTold : List Said → Type 0
FaultTold said = (said ≡ PatternWrong ∷ []) ⊎ (said ≡ CrcWrong ∷ [])

-- it was sent in these control bits, received as these, and this is said
pub record SaidOf (v : ℕ) (given heard : List Bool) (said : List Said) : Type 0 where
  pub whole : given ≡ list_from (sequence_bit v) 0 96
  pub one : said ≡ judged false (nth heard) ∷ []
  -- 'the receiver returns those bits'
  pub right : heard ≡ given → said ≡ Sequence (v % 2 ^ 56) ∷ []
  -- 'a sequence received whole in unaltered frames with only that bit wrong says pattern wrong or CRC wrong'
  pub wrong : (j : ℕ) → j < 94 → OnlyWrong v heard j → FaultTold said

-- no control frame of it is altered
abbrev pub SequencesSaid : Type 0
SequencesSaid =
    (r : Record) (l : Law) (s t : LineState) (sending : List SendCall) (receiving : List ReceiveCall) (w : Damage) (line : List ℕ)
    (m q n v : ℕ)
    → Whole r l s t sending receiving w line m q n v
    → ((i : ℕ) → ControlAt s sending q n i → Unaltered (sent s sending) line i)
    → SaidOf v (window q n (control_sent s sending)) (window q n (control_heard r l t receiving)) (window q n (said_at r l t receiving))

-- so with none of them altered, and none the first after damage or another start, the bits handed in are returned
abbrev pub SequencesRight : Type 0
SequencesRight =
    (r : Record) (l : Law) (s t : LineState) (sending : List SendCall) (receiving : List ReceiveCall) (w : Damage) (line : List ℕ)
    (m q n v : ℕ)
    → Whole r l s t sending receiving w line m q n v
    → ((i : ℕ) → ControlAt s sending q n i → Outside w i × Steady w s t i)
    → window q n (said_at r l t receiving) ≡ Sequence (v % 2 ^ 56) ∷ []

-- and with one of them such, frame e, whichever of the sixteen it is, they are returned or the fault is told
abbrev pub SequencesTold : Type 0
SequencesTold =
    (r : Record) (l : Law) (s t : LineState) (sending : List SendCall) (receiving : List ReceiveCall) (w : Damage) (line : List ℕ)
    (m q n v e : ℕ)
    → Whole r l s t sending receiving w line m q n v → ControlAt s sending q n e
    → ((i : ℕ) → ControlAt s sending q n i → Outside w i × ((i ≡ e) ⊎ Steady w s t i))
    → let said = window q n (said_at r l t receiving) in (said ≡ Sequence (v % 2 ^ 56) ∷ []) ⊎ FaultTold said

-- 'frame lost': one of them, frame e, is marked, whatever became of the others
abbrev pub SequencesLost : Type 0
SequencesLost =
    (r : Record) (l : Law) (s t : LineState) (sending : List SendCall) (receiving : List ReceiveCall) (w : Damage) (line : List ℕ)
    (m q n v e : ℕ)
    → Whole r l s t sending receiving w line m q n v → ControlAt s sending q n e → (Good (marks_given t receiving) e → ⊥)
    → window q n (said_at r l t receiving) ≡ FrameLost ∷ []
