-- Document 01, 'Runs of calls', of the C functions themselves: demand 3, A.1, and what A.2 says of sequences, of a list of calls of
-- v91_send and one of v91_receive. The bytes of a line state go from call to call, and each call has the bytes of a record. Assumes
-- nothing.
use Rattle.std.specs.Prelude.{◌≡◌, ℕ, ◌*◌, ◌≤◌, ◌<◌, Bool, true, cond, List, [], ◌∷◌, map, eqb, length, get_or, take, replicate}
use Rattle.standard.specs.Lists.{joined, each, after}
use Rattle.standard.specs.Bits.{bits_in, nth}
use Rattle.standard.specs.Frame.{call_bits, Incoming, said_in, receive_next, incoming_frames}
use Rattle.standard.specs.Calls.{read_call, read_record}
use Rattle.standard.specs.declared.Law.{Law}
use Rattle.standard.specs.declared.LineState.{LineState}
use Rattle.standard.specs.declared.Record.{Record}
use Rattle.standard.specs.declared.Said.{Said}
use Rattle.theorems.specs.Runs.{over_calls, AllCalls, Damage, Carried, Same, Delivered}
use Rattle.theorems.specs.Counts.{AlteredMarked, ColdOrSame, Counted}
use Rattle.forms.specs.RecordBytes.{record_at}
use Rattle.states.specs.StateBytes.{state_at}
use Rattle.forms.specs.HeardBytes.{heard_length, heard_bytes}
use Rattle.c_calls.specs.Answered.{law_of}
use Rattle.frames_c.specs.Interface.{AfterSend, v91_send, AfterReceive, v91_receive}
use Rattle.cp_c.specs.Interface.{v91_read_cp}

-- ---- calls of v91_send: all that one is lent but the line state, which is the bytes s

pub record CSend : Type 0 where
  pub rec : List ℕ
  pub a_law : Bool
  pub frames : ℕ
  pub control : Bool
  pub word : ℕ
  pub bits : List ℕ
  pub octets : List ℕ

abbrev pub after_send : List ℕ → CSend → AfterSend
after_send s c = v91_send c.rec c.a_law c.frames c.control c.word c.bits c.octets s

-- an accepted call answers 0
abbrev pub c_sends : List ℕ → CSend → Bool
c_sends s c = eqb (after_send s c).answer 0

abbrev pub c_send_left : List ℕ → CSend → List ℕ
c_send_left s c = (after_send s c).state

-- 'The message is the data bits that the accepted sender calls read, end to end.'
unfoldable pub c_message : List ℕ → List CSend → List Bool
c_message =
    over_calls c_sends c_send_left (λ s c. bits_in (call_bits (record_at c.rec) c.control (state_at s).place c.frames) c.bits)

-- 'The octets they write, end to end, are what is sent'
unfoldable pub c_sent : List ℕ → List CSend → List ℕ
c_sent = over_calls c_sends c_send_left (λ s c. take (6 * c.frames) (after_send s c).octets)

-- A.2: 'the choice at each frame'
unfoldable pub c_send_choices : List ℕ → List CSend → List Bool
c_send_choices = over_calls c_sends c_send_left (λ s c. replicate c.frames c.control)

-- 'All accepted calls of both lists have one record and one law'
unfoldable pub CSendsWith : Record → Law → List ℕ → List CSend → Type 0
CSendsWith r l = AllCalls c_sends c_send_left (λ c. (record_at c.rec ≡ r) × (law_of c.a_law ≡ l))

-- ---- calls of v91_receive

pub record CReceive : Type 0 where
  pub rec : List ℕ
  pub a_law : Bool
  pub frames : ℕ
  pub control : Bool
  pub octets : List ℕ
  pub bits : List ℕ
  pub marks : List ℕ
  pub heard : List ℕ

abbrev pub after_receive : List ℕ → CReceive → AfterReceive
after_receive s c = v91_receive c.rec c.a_law c.frames c.control c.octets c.bits c.marks c.heard s

abbrev pub c_receives : List ℕ → CReceive → Bool
c_receives s c = eqb (after_receive s c).answer 0

abbrev pub c_receive_left : List ℕ → CReceive → List ℕ
c_receive_left s c = (after_receive s c).state

-- the octets that the accepted calls read, end to end
unfoldable pub c_octets_read : List ℕ → List CReceive → List ℕ
c_octets_read = over_calls c_receives c_receive_left (λ s c. take (6 * c.frames) c.octets)

-- 'The data bits they write, end to end, are the bits handed over.'
unfoldable pub c_handed_over : List ℕ → List CReceive → List Bool
c_handed_over =
    over_calls c_receives c_receive_left
    (λ s c. bits_in (call_bits (record_at c.rec) c.control (state_at s).place c.frames) (after_receive s c).bits)

-- and the marks that they write
unfoldable pub c_marks_given : List ℕ → List CReceive → List ℕ
c_marks_given = over_calls c_receives c_receive_left (λ s c. take c.frames (after_receive s c).marks)

unfoldable pub c_receive_choices : List ℕ → List CReceive → List Bool
c_receive_choices = over_calls c_receives c_receive_left (λ s c. replicate c.frames c.control)

-- the frames that they read
unfoldable pub c_frames_read : List ℕ → List CReceive → List Incoming
c_frames_read = over_calls c_receives c_receive_left (λ s c. incoming_frames c.control c.frames (take (6 * c.frames) c.octets))

-- the receiver's state before frame i
unfoldable pub c_state_before : Record → Law → List ℕ → List CReceive → ℕ → LineState
c_state_before r l t cs i = after (receive_next r l) (state_at t) (take i (c_frames_read t cs))

unfoldable pub CReceivesWith : Record → Law → List ℕ → List CReceive → Type 0
CReceivesWith r l = AllCalls c_receives c_receive_left (λ c. (record_at c.rec ≡ r) × (law_of c.a_law ≡ l))

-- ---- the claim

-- a list of calls of v91_send begun with the bytes s, the line, and a list of calls of v91_receive begun with the bytes t
pub record CRun (r : Record) (l : Law) (s t : List ℕ) (sending : List CSend) (receiving : List CReceive) (w : Damage) (line : List ℕ)
    (m : ℕ) : Type 0 where
  pub sender : CSendsWith r l s sending
  pub receiver : CReceivesWith r l t receiving
  pub carried : Carried w (c_sent s sending) line
  pub inside : m * 6 ≤ length line
  pub reads : c_octets_read t receiving ≡ take (m * 6) line
  -- A.2: 'the choice at each frame is the same; if ever on, a receiver begun in another state needs the sender's frame place'
  pub choices : (i : ℕ) → i < m → nth (c_receive_choices t receiving) i ≡ nth (c_send_choices s sending) i
  pub places : (i : ℕ) → nth (c_send_choices s sending) i ≡ true → (state_at s).place ≡ (state_at t).place

-- demand 3
abbrev pub CRunsDeliver : Type 0
CRunsDeliver =
    (r : Record) (l : Law) (s t : List ℕ) (sending : List CSend) (receiving : List CReceive) (w : Damage) (line : List ℕ) (m : ℕ)
    → CRun r l s t sending receiving w line m
    → Delivered r w (state_at s) (state_at t) m (c_send_choices s sending) (c_message s sending) (c_handed_over t receiving)
    (c_marks_given t receiving)

-- 'so two different messages of one length never give the same octets'
abbrev pub CMessagesDiffer : Type 0
CMessagesDiffer =
    (r : Record) (l : Law) (s t : List ℕ) (one other : List CSend) → Same (state_at s) (state_at t) → CSendsWith r l s one
    → CSendsWith r l t other
    → ((i : ℕ) → nth (c_send_choices s one) i ≡ nth (c_send_choices t other) i)
    → ((i : ℕ) → nth (c_send_choices s one) i ≡ true → (state_at s).place ≡ (state_at t).place)
    → length (c_message s one) ≡ length (c_message t other) → c_sent s one ≡ c_sent t other → c_message s one ≡ c_message t other

-- A.1: what the count in the state's bytes is worth
abbrev pub CCountsHold : Type 0
CCountsHold =
    (r : Record) (l : Law) (s t : List ℕ) (sending : List CSend) (receiving : List CReceive) (w : Damage) (line : List ℕ) (m : ℕ)
    → CRun r l s t sending receiving w line m
    → AlteredMarked m (c_sent s sending) line (c_marks_given t receiving)
    → ColdOrSame (state_at s) (state_at t)
    → Counted r (state_at s) m (c_state_before r l t receiving) (c_send_choices s sending) (c_message s sending) (c_handed_over t receiving)
    (c_marks_given t receiving) (state_at (after c_receive_left t receiving))

-- A.2: what is said at each frame, of a sequence that ends with it
unfoldable pub c_said_at : Record → Law → List ℕ → List CReceive → List (List Said)
c_said_at r l t cs = each (said_in r l) (receive_next r l) (state_at t) (c_frames_read t cs)

-- `heard` as a call left it: byte 0 is 0 where nothing is said
abbrev pub spoken_in : List ℕ → List (List ℕ)
spoken_in bytes = cond (eqb (get_or bytes 0 0) 0) [] (bytes ∷ [])

-- by the accepted calls
unfoldable pub c_said_given : List ℕ → List CReceive → List (List ℕ)
c_said_given = over_calls c_receives c_receive_left (λ s c. spoken_in (take heard_length (after_receive s c).heard))

-- the calls say in bytes what is said at their frames, all of it and nothing else. What theorems: Channel has of sequences is about that
abbrev pub CSaid : Type 0
CSaid =
    (r : Record) (l : Law) (t : List ℕ) (receiving : List CReceive) → CReceivesWith r l t receiving
    → c_said_given t receiving ≡ map heard_bytes (joined (c_said_at r l t receiving))

-- the record that those calls have, where its bytes are what v91_read_cp left
abbrev pub CRecordRead : Type 0
CRecordRead =
    (cp : List ℕ) (n : ℕ) (rec : List ℕ) → (v91_read_cp cp n rec).answer ≡ 0 → record_at (v91_read_cp cp n rec).rec ≡ read_record (read_call cp n)
