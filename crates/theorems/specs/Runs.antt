-- Document 01, 'Runs of calls': demand 3 as one statement about a list of sender calls and a list of receiver calls, with A.2's choice at
-- each frame. Assumes nothing.
use Rattle.std.specs.Prelude.{◌≡◌, ◌⊎◌, ℕ, ◌+◌, ◌*◌, ◌≤◌, ◌<◌, Bool, true, cond, List, [], ◌∷◌, ◌++◌, length, get_or, take, replicate}
use Rattle.standard.specs.Lists.{after}
use Rattle.standard.specs.Bits.{bits_in, nth}
use Rattle.standard.specs.Frame.{data_bits, Incoming, receive_next, incoming_frames}
use Rattle.standard.specs.Calls.{accepted, SendCall, send_refusal, send_bits, send_left, send_octets, ReceiveCall, receive_count, receive_refusal}
use Rattle.standard.specs.Calls.{receive_octets, receive_left, receive_bytes, receive_marked}
use Rattle.standard.specs.declared.Law.{Law}
use Rattle.standard.specs.declared.LineState.{LineState}
use Rattle.standard.specs.declared.Record.{Record}

-- ---- lists of calls: 'Each call gets the state that the one before it returned'

-- what the accepted calls read or write, end to end
module _ {S C X : Type 0} (accepts : S → C → Bool) (left : S → C → S) (part : S → C → List X) where
  unfoldable pub over_calls : S → List C → List X
  over_calls st [] = []
  over_calls st (c ∷ cs) = cond (accepts st c) (part st c) [] ++ over_calls (left st c) cs

-- P holds of each accepted call
module _ {S C : Type 0} (accepts : S → C → Bool) (left : S → C → S) (P : C → Type 0) where
  unfoldable pub AllCalls : S → List C → Type 0
  AllCalls st [] = Unit {0}
  AllCalls st (c ∷ cs) = (accepts st c ≡ true → P c) × AllCalls (left st c) cs

abbrev pub sends : LineState → SendCall → Bool
sends st c = accepted (send_refusal st c)

abbrev pub receives : LineState → ReceiveCall → Bool
receives st c = accepted (receive_refusal st c)

-- 'The message is the data bits that the accepted sender calls read, end to end.'
unfoldable pub message : LineState → List SendCall → List Bool
message = over_calls sends send_left send_bits

-- 'The octets they write, end to end, are what is sent'
unfoldable pub sent : LineState → List SendCall → List ℕ
sent = over_calls sends send_left (λ st c. take (6 * c.frames) (send_octets st c))

-- the octets that the accepted receiver calls read, end to end
unfoldable pub octets_read : LineState → List ReceiveCall → List ℕ
octets_read = over_calls receives receive_left (λ st c. receive_octets c)

-- 'The data bits they write, end to end, are the bits handed over.'
unfoldable pub handed_over : LineState → List ReceiveCall → List Bool
handed_over = over_calls receives receive_left (λ st c. bits_in (receive_count st c) (receive_bytes st c))

-- and the marks that they write
unfoldable pub marks_given : LineState → List ReceiveCall → List ℕ
marks_given = over_calls receives receive_left (λ st c. take c.frames (receive_marked st c))

-- A.2: 'the choice at each frame'
unfoldable pub send_choices : LineState → List SendCall → List Bool
send_choices = over_calls sends send_left (λ st c. replicate c.frames c.control)

unfoldable pub receive_choices : LineState → List ReceiveCall → List Bool
receive_choices = over_calls receives receive_left (λ st c. replicate c.frames c.control)

-- the frames that they read
unfoldable pub frames_read : LineState → List ReceiveCall → List Incoming
frames_read = over_calls receives receive_left (λ st c. incoming_frames c.control c.frames (receive_octets c))

-- the receiver's state before frame i, which is the one that the i frames before it leave
unfoldable pub state_before : Record → Law → LineState → List ReceiveCall → ℕ → LineState
state_before r l st cs i = after (receive_next r l) st (take i (frames_read st cs))

-- 'All accepted calls of both lists have one record and one law'
unfoldable pub SendsWith : Record → Law → LineState → List SendCall → Type 0
SendsWith r l = AllCalls sends send_left (λ c. (c.cp ≡ r) × (c.law ≡ l))

unfoldable pub ReceivesWith : Record → Law → LineState → List ReceiveCall → Type 0
ReceivesWith r l = AllCalls receives receive_left (λ c. (c.cp ≡ r) × (c.law ≡ l))

-- ---- the line

-- 'The line leaves every octet alone, or puts any octets in place of those in frames a to b and leaves the others.'
pub data Damage : Type 0 where
  clean : Damage
  frames : ℕ → ℕ → Damage

-- frame i is outside a to b
abbrev pub Outside : Damage → ℕ → Type 0
Outside clean i = Unit {0}
Outside (frames a b) i = (i < a) ⊎ (b < i)

-- the octets of frame i are as they were sent
abbrev pub Unaltered : List ℕ → List ℕ → ℕ → Type 0
Unaltered xs ys i = (k : ℕ) → k < 6 → get_or ys (i * 6 + k) 0 ≡ get_or xs (i * 6 + k) 0

-- what the line delivers of the octets xs, 'adding and losing none'
unfoldable pub Carried : Damage → List ℕ → List ℕ → Type 0
Carried w xs ys = (length ys ≡ length xs) × ((i : ℕ) → Outside w i → Unaltered xs ys i)

-- ---- the claim

-- the doubtful bits after damage or a start in another state
abbrev pub reach : ℕ
reach = 24

-- bit p is none of 'those in frames a to b, the 24 bits after frame b', where frame i begins at bit f i
abbrev pub Beyond : Damage → (ℕ → ℕ) → ℕ → Type 0
Beyond clean f p = Unit {0}
Beyond (frames a b) f p = (p < f a) ⊎ (f (b + 1) + reach ≤ p)

-- two line states are the same: equal history and equal last sign. A differing count (A.1) makes no two states differ: it changes no bit
-- and no mark. Of A.2's fields the frame place is a premise of its own, and the others change no data bit and no mark
abbrev pub Same : LineState → LineState → Type 0
Same s t = (s.history ≡ t.history) × (s.sign ≡ t.sign)

-- where the data bits of frame i begin
abbrev pub begins : Record → LineState → List Bool → ℕ → ℕ
begins r s on i = data_bits r (nth on) s.place i

-- a list of sender calls begun in s, the line, and a list of receiver calls begun in t
pub record Run (r : Record) (l : Law) (s t : LineState) (sending : List SendCall) (receiving : List ReceiveCall) (w : Damage)
    (line : List ℕ) (m : ℕ) : Type 0 where
  pub sender : SendsWith r l s sending
  pub receiver : ReceivesWith r l t receiving
  pub carried : Carried w (sent s sending) line
  -- 'The accepted receiver calls read the result from frame 0 on, no frame skipped or read twice, and may stop before its end.' They read m
  -- frames
  pub inside : m * 6 ≤ length line
  pub reads : octets_read t receiving ≡ take (m * 6) line
  -- A.2: 'In all lists that demand 3 compares, the choice at each frame is the same; if ever on, a receiver begun in another state needs
  -- the sender's frame place'
  pub choices : (i : ℕ) → i < m → nth (receive_choices t receiving) i ≡ nth (send_choices s sending) i
  pub places : (i : ℕ) → nth (send_choices s sending) i ≡ true → s.place ≡ t.place

-- what holds after them, of the choices, the message, the bits handed over and the marks
pub record Delivered (r : Record) (w : Damage) (s t : LineState) (m : ℕ) (on given out : List Bool) (marked : List ℕ) : Type 0 where
  -- 'If m frames were read, the bits handed over are as many as the message has in its first m frames.'
  pub held : begins r s on m ≤ length given
  pub count : length out ≡ begins r s on m
  -- 'Every bit is as sent save at most those in frames a to b, the 24 bits after frame b and, where the receiver began in another state,
  -- bits 0 to 23.'
  pub as_sent : (p : ℕ) → p < begins r s on m → Beyond w (begins r s on) p → Same s t ⊎ (reach ≤ p) → nth out p ≡ nth given p
  -- 'Every frame read outside a to b has mark 0.'
  pub mark_count : length marked ≡ m
  pub marks : (i : ℕ) → i < m → Outside w i → get_or marked i 0 ≡ 0
  -- 'If both ends began in the same state and the line changed nothing, the receiver has handed over exactly the sent bits of the frames it
  -- read'
  pub whole : w ≡ clean → Same s t → out ≡ take (begins r s on m) given

-- demand 3
abbrev pub RunsDeliver : Type 0
RunsDeliver =
    (r : Record) (l : Law) (s t : LineState) (sending : List SendCall) (receiving : List ReceiveCall) (w : Damage) (line : List ℕ) (m : ℕ)
    → Run r l s t sending receiving w line m
    → Delivered r w s t m (send_choices s sending) (message s sending) (handed_over t receiving) (marks_given t receiving)

-- 'so two different messages of one length never give the same octets': 'as sent from one state, with one record and law'
abbrev pub MessagesDiffer : Type 0
MessagesDiffer =
    (r : Record) (l : Law) (s t : LineState) (one other : List SendCall) → Same s t → SendsWith r l s one → SendsWith r l t other
    → ((i : ℕ) → nth (send_choices s one) i ≡ nth (send_choices t other) i)
    → ((i : ℕ) → nth (send_choices s one) i ≡ true → s.place ≡ t.place)
    → length (message s one) ≡ length (message t other) → sent s one ≡ sent t other → message s one ≡ message t other

-- 'With drn 0 no frame is ever sent.'
abbrev pub NothingAtCleardown : Type 0
NothingAtCleardown =
    (r : Record) (l : Law) (s : LineState) (sending : List SendCall) → r.drn ≡ 0 → SendsWith r l s sending
    → (message s sending ≡ []) × (sent s sending ≡ [])
