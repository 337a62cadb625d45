-- Document 02, A.3: the state that a CP and E_s leave is the one that the far end finds, and demand 3 from there on. Assumes nothing.
use Rattle.std.specs.Prelude.{◌≡◌, ℕ, ◌≤◌, ◌<◌, Bool, true, false, List, ◌++◌, length, get_or, take}
use Rattle.standard.specs.Lists.{last_of}
use Rattle.standard.specs.First.{bare}
use Rattle.standard.specs.Bits.{nth}
use Rattle.standard.specs.Start.{found_from}
use Rattle.standard.specs.Refusals.{history_too_large}
use Rattle.standard.specs.Calls.{accepted, CpCall, send_cp_refusal, send_cp_count, send_cp_octets, send_cp_left, find_refusal, find_left, SendCall}
use Rattle.standard.specs.Calls.{ReceiveCall}
use Rattle.standard.specs.declared.Law.{Law}
use Rattle.standard.specs.declared.LineState.{LineState}
use Rattle.standard.specs.declared.Record.{Record}
use Rattle.theorems.specs.Runs.{message, handed_over, marks_given, send_choices, Damage, clean, Outside, Beyond, Same, begins, Run}

abbrev pub sends_cp : LineState → CpCall → Bool
sends_cp st c = accepted (send_cp_refusal st c)

-- the octets that a call wrote
unfoldable pub cp_sent : LineState → CpCall → List ℕ
cp_sent st c = take (send_cp_count st c) (send_cp_octets st c)

-- ---- the state left, and the state found

-- 'history and sign alone changed'
pub record OthersKept (before left : LineState) : Type 0 where
  pub doubtful : left.doubtful ≡ before.doubtful
  pub place : left.place ≡ before.place
  pub done : left.done ≡ before.done
  pub sequence : left.sequence ≡ before.sequence
  pub lost : left.lost ≡ before.lost

pub record StatesFollow : Type 0 where
  -- 'The history and sign left follow from the last 24 octets alone': of any two calls, whatever their states, records and laws
  pub alone : (s t : LineState) (c d : CpCall) → sends_cp s c ≡ true → sends_cp t d ≡ true
      → last_of found_from (cp_sent s c) ≡ last_of found_from (cp_sent t d) → Same (send_cp_left s c) (send_cp_left t d)
  -- 'so the far end can find them', in any state of its own, and whatever it heard before
  pub found : (s t : LineState) (c : CpCall) (earlier : List ℕ) → sends_cp s c ≡ true
      → (find_refusal (earlier ++ cp_sent s c) ≡ bare 0) × Same (send_cp_left s c) (find_left t (earlier ++ cp_sent s c))
  -- neither state gets 14
  pub left_fits : (s : LineState) (c : CpCall) → sends_cp s c ≡ true → history_too_large (send_cp_left s c) ≡ false
  pub found_fits : (t : LineState) (heard : List ℕ) → find_refusal heard ≡ bare 0 → history_too_large (find_left t heard) ≡ false
  pub left_others : (s : LineState) (c : CpCall) → OthersKept s (send_cp_left s c)
  pub found_others : (t : LineState) (heard : List ℕ) → OthersKept t (find_left t heard)

-- ---- from CP into data

-- a CP and E_s are sent from s and heard as they were sent, behind any other octets; the sender goes on from the state left, and a receiver
-- begins in the state that it finds from t
pub record Start (s t u v : LineState) (c : CpCall) (earlier : List ℕ) : Type 0 where
  pub sends : sends_cp s c ≡ true
  pub left : u ≡ send_cp_left s c
  pub finds : v ≡ find_left t (earlier ++ cp_sent s c)

-- what then holds, of the choices, the message, the bits handed over and the marks
pub record FromTheFirst (r : Record) (w : Damage) (u : LineState) (m : ℕ) (on given out : List Bool) (marked : List ℕ) : Type 0 where
  -- as many bits as the message has in the frames that were read
  pub held : begins r u on m ≤ length given
  pub count : length out ≡ begins r u on m
  -- a line that changes nothing gives back all of them
  pub whole : w ≡ clean → out ≡ take (begins r u on m) given
  -- one that changes frames a to b harms those and the 24 bits after them alone: no bit at the start
  pub as_sent : (p : ℕ) → p < begins r u on m → Beyond w (begins r u on) p → nth out p ≡ nth given p
  pub marks : (i : ℕ) → i < m → Outside w i → get_or marked i 0 ≡ 0

-- CP sent, octets carried, state found, frames sent and received; the frames may have another record and law than the CP
abbrev pub StartDelivers : Type 0
StartDelivers =
    (s t u v : LineState) (c : CpCall) (earlier : List ℕ) (r : Record) (l : Law) (sending : List SendCall) (receiving : List ReceiveCall)
    (w : Damage) (line : List ℕ) (m : ℕ)
    → Start s t u v c earlier → Run r l u v sending receiving w line m
    → FromTheFirst r w u m (send_choices u sending) (message u sending) (handed_over v receiving) (marks_given v receiving)
