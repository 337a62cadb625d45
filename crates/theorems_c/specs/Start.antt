-- Document 02, A.3, of the C functions themselves: v91_send_cp, v91_find_state, and lists of calls of v91_send and v91_receive that begin
-- with the bytes that these leave. Assumes nothing.
use Rattle.std.specs.Prelude.{◌≡◌, ℕ, ◌^◌, ◌≤◌, Bool, true, ◌&&◌, List, ◌++◌, leb, ltb, length, take}
use Rattle.standard.specs.declared.Law.{Law}
use Rattle.standard.specs.declared.Record.{Record}
use Rattle.theorems.specs.Runs.{Damage}
use Rattle.theorems_start.specs.Start.{FromTheFirst}
use Rattle.states.specs.StateBytes.{state_length, state_at}
use Rattle.cp_c.specs.Interface.{AfterSendCp, v91_send_cp, v91_find_state}
use Rattle.theorems_c.specs.Runs.{CSend, c_message, c_send_choices, CReceive, c_handed_over, c_marks_given, CRun}

-- a call of v91_send_cp: all that it is lent but the line state, which is the bytes s
pub record CSendCp : Type 0 where
  pub rec : List ℕ
  pub a_law : Bool
  pub octets : List ℕ

abbrev pub after_send_cp : List ℕ → CSendCp → AfterSendCp
after_send_cp s c = v91_send_cp c.rec c.a_law c.octets s

-- an answer from 294 on and below 2^24 is a count: the header's V91_REFUSED does not hold of it
abbrev pub c_sends_cp : List ℕ → CSendCp → Bool
c_sends_cp s c = leb 294 (after_send_cp s c).answer && ltb (after_send_cp s c).answer (2 ^ 24)

-- the octets that it wrote
abbrev pub c_cp_sent : List ℕ → CSendCp → List ℕ
c_cp_sent s c = take (after_send_cp s c).answer (after_send_cp s c).octets

-- the bytes s are the sender's before its CP and u those after it; the far end finds v from t and all octets heard
pub record CStart (s t u v : List ℕ) (c : CSendCp) (earlier : List ℕ) : Type 0 where
  pub sends : c_sends_cp s c ≡ true
  pub left : u ≡ (after_send_cp s c).state
  pub lent : state_length ≤ length t
  pub finds : v ≡ (v91_find_state (earlier ++ c_cp_sent s c) t).state

-- CP sent, octets carried, state found, frames sent and received
abbrev pub CStartDelivers : Type 0
CStartDelivers =
    (s t u v : List ℕ) (c : CSendCp) (earlier : List ℕ) (r : Record) (l : Law) (sending : List CSend) (receiving : List CReceive)
    (w : Damage) (line : List ℕ) (m : ℕ)
    → CStart s t u v c earlier → CRun r l u v sending receiving w line m
    → FromTheFirst r w (state_at u) m (c_send_choices u sending) (c_message u sending) (c_handed_over v receiving) (c_marks_given v receiving)
