-- Document 02, A.2, with the control channel off in every call: demand 3 as document 01 has it, and the channel's fields. Assumes nothing.
use Rattle.std.specs.Prelude.{◌≡◌, ℕ, ◌*◌, ◌≤◌, false, List, length, take}
use Rattle.standard.specs.Lists.{after}
use Rattle.standard.specs.Record.{D}
use Rattle.standard.specs.Calls.{SendCall, send_left, ReceiveCall, receive_left}
use Rattle.standard.specs.declared.Law.{Law}
use Rattle.standard.specs.declared.LineState.{LineState}
use Rattle.standard.specs.declared.Record.{Record}
use Rattle.theorems.specs.Runs.{AllCalls, sends, receives, sent, octets_read, send_choices, SendsWith, ReceivesWith, Damage, Carried}
use Rattle.theorems.specs.Runs.{begins, Run}

-- the choice is off in each accepted call
abbrev pub SendsOff : LineState → List SendCall → Type 0
SendsOff = AllCalls sends send_left (λ c. c.control ≡ false)

abbrev pub ReceivesOff : LineState → List ReceiveCall → Type 0
ReceivesOff = AllCalls receives receive_left (λ c. c.control ≡ false)

-- document 01's premises are then all that a run of demand 3 has, and frame i begins at bit i × D: `RunsDeliver` is document 01's claim
abbrev pub RunsOff : Type 0
RunsOff =
    (r : Record) (l : Law) (s t : LineState) (sending : List SendCall) (receiving : List ReceiveCall) (w : Damage) (line : List ℕ) (m : ℕ)
    → SendsOff s sending → ReceivesOff t receiving → SendsWith r l s sending → ReceivesWith r l t receiving
    → Carried w (sent s sending) line → m * 6 ≤ length line → octets_read t receiving ≡ take (m * 6) line
    → Run r l s t sending receiving w line m × ((i : ℕ) → begins r s (send_choices s sending) i ≡ i * D r)

-- 'Off, the new fields pass through.'
pub record Passes (st left : LineState) : Type 0 where
  pub place : left.place ≡ st.place
  pub done : left.done ≡ st.done
  pub sequence : left.sequence ≡ st.sequence
  pub lost : left.lost ≡ st.lost

pub record FieldsPass : Type 0 where
  pub sender : (s : LineState) (cs : List SendCall) → SendsOff s cs → Passes s (after send_left s cs)
  pub receiver : (t : LineState) (cs : List ReceiveCall) → ReceivesOff t cs → Passes t (after receive_left t cs)
