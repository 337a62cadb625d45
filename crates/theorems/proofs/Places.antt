-- The frame place and the sequence place stay within their bounds. Assumes nothing.
use Prim.Native.Nat.{ℕ, ◌≤◌}
use mathlib.Core.Bool.{Bool}
use mathlib.Core.List.{List}
use native.Mathlib.Omega.{arith}
use Rattle.standard.specs.Lists.{after}
use Rattle.standard.specs.Frame.{next_place, controls, next_done, Outgoing, send_next, Incoming, receive_next, send_after, receive_after}
use Rattle.standard.specs.Calls.{SendCall, send_refusal, send_left, ReceiveCall, receive_refusal, receive_left}
use Rattle.standard.specs.declared.Law.{Law}
use Rattle.standard.specs.declared.LineState.{LineState}
use Rattle.standard.specs.declared.Record.{Record}
use Rattle.standard.proofs.Lists.{after_keeps, of_either}
use Rattle.standard.proofs.Refusals.{not_nineteen}
use Rattle.theorems.specs.Runs.{sends, receives}
use Rattle.theorems.specs.Channel.{Placed, PlacesKept}

-- after a frame
next-placed : (on : Bool) (st : LineState) → Placed st → (next_place on st.place ≤ 63) × (next_done st on ≤ 15)
next-placed on st k = (
  of_either (λ (p : ℕ). p ≤ 63) on (omega arith) (omega arith),
  of_either (λ (d : ℕ). d ≤ 15) (controls st on) (omega arith) (omega arith),
)

pub send_placed : (st : LineState) (f : Outgoing) → Placed st → Placed (send_next st f)
unfolding send_next
send_placed st f k = next-placed f.control st k

pub receive_placed : (r : Record) (l : Law) (st : LineState) (y : Incoming) → Placed st → Placed (receive_next r l st y)
unfolding receive_next
receive_placed r l st y k = next-placed y.control st k

-- after a call
sent-placed : (st : LineState) (c : SendCall) → Placed st → Placed (send_left st c)
unfolding send_left send_after
sent-placed st c k = of_either Placed (sends st c) (after_keeps send_next Placed send_placed st _ k) k

read-placed : (st : LineState) (c : ReceiveCall) → Placed st → Placed (receive_left st c)
unfolding receive_left receive_after
read-placed st c k =
    of_either Placed (receives st c) (after_keeps (receive_next c.cp c.law) Placed (receive_placed c.cp c.law) st _ k) k

pub places-kept : PlacesKept
unfolding send_refusal receive_refusal
places-kept =
    record {
      sent = after-sent;
      received = after_read;
      sender = λ s cs c k. let p = after-sent s cs k in not_nineteen c.cp (after send_left s cs) c.frames _ _ p.0 p.1;
      receiver = λ t cs c k. let p = after_read t cs k in not_nineteen c.cp (after receive_left t cs) c.frames _ _ p.0 p.1;
    }
  where
    after-sent : (s : LineState) (cs : List SendCall) → Placed s → Placed (after send_left s cs)
    after-sent = after_keeps send_left Placed sent-placed

    after_read : (t : LineState) (cs : List ReceiveCall) → Placed t → Placed (after receive_left t cs)
    after_read = after_keeps receive_left Placed read-placed
