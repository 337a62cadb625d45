-- Document 02, A.1: what the count of doubtful bits is worth over the lists of calls of demand 3, and that no call of such a list gets 18.
-- Assumes nothing.
use Rattle.std.specs.Prelude.{◌≡◌, ◌⊎◌, ℕ, suc, ◌+◌, ◌≤◌, ◌<◌, Bool, List, get_or}
use Rattle.standard.specs.Lists.{after}
use Rattle.standard.specs.Bits.{nth}
use Rattle.standard.specs.Calls.{SendCall, send_refusal, send_left, ReceiveCall, receive_refusal, receive_left}
use Rattle.standard.specs.declared.Law.{Law}
use Rattle.standard.specs.declared.LineState.{LineState}
use Rattle.standard.specs.declared.Record.{Record}
use Rattle.theorems.specs.Runs.{message, sent, handed_over, marks_given, send_choices, state_before, Damage, Unaltered, Same, begins, Run}

-- frame i has mark 0
abbrev pub Good : List ℕ → ℕ → Type 0
Good marked i = get_or marked i 0 ≡ 0

-- 'If every altered frame is marked': each of the m frames read is as it was sent or has a mark
abbrev pub AlteredMarked : ℕ → List ℕ → List ℕ → List ℕ → Type 0
AlteredMarked m xs line marked = (i : ℕ) → i < m → Unaltered xs line i ⊎ (Good marked i → ⊥)

-- 'and a receiver not told cold begins in the sender's state', its history and sign. One that is told begins with the count 24, in any
-- history and sign
abbrev pub ColdOrSame : LineState → LineState → Type 0
ColdOrSame s t = (t.doubtful ≡ 24) ⊎ Same s t

-- what the count is worth, of the receiver's state before each frame, the choices, the message, the bits handed over, the marks and the
-- state left
pub record Counted (r : Record) (s : LineState) (m : ℕ) (before : ℕ → LineState) (on given out : List Bool) (marked : List ℕ)
    (left : LineState) : Type 0 where
  -- 'a good frame's bits past as many as the count before it are the bits sent'
  pub past : (i : ℕ) → i < m → Good marked i → (p : ℕ) → begins r s on i + (before i).doubtful ≤ p → p < begins r s on (suc i)
      → nth out p ≡ nth given p
  -- the state that the calls return is the one before frame m: it has the count before the next frame, 'how many coming bits to distrust'
  pub shown : left ≡ before m

-- A.1's promise, for a line that alters any frames at all: w may be all of them
abbrev pub CountsHold : Type 0
CountsHold =
    (r : Record) (l : Law) (s t : LineState) (sending : List SendCall) (receiving : List ReceiveCall) (w : Damage) (line : List ℕ) (m : ℕ)
    → Run r l s t sending receiving w line m
    → AlteredMarked m (sent s sending) line (marks_given t receiving)
    → ColdOrSame s t
    → Counted r s m (state_before r l t receiving) (send_choices s sending) (message s sending) (handed_over t receiving)
    (marks_given t receiving) (after receive_left t receiving)

-- 'a count from 0 to 24' stays one, whatever the calls, so a call after any others does not get 18
pub record CountsKept : Type 0 where
  -- 'The sender carries it unchanged.'
  pub carried : (s : LineState) (cs : List SendCall) → (after send_left s cs).doubtful ≡ s.doubtful
  pub kept : (t : LineState) (cs : List ReceiveCall) → t.doubtful ≤ 24 → (after receive_left t cs).doubtful ≤ 24
  pub sender : (s : LineState) (cs : List SendCall) (c : SendCall) → s.doubtful ≤ 24
      → (send_refusal (after send_left s cs) c).number ≡ 18 → ⊥
  pub receiver : (t : LineState) (cs : List ReceiveCall) (c : ReceiveCall) → t.doubtful ≤ 24
      → (receive_refusal (after receive_left t cs) c).number ≡ 18 → ⊥
