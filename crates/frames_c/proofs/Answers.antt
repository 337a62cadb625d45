-- What each function answers, from what its callees ensure. Assumes nothing.
use mathlib.Core.Path.{◌≡◌, refl}
use Prim.Native.Nat.{ℕ, ◌≤◌, ◌<◌}
use mathlib.Core.Bool.{Bool, true, false, ◌||◌}
use mathlib.Core.List.{List}
use borrow.Author.Tests.{lt-ltb, le-ltb}
use lib.Dec.{ltb}
use lib.ListN.{length}
use Rattle.std.specs.Prelude.{Result, Ok, Err, IfOk, OnErr}
use Rattle.standard.specs.First.{first}
use Rattle.standard.specs.Refusals.{outcome_answer}
use Rattle.standard.specs.Calls.{over, send_call, send_refusal, send_left, send_octets, receive_call, receive_refusal, receive_left}
use Rattle.standard.specs.Calls.{receive_bytes, receive_marked, receive_says}
use Rattle.standard.specs.declared.Law.{Law}
use Rattle.standard.specs.declared.LineState.{LineState}
use Rattle.standard.specs.declared.Record.{Record}
use Rattle.standard.specs.declared.Refusal.{Refusal}
use Rattle.standard.specs.declared.Said.{Said}
use Rattle.standard.proofs.Stages.{refused_not}
use Rattle.codes.specs.Coded.{coded}
use Rattle.forms.specs.RecordBytes.{record_length, record_at}
use Rattle.states.specs.StateBytes.{state_length, state_at}
use Rattle.forms.specs.HeardBytes.{heard_length, heard_bytes}
use Rattle.c_calls.specs.Answered.{law_of, answered, state_left, then_short}
use Rattle.c_calls.proofs.Ends.{short-not, frame-short, frame-long}
use Rattle.frames_c.specs.Interface.{v91_send, v91_receive}

-- the end of a call of n frames with the outcome o: the bytes s of the line state after it
abbrev pub Ended : {X : Type 0} → Result X Refusal → ℕ → LineState → List ℕ → List ℕ → Type 0
Ended o n left state s = s ≡ answered (outcome_answer o) (state_left n left state) (λ k. state)

-- ---- v91_send

module _ (rec : List ℕ) (a : Bool) (n : ℕ) (on : Bool) (w : ℕ) (bits octets state : List ℕ) where
  pub send-short : (ltb (length rec) record_length || ltb (length state) state_length) ≡ true
      → v91_send rec a n on w bits octets state ≡ record { answer = 16; octets = octets; state = state }
  unfolding v91_send answered
  send-short h = rw (frame-short rec state _ h)

  pub send-ended : (ltb (length rec) record_length || ltb (length state) state_length) ≡ false
      → (r : Record) → r ≡ record_at rec → (st : LineState) → st ≡ state_at state → (l : Law) → l ≡ law_of a
      → (o : Result Unit Refusal) → outcome_answer o ≡ send_refusal st (send_call r l n on w bits octets)
      → (left : LineState) → left ≡ send_left st (send_call r l n on w bits octets)
      → (os : List ℕ) → os ≡ send_octets st (send_call r l n on w bits octets) → (k : ℕ) → k ≡ coded (outcome_answer o)
      → (s : List ℕ) → Ended o n left state s → v91_send rec a n on w bits octets state ≡ record { answer = k; octets = os; state = s }
  unfolding v91_send answered send_octets
  send-ended h r er st es l el (Ok y) eo left e os eos k ek s q = rw (frame-long rec state _ h, eos, q, e, ek, ← er, ← es, ← el, ← eo)
  send-ended h r er st es l el (Err x) eo left e os eos k ek s q =
      let not = refused_not {X = Unit} (Err x) x _ refl refl in
      rw (frame-long rec state _ h, eos, rw not at q, ek, ← er, ← es, ← el, ← eo, not)

-- ---- v91_receive

module _ (rec : List ℕ) (a : Bool) (n : ℕ) (on : Bool) (octets bits marks heard state : List ℕ) where
  abbrev Unchanged : ℕ → Type 0
  Unchanged k =
      v91_receive rec a n on octets bits marks heard state
      ≡ record { answer = k; bits = bits; marks = marks; heard = heard; state = state }

  pub receive-short : (ltb (length rec) record_length || ltb (length state) state_length) ≡ true → Unchanged 16
  unfolding v91_receive answered then_short
  receive-short h = rw (frame-short rec state _ h)

  module _ (h : (ltb (length rec) record_length || ltb (length state) state_length) ≡ false) (r : Record) (er : r ≡ record_at rec)
      (st : LineState) (es : st ≡ state_at state) where
    pub receive-unheard : {X : Type 0} (o : Result X Refusal) → length heard < heard_length
        → ((l : Law) → outcome_answer o ≡ receive_refusal st (receive_call r l n on octets bits marks))
        → (k : ℕ) → k ≡ coded (then_short true (outcome_answer o)) → Unchanged k
    unfolding v91_receive answered
    receive-unheard o short eo k ek =
        rw (frame-long rec state _ h, lt-ltb _ _ short, ← er, ← es, ← eo (law_of a), short-not o, ek)

    pub receive-ended : heard_length ≤ length heard → (l : Law) → l ≡ law_of a
        → (o : Result Said Refusal) → outcome_answer o ≡ receive_refusal st (receive_call r l n on octets bits marks)
        → (left : LineState) → left ≡ receive_left st (receive_call r l n on octets bits marks)
        → IfOk o (λ said. said ≡ receive_says st (receive_call r l n on octets bits marks))
        → (bs : List ℕ) → bs ≡ receive_bytes st (receive_call r l n on octets bits marks)
        → (ms : List ℕ) → ms ≡ receive_marked st (receive_call r l n on octets bits marks) → (k : ℕ) → k ≡ coded (outcome_answer o)
        → (hs : List ℕ) → IfOk o (λ said. hs ≡ over (heard_bytes said) heard) → OnErr o (hs ≡ heard)
        → (s : List ℕ) → Ended o n left state s
        → v91_receive rec a n on octets bits marks heard state ≡ record { answer = k; bits = bs; marks = ms; heard = hs; state = s }
    unfolding v91_receive answered then_short first receive_bytes receive_marked
    receive-ended long l el (Ok said) eo left e ed bs eb ms em k ek hs eh kept s q =
        rw (frame-long rec state _ h, le-ltb _ _ long, eb, em, eh, ed, q, e, ek, ← er, ← es, ← el, ← eo)
    receive-ended long l el (Err x) eo left e ed bs eb ms em k ek hs eh kept s q =
        let not = refused_not {X = Said} (Err x) x _ refl refl in
        rw (frame-long rec state _ h, le-ltb _ _ long, eb, em, kept, rw not at q, ek, ← er, ← es, ← el, ← eo, not, not)
