-- A.2 with the control channel off in every accepted call: demand 3 is document 01's, and the channel's fields pass through. Assumes
-- nothing.
use mathlib.Core.Path.{◌≡◌, refl, sym, ◌∙◌, subst}
use Prim.Native.Nat.{ℕ, zero, suc}
use mathlib.Core.Bool.{Bool, true, false, true≢false, cond}
use mathlib.Core.List.{List, [], ◌∷◌, ◌++◌, map}
use native.Mathlib.Omega.{arith}
use lib.ListN.{replicate, drop}
use Rattle.standard.specs.Lists.{after, parts}
use Rattle.standard.specs.Bits.{nth}
use Rattle.standard.specs.Frame.{is_control, width, next_place, Outgoing, sequence_sent, send_next, Incoming, receive_next, outgoing_frames}
use Rattle.standard.specs.Frame.{send_after, six_in, incoming_frames, receive_after}
use Rattle.standard.specs.Calls.{SendCall, send_bits, send_left, ReceiveCall, receive_octets, receive_left}
use Rattle.standard.specs.declared.Law.{Law}
use Rattle.standard.specs.declared.LineState.{LineState}
use Rattle.standard.specs.declared.Record.{Record}
use Rattle.standard.proofs.Frame.{call_bits-off}
use Rattle.theorems.specs.Runs.{over_calls, AllCalls, sends, receives, send_choices, receive_choices}
use Rattle.theorems.specs.Off.{SendsOff, ReceivesOff, RunsOff, Passes, FieldsPass}
use Rattle.theorems.proofs.Runs.{begins_ext}

-- ---- demand 3

-- no choice of a list is on
abbrev AllOff : List Bool → Type 0
AllOff on = (i : ℕ) → nth on i ≡ false

off-append : (a b : List Bool) → AllOff a → AllOff b → AllOff (a ++ b)
unfolding nth
off-append [] b p q i = q i
off-append (x ∷ a) b p q zero = p zero
off-append (x ∷ a) b p q (suc i) = off-append a b (λ k. p (suc k)) q i

off-replicate : (n : ℕ) → AllOff (replicate n false)
unfolding nth
off-replicate zero i = refl
off-replicate (suc n) zero = refl
off-replicate (suc n) (suc i) = off-replicate n i

module _ {S C : Type 0} (accepts : S → C → Bool) (left : S → C → S) (many : C → ℕ) (choice : C → Bool) where
  off_calls : (st : S) (cs : List C) → AllCalls accepts left (λ c. choice c ≡ false) st cs
      → AllOff (over_calls accepts left (λ z c. replicate (many c) (choice c)) st cs)
  unfolding over_calls AllCalls nth
  off_calls st [] w = λ i. refl
  off_calls st (c ∷ cs) w =
      off-append (cond (accepts st c) (replicate (many c) (choice c)) []) _ (go (accepts st c) refl) (off_calls (left st c) cs w.1)
    where
      go : (b : Bool) → accepts st c ≡ b → AllOff (cond b (replicate (many c) (choice c)) [])
      go true e = subst (λ (x : Bool). AllOff (replicate (many c) x)) (sym (w.0 e)) (off-replicate (many c))
      go false e = λ i. refl

off-sent : (s : LineState) (sending : List SendCall) → SendsOff s sending → AllOff (send_choices s sending)
unfolding send_choices
off-sent = off_calls sends send_left (λ c. c.frames) (λ c. c.control)

off-read : (t : LineState) (receiving : List ReceiveCall) → ReceivesOff t receiving → AllOff (receive_choices t receiving)
unfolding receive_choices
off-read = off_calls receives receive_left (λ c. c.frames) (λ c. c.control)

pub runs_off : RunsOff
runs_off r l s t sending receiving w line m a b sender receiver carried inside reads =
    let never : (i : ℕ) → nth (send_choices s sending) i ≡ true → s.place ≡ t.place =
    λ i e. absurd (true≢false (sym e ∙ off-sent s sending a i)) in (
      record {
        sender = sender;
        receiver = receiver;
        carried = carried;
        inside = inside;
        reads = reads;
        choices = λ i h. off-read t receiving b i ∙ sym (off-sent s sending a i);
        places = never;
      },
      λ i.
          omega (
            arith,
            begins_ext r (nth (send_choices s sending)) (λ k. false) s.place t.place i (λ k h. off-sent s sending a k) never,
            call_bits-off r t.place i,
          ),
    )

-- ---- the channel's fields

passes_none : (st : LineState) → Passes st st
passes_none st = record { place = refl; done = refl; sequence = refl; lost = refl }

passes_on : (s t u : LineState) → Passes s t → Passes t u → Passes s u
passes_on s t u p q =
    record {
      place = q.place ∙ p.place;
      done = q.done ∙ p.done;
      sequence = q.sequence ∙ p.sequence;
      lost = q.lost ∙ p.lost;
    }

send_off : (st : LineState) (f : Outgoing) → f.control ≡ false → Passes st (send_next st f)
unfolding send_next sequence_sent
send_off st f e = record { place = rw e; done = rw e; sequence = rw e; lost = rw e }

receive_off : (r : Record) (l : Law) (st : LineState) (y : Incoming) → y.control ≡ false → Passes st (receive_next r l st y)
unfolding receive_next
receive_off r l st y e = record { place = rw e; done = rw e; sequence = rw e; lost = rw e }

send_frames-off : (r : Record) (on : Bool) (w p n : ℕ) (ds : List Bool) (st : LineState) → on ≡ false
    → Passes st (after send_next st (outgoing_frames r on w p n ds))
unfolding after outgoing_frames
send_frames-off r on w p zero ds st e = passes_none st
send_frames-off r on w p (suc n) ds st e =
    passes_on st _ _ (send_off st _ e)
    (send_frames-off r on w (next_place on p) n (drop (width r (is_control on p)) ds) _ e)

receive_frames-off : (r : Record) (l : Law) (on : Bool) (xs : List (List ℕ)) (st : LineState) → on ≡ false
    → Passes st (after (receive_next r l) st (map (six_in on) xs))
unfolding after
receive_frames-off r l on [] st e = passes_none st
receive_frames-off r l on (x ∷ xs) st e =
    passes_on st _ _ (receive_off r l st (six_in on x) e) (receive_frames-off r l on xs (receive_next r l st (six_in on x)) e)

-- what an accepted call does, a call does: one that is refused leaves the state
call_passes : (b : Bool) (st left : LineState) → (b ≡ true → Passes st left) → Passes st (cond b left st)
call_passes true st left p = p refl
call_passes false st left p = passes_none st

send_passes : (st : LineState) (c : SendCall) → (sends st c ≡ true → c.control ≡ false) → Passes st (send_left st c)
unfolding send_left send_after
send_passes st c off =
    call_passes (sends st c) st _
    (λ e. send_frames-off c.cp c.control c.sequence st.place c.frames (send_bits st c) st (off e))

receive_passes : (st : LineState) (c : ReceiveCall) → (receives st c ≡ true → c.control ≡ false) → Passes st (receive_left st c)
unfolding receive_left receive_after incoming_frames
receive_passes st c off =
    call_passes (receives st c) st _
    (λ e. receive_frames-off c.cp c.law c.control (parts 6 c.frames (receive_octets c)) st (off e))

module _ {C : Type 0} (accepts : LineState → C → Bool) (left : LineState → C → LineState) (P : C → Type 0)
    (passes : (st : LineState) (c : C) → (accepts st c ≡ true → P c) → Passes st (left st c)) where
  calls_pass : (st : LineState) (cs : List C) → AllCalls accepts left P st cs → Passes st (after left st cs)
  unfolding AllCalls after
  calls_pass st [] w = passes_none st
  calls_pass st (c ∷ cs) w = passes_on st (left st c) _ (passes st c w.0) (calls_pass (left st c) cs w.1)

pub fields_pass : FieldsPass
fields_pass =
    record {
      sender = calls_pass sends send_left (λ c. c.control ≡ false) send_passes;
      receiver = calls_pass receives receive_left (λ c. c.control ≡ false) receive_passes;
    }
