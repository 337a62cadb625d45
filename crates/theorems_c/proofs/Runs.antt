-- Demand 3, A.1, A.2 and A.13 of the C functions: an accepted call does what the entry does in the state that the bytes hold. Assumes
-- nothing.
use mathlib.Core.Path.{◌≡◌, refl, sym, ap, ap₂, ◌∙◌, subst}
use Prim.Native.Nat.{ℕ, ◌*◌, ◌/◌, ◌%◌, ◌^◌, ◌<◌}
use mathlib.Core.Bool.{Bool, true, false, true≢false, cond, ◌||◌}
use mathlib.Core.List.{List, [], ◌∷◌, ◌++◌, map, map-append}
use native.Mathlib.Omega.{arith}
use borrow.Author.Tests.{eqb-true, eq-eqb, leb-false}
use lib.Dec.{eqb, leb, ltb, lit<}
use lib.ListN.{length, drop, take}
use lib.Seq.{take_at}
use Rattle.standard.specs.Lists.{list_from, largest, parts, joined, each, after}
use Rattle.standard.specs.First.{Answer, test, first}
use Rattle.standard.specs.Bits.{bit_at, bits_in, bytes_of, nth}
use Rattle.standard.specs.Record.{no_record}
use Rattle.standard.specs.Cp.{index_in, mask_bit_in, half_in, record_in}
use Rattle.standard.specs.Control.{sequence_bit, sequence_bytes}
use Rattle.standard.specs.Frame.{call_bits, controls, starts_in, sequence_sent, send_next, Incoming, sequence_so_far, said_in, receive_next}
use Rattle.standard.specs.Frame.{outgoing_frames, send_after, incoming_frames, receive_after}
use Rattle.standard.specs.Refusals.{history_too_large, shorter, read_tests}
use Rattle.standard.specs.Calls.{ReadCall, read_call, read_refusal, read_record, accepted, over, SendCall, send_call, send_bits, send_refusal}
use Rattle.standard.specs.Calls.{send_left, send_octets, ReceiveCall, receive_call, receive_octets, receive_refusal, receive_left, receive_bytes}
use Rattle.standard.specs.Calls.{receive_marked, receive_says}
use Rattle.standard.specs.declared.Law.{Law}
use Rattle.standard.specs.declared.LineState.{LineState}
use Rattle.standard.specs.declared.Record.{Record}
use Rattle.standard.specs.declared.Said.{Said}
use Rattle.standard.specs.declared.Said.TheVariants.{Nothing, Sequence, FrameLost, PatternWrong, CrcWrong}
use Rattle.standard.proofs.Lists.{length-list_from, list_below, after_keeps, of_either}
use Rattle.standard.proofs.Bits.{field_lt, length-bytes_of}
use Rattle.standard.proofs.Scrambler.{push_all-lt}
use Rattle.standard.proofs.Refusals.{passed}
use Rattle.standard.proofs.Calls.{sends-own, receives-own}
use Rattle.theorems_cp.specs.RoundTrip.{Shaped}
use Rattle.theorems.specs.Runs.{over_calls, AllCalls, sends, receives, message, sent, octets_read, handed_over, marks_given, send_choices}
use Rattle.theorems.specs.Runs.{receive_choices, frames_read, state_before, SendsWith, ReceivesWith, Damage, Run}
use Rattle.theorems.specs.Channel.{spoken, said_at, said_given}
use Rattle.theorems.proofs.Runs.{runs, messages_differ}
use Rattle.theorems.proofs.Counts.{counts}
use Rattle.theorems.proofs.OneSequence.{calls_say}
use Rattle.theorems_flip.proofs.Flip.{flip_costs}
use Rattle.codes.specs.Coded.{coded}
use Rattle.forms.specs.RecordBytes.{record_length, record_at}
use Rattle.states.specs.StateBytes.{state_length, state_bytes, sequence_byte, state_at}
use Rattle.forms.specs.HeardBytes.{said_kind, heard_byte, heard_length, heard_bytes}
use Rattle.forms.proofs.Back.{state-back, record_back}
use Rattle.c_calls.specs.Answered.{law_of, answered, frame_answer, state_left, then_short}
use Rattle.frames_c.specs.Interface.{AfterSend, v91_send, AfterReceive, v91_receive}
use Rattle.cp_c.specs.Interface.{v91_read_cp}
use Rattle.theorems_c.specs.Flip.{CFlipCosts}
use Rattle.theorems_c.specs.Runs.{CSend, after_send, c_sends, c_send_left, c_message, c_sent, c_send_choices, CSendsWith, CReceive}
use Rattle.theorems_c.specs.Runs.{after_receive, c_receives, c_receive_left, c_octets_read, c_handed_over, c_marks_given, c_receive_choices}
use Rattle.theorems_c.specs.Runs.{c_frames_read, c_state_before, CReceivesWith, CRun, CRunsDeliver, CMessagesDiffer, CCountsHold, c_said_at}
use Rattle.theorems_c.specs.Runs.{spoken_in, c_said_given, CSaid, CRecordRead}
use Rattle.c_calls.proofs.Ends.{frame-short, frame-long}

-- ---- two lists of calls: the accepted calls of one, with what each is for the other

calls : {S C D : Type 0} → (S → C → Bool) → (S → C → S) → (C → D) → S → List C → List D
calls accepts left to = over_calls accepts left (λ s c. to c ∷ [])

-- a call that is accepted is accepted as the other too and leaves what that leaves, and one that is not leaves what it got
record Follows {S T C D : Type 0} (accepts : S → C → Bool) (left : S → C → S) (to : C → D) (accepts' : T → D → Bool) (left' : T → D → T)
    (view : S → T) : Type 0 where
  kept : (s : S) (c : C) → accepts s c ≡ false → view (left s c) ≡ view s
  taken : (s : S) (c : C) → accepts s c ≡ true → accepts' (view s) (to c) ≡ true
  moved : (s : S) (c : C) → accepts s c ≡ true → view (left s c) ≡ left' (view s) (to c)

module _ {S T C D : Type 0} {accepts : S → C → Bool} {left : S → C → S} {to : C → D} {accepts' : T → D → Bool} {left' : T → D → T}
    {view : S → T} (follows : Follows accepts left to accepts' left' view) where
  same_parts : {X : Type 0} (part : S → C → List X) (part' : T → D → List X)
      → ((s : S) (c : C) → accepts s c ≡ true → part s c ≡ part' (view s) (to c))
      → (s : S) (cs : List C) → over_calls accepts left part s cs ≡ over_calls accepts' left' part' (view s) (calls accepts left to s cs)
  unfolding over_calls calls
  same_parts part part' same s [] = refl
  same_parts part part' same s (c ∷ cs) = go (accepts s c) refl (same_parts part part' same (left s c) cs)
    where
      go : (b : Bool) → accepts s c ≡ b
          → over_calls accepts left part (left s c) cs ≡ over_calls accepts' left' part' (view (left s c))
          (calls accepts left to (left s c) cs)
          → over_calls accepts left part s (c ∷ cs) ≡ over_calls accepts' left' part' (view s) (calls accepts left to s (c ∷ cs))
      go true e k =
          rw (e, follows.taken s c e)
          (ap₂ ◌++◌ (same s c e)
          (k ∙ ap (λ (t : T). over_calls accepts' left' part' t (calls accepts left to (left s c) cs)) (follows.moved s c e)))
      go false e k = rw e (k ∙ ap (λ (t : T). over_calls accepts' left' part' t (calls accepts left to (left s c) cs)) (follows.kept s c e))

  same-all : (P : C → Type 0) (P' : D → Type 0) → ((c : C) → P c → P' (to c)) → (s : S) (cs : List C) → AllCalls accepts left P s cs
      → AllCalls accepts' left' P' (view s) (calls accepts left to s cs)
  unfolding over_calls AllCalls calls
  same-all P P' same s [] w = tt
  same-all P P' same s (c ∷ cs) w = go (accepts s c) refl (same-all P P' same (left s c) cs w.1)
    where
      go : (b : Bool) → accepts s c ≡ b → AllCalls accepts' left' P' (view (left s c)) (calls accepts left to (left s c) cs)
          → AllCalls accepts' left' P' (view s) (calls accepts left to s (c ∷ cs))
      go true e k =
          rw e (
            (λ q. same c (w.0 e)),
            subst (λ (t : T). AllCalls accepts' left' P' t (calls accepts left to (left s c) cs))
                (follows.moved s c e) k,
          )
      go false e k = rw e (subst (λ (t : T). AllCalls accepts' left' P' t (calls accepts left to (left s c) cs)) (follows.kept s c e) k)

  -- the state left
  same_left : (s : S) (cs : List C) → view (after left s cs) ≡ after left' (view s) (calls accepts left to s cs)
  unfolding over_calls calls after
  same_left s [] = refl
  same_left s (c ∷ cs) = same_left (left s c) cs ∙ go (accepts s c) refl
    where
      rest : List D
      rest = calls accepts left to (left s c) cs

      go : (b : Bool) → accepts s c ≡ b → after left' (view (left s c)) rest ≡ after left' (view s) (calls accepts left to s (c ∷ cs))
      go true e = rw e (ap (λ (t : T). after left' t rest) (follows.moved s c e))
      go false e = rw e (ap (λ (t : T). after left' t rest) (follows.kept s c e))

-- ---- the line state in its bytes

-- a state that its bytes can hold
abbrev Fits : LineState → Type 0
Fits z = (z.history < 2 ^ 23) × (length z.sequence ≡ 12)

-- that in its bytes is one, where its history is not refused
fits-at : (s : List ℕ) → history_too_large (state_at s) ≡ false → Fits (state_at s)
unfolding history_too_large state_at
fits-at s h = (leb-false (2 ^ 23) _ h, length-list_from (sequence_byte s) 0 12)

-- twelve bytes, or those that stood there
twelve : (b : Bool) (f : ℕ → Bool) (s : List ℕ) → length s ≡ 12 → length (cond b (bytes_of 12 f) s) ≡ 12
twelve b f s = of_either (λ x. length x ≡ 12) b (length-bytes_of 12 f)

-- the bytes after an accepted call hold the state left
left-held : (n : ℕ) (left : LineState) (s : List ℕ) → Fits left → (n ≡ 0 → left ≡ state_at s) → state_at (state_left n left s) ≡ left
unfolding state_left
left-held n left s h none = go (eqb n 0) refl
  where
    go : (b : Bool) → eqb n 0 ≡ b → state_at (state_left n left s) ≡ left
    go true e = rw e (sym (none (eqb-true n 0 e)))
    go false e = rw e (state-back left (drop (length (state_bytes left)) s) (omega (arith, h.0)) h.1)

-- ---- a call of frames that lends the record's bytes rec and the state's bytes s, to which the entry answers a

-- what x is left: where its answer is 0 the entry accepts, and else the state's bytes hold the same state
record Steps {X : Type 0} (answer : X → ℕ) (state : X → List ℕ) (s : List ℕ) (a : Answer) (left : LineState) (done x : X) : Type 0 where
  taken : eqb (answer x) 0 ≡ true → accepted a ≡ true
  made : eqb (answer x) 0 ≡ true → x ≡ done
  moved : eqb (answer x) 0 ≡ true → state_at (state x) ≡ left
  kept : eqb (answer x) 0 ≡ false → state_at (state x) ≡ state_at s

-- an accepted call is one where neither the record nor the state is short and that the entry accepts
pub entry_took : (rec s : List ℕ) (a : Answer) → accepted (frame_answer rec s a) ≡ true → accepted a ≡ true
entry_took rec s a = go (ltb (length rec) record_length || ltb (length s) state_length) refl
  where
    go : (b : Bool) → (ltb (length rec) record_length || ltb (length s) state_length) ≡ b → accepted (frame_answer rec s a) ≡ true
        → accepted a ≡ true
    go true f e = absurd (true≢false (sym e ∙ ap accepted (frame-short rec s a f)))
    go false f e = ap accepted (sym (frame-long rec s a f)) ∙ e

-- and no other buffer is
short_took : (short : Bool) (a : Answer) → accepted (then_short short a) ≡ true → accepted a ≡ true
unfolding then_short
short_took short a e = go (accepted a) refl
  where
    go : (b : Bool) → accepted a ≡ b → accepted a ≡ true
    go true f = f
    go false f = rw f at e

-- the call answers b
module _ (s : List ℕ) (n : ℕ) (a b : Answer) (left : LineState) (took : accepted b ≡ true → accepted a ≡ true) where
  steps : {X : Type 0} (answer : X → ℕ) (state : X → List ℕ) (done : X) (refused : ℕ → X)
      → answer done ≡ 0 → ((k : ℕ) → answer (refused k) ≡ k) → state done ≡ state_left n left s → ((k : ℕ) → state (refused k) ≡ s)
      → (accepted a ≡ true → Fits left) → (accepted a ≡ true → n ≡ 0 → left ≡ state_at s)
      → Steps answer state s a left done (answered b done refused)
  unfolding answered
  steps {X} answer state done refused zero own put back fits none = go (accepted b) refl
    where
      coded_none : (k : ℕ) → k ≡ coded b → k ≡ 0 → accepted b ≡ true
      coded_none k e z = eq-eqb b.number 0 (omega arith)

      go : (x : Bool) → accepted b ≡ x → Steps answer state s a left done (answered b done refused)
      go true e =
          rw e
          (record {
            taken = λ z. took e;
            made = λ z. refl;
            moved = λ z. ap state_at put ∙ left-held n left s (fits (took e)) (none (took e));
            kept = λ z. absurd (true≢false (sym (eq-eqb _ 0 zero) ∙ z));
          })
      go false e =
          let no : eqb (answer (refused (coded b))) 0 ≡ true → ⊥ = λ z. true≢false (sym (coded_none _ (own _) (eqb-true _ 0 z)) ∙ e) in
          rw e
          (record {
            taken = λ z. absurd (no z);
            made = λ z. absurd (no z);
            moved = λ z. absurd (no z);
            kept = λ z. ap state_at (back (coded b));
          })

-- so the calls of C, each of which is `to` for the entry, follow the entry's
follow : {C D X : Type 0} (answer : X → ℕ) (state : X → List ℕ) (made : List ℕ → C → X) (to : C → D) (refusal : LineState → D → Answer)
    (left : LineState → D → LineState) (done : List ℕ → C → X)
    → ((s : List ℕ) (c : C) → Steps answer state s (refusal (state_at s) (to c)) (left (state_at s) (to c)) (done s c) (made s c))
    → Follows (λ s c. eqb (answer (made s c)) 0) (λ s c. state (made s c)) to (λ st d. accepted (refusal st d)) left state_at
follow answer state made to refusal left done step =
    record { kept = λ s c. (step s c).kept; taken = λ s c. (step s c).taken; moved = λ s c. (step s c).moved }

-- ---- v91_send

abbrev to_send : CSend → SendCall
to_send c = send_call (record_at c.rec) (law_of c.a_law) c.frames c.control c.word c.bits c.octets

module _ (s : List ℕ) (c : CSend) where
  abbrev send_done : AfterSend
  send_done =
      let left = send_left (state_at s) (to_send c) in
      record { answer = 0; octets = send_octets (state_at s) (to_send c); state = state_left c.frames left s }

  send_fits : sends (state_at s) (to_send c) ≡ true → Fits (send_left (state_at s) (to_send c))
  unfolding send_refusal send_after send_next sequence_sent sequence_bytes
  send_fits t =
      let e = (sends-own (state_at s) (to_send c) t).state in
      let p = passed (record_at c.rec) (state_at s) c.frames _ _ t in
      rw e
      (after_keeps send_next Fits
      (λ st f h. (
        push_all-lt st.history _ h.0,
        twelve (starts_in st f.control) (sequence_bit f.sequence) st.sequence h.1,
      )) (state_at s) _ (fits-at s p.history))

  send_none : sends (state_at s) (to_send c) ≡ true → c.frames ≡ 0 → send_left (state_at s) (to_send c) ≡ state_at s
  unfolding send_after outgoing_frames after
  send_none t z = (sends-own (state_at s) (to_send c) t).state ∙ rw z

  send_steps : Steps (λ x. x.answer) (λ x. x.state) s (send_refusal (state_at s) (to_send c)) (send_left (state_at s) (to_send c)) send_done
      (after_send s c)
  unfolding v91_send
  send_steps =
      steps s c.frames _ _ _ (entry_took c.rec s _) (λ x. x.answer) (λ x. x.state) send_done _ refl (λ k. refl) refl (λ k. refl)
      send_fits send_none

send_follows : Follows c_sends c_send_left to_send sends send_left state_at
send_follows = follow (λ x. x.answer) (λ x. x.state) after_send to_send send_refusal send_left send_done send_steps

-- the entry's calls for those of C, and what they read and write
module _ (s : List ℕ) (cs : List CSend) where
  abbrev send_calls : List SendCall
  send_calls = calls c_sends c_send_left to_send s cs

  same-message : c_message s cs ≡ message (state_at s) send_calls
  unfolding c_message message send_bits
  same-message = same_parts send_follows _ _ (λ s c e. refl) s cs

  same_sent : c_sent s cs ≡ sent (state_at s) send_calls
  unfolding c_sent sent
  same_sent =
      same_parts send_follows _ _ (λ s c e. ap (λ (x : AfterSend). take (6 * c.frames) x.octets) ((send_steps s c).made e)) s cs

  same_send_choices : c_send_choices s cs ≡ send_choices (state_at s) send_calls
  unfolding c_send_choices send_choices
  same_send_choices = same_parts send_follows _ _ (λ s c e. refl) s cs

  same-sender : (r : Record) (l : Law) → CSendsWith r l s cs → SendsWith r l (state_at s) send_calls
  unfolding CSendsWith SendsWith
  same-sender r l = same-all send_follows _ _ (λ c p. p) s cs

-- ---- v91_receive

abbrev to_receive : CReceive → ReceiveCall
to_receive c = receive_call (record_at c.rec) (law_of c.a_law) c.frames c.control c.octets c.bits c.marks

module _ (s : List ℕ) (c : CReceive) where
  abbrev receive_done : AfterReceive
  receive_done =
      record {
        answer = 0;
        bits = receive_bytes (state_at s) (to_receive c);
        marks = receive_marked (state_at s) (to_receive c);
        heard = over (heard_bytes (receive_says (state_at s) (to_receive c))) c.heard;
        state = state_left c.frames (receive_left (state_at s) (to_receive c)) s;
      }

  receive_fits : receives (state_at s) (to_receive c) ≡ true → Fits (receive_left (state_at s) (to_receive c))
  unfolding receive_refusal receive_after receive_next
  receive_fits t =
      let e = (receives-own (state_at s) (to_receive c) t).state in
      let p = passed (record_at c.rec) (state_at s) c.frames _ _ t in
      let r = record_at c.rec in
      let l = law_of c.a_law in
      rw e
      (after_keeps (receive_next r l) Fits
      (λ st y h. (
        push_all-lt st.history _ h.0,
        twelve (controls st y.control) (nth (sequence_so_far r l st y)) st.sequence h.1,
      )) (state_at s) _ (fits-at s p.history))

  receive_none : receives (state_at s) (to_receive c) ≡ true → c.frames ≡ 0 → receive_left (state_at s) (to_receive c) ≡ state_at s
  unfolding receive_after incoming_frames parts after
  receive_none t z = (receives-own (state_at s) (to_receive c) t).state ∙ rw z

  receive_steps : Steps (λ x. x.answer) (λ x. x.state) s (receive_refusal (state_at s) (to_receive c))
      (receive_left (state_at s) (to_receive c)) receive_done (after_receive s c)
  unfolding v91_receive
  receive_steps =
      steps s c.frames _ _ _ (λ e. entry_took c.rec s _ (short_took _ _ e)) (λ x. x.answer) (λ x. x.state) receive_done _
      refl (λ k. refl) refl (λ k. refl) receive_fits receive_none

receive_follows : Follows c_receives c_receive_left to_receive receives receive_left state_at
receive_follows = follow (λ x. x.answer) (λ x. x.state) after_receive to_receive receive_refusal receive_left receive_done receive_steps

module _ (s : List ℕ) (cs : List CReceive) where
  abbrev receive_calls : List ReceiveCall
  receive_calls = calls c_receives c_receive_left to_receive s cs

  same_read : c_octets_read s cs ≡ octets_read (state_at s) receive_calls
  unfolding c_octets_read octets_read receive_octets
  same_read = same_parts receive_follows _ _ (λ s c e. refl) s cs

  same-given : c_handed_over s cs ≡ handed_over (state_at s) receive_calls
  unfolding c_handed_over handed_over
  same-given =
      same_parts receive_follows _ _
      (λ s c e. ap (λ (x : AfterReceive). bits_in (call_bits (record_at c.rec) c.control (state_at s).place c.frames) x.bits)
      ((receive_steps s c).made e)) s cs

  same-marks : c_marks_given s cs ≡ marks_given (state_at s) receive_calls
  unfolding c_marks_given marks_given
  same-marks =
      same_parts receive_follows _ _ (λ s c e. ap (λ (x : AfterReceive). take c.frames x.marks) ((receive_steps s c).made e)) s cs

  same_receive_choices : c_receive_choices s cs ≡ receive_choices (state_at s) receive_calls
  unfolding c_receive_choices receive_choices
  same_receive_choices = same_parts receive_follows _ _ (λ s c e. refl) s cs

  same-frames : c_frames_read s cs ≡ frames_read (state_at s) receive_calls
  unfolding c_frames_read frames_read receive_octets
  same-frames = same_parts receive_follows _ _ (λ s c e. refl) s cs

  same-before : (r : Record) (l : Law) → c_state_before r l s cs ≡ state_before r l (state_at s) receive_calls
  unfolding c_state_before state_before
  same-before r l = ap {B = ℕ → LineState} (λ (ys : List Incoming) (i : ℕ). after (receive_next r l) (state_at s) (take i ys)) same-frames

  same-receiver : (r : Record) (l : Law) → CReceivesWith r l s cs → ReceivesWith r l (state_at s) receive_calls
  unfolding CReceivesWith ReceivesWith
  same-receiver r l = same-all receive_follows _ _ (λ c p. p) s cs

-- ---- demand 3

same-run : (r : Record) (l : Law) (s t : List ℕ) (sending : List CSend) (receiving : List CReceive) (w : Damage) (line : List ℕ) (m : ℕ)
    → CRun r l s t sending receiving w line m
    → Run r l (state_at s) (state_at t) (send_calls s sending) (receive_calls t receiving) w line m
same-run r l s t sending receiving w line m run =
    record {
      sender = same-sender s sending r l run.sender;
      receiver = same-receiver t receiving r l run.receiver;
      carried = rw (same_sent s sending) at run.carried;
      inside = run.inside;
      reads = sym (same_read t receiving) ∙ run.reads;
      choices = rw (same_receive_choices t receiving, same_send_choices s sending) at run.choices;
      places = rw (same_send_choices s sending) at run.places;
    }

pub c_runs : CRunsDeliver
c_runs r l s t sending receiving w line m run =
    rw (same_send_choices s sending, same-message s sending, same-given t receiving, same-marks t receiving)
    (runs r l (state_at s) (state_at t) (send_calls s sending) (receive_calls t receiving) w line m
    (same-run r l s t sending receiving w line m run))

pub c_messages_differ : CMessagesDiffer
c_messages_differ r l s t one other k p q on places long octets =
    same-message s one
    ∙ messages_differ r l (state_at s) (state_at t) (send_calls s one) (send_calls t other) k (same-sender s one r l p)
    (same-sender t other r l q) (rw (same_send_choices s one, same_send_choices t other) at on) (rw (same_send_choices s one) at places)
    (ap length (sym (same-message s one)) ∙ long ∙ ap length (same-message t other))
    (sym (same_sent s one) ∙ octets ∙ same_sent t other)
    ∙ sym (same-message t other)

-- ---- A.1

pub c_counts : CCountsHold
c_counts r l s t sending receiving w line m run marked begun =
    rw (
      same-before t receiving r l,
      same_send_choices s sending,
      same-message s sending,
      same-given t receiving,
      same-marks t receiving,
      same_left receive_follows t receiving,
    )
    (counts r l (state_at s) (state_at t) (send_calls s sending) (receive_calls t receiving) w line m
    (same-run r l s t sending receiving w line m run) (rw (same_sent s sending, same-marks t receiving) at marked) begun)

-- ---- A.13

pub c_flip_costs : CFlipCosts
c_flip_costs r l t one other n i w w' h =
    rw (
      same_receive_choices t one,
      same-given t one,
      same-given t other,
      same-marks t one,
      same-marks t other,
      same_left receive_follows t one,
      same_left receive_follows t other,
    )
    (flip_costs r l (state_at t) (receive_calls t one) (receive_calls t other) n i (same-receiver t one r l w) (same-receiver t other r l w')
    (rw (same_receive_choices t one, same_receive_choices t other, same_read t one, same_read t other, same-marks t one) at h))

-- ---- A.2: what is said of sequences

-- in bytes: byte 0 of what is said is 0 for nothing and else is not
spoken-bytes : (x : Said) → spoken_in (heard_bytes x) ≡ map heard_bytes (spoken x)
unfolding heard_bytes heard_byte said_kind list_from
spoken-bytes Nothing = refl
spoken-bytes (Sequence w) = refl
spoken-bytes FrameLost = refl
spoken-bytes PatternWrong = refl
spoken-bytes CrcWrong = refl

-- the first bytes of `heard` after an accepted call
heard-first : (x : Said) (heard : List ℕ) → take heard_length (over (heard_bytes x) heard) ≡ heard_bytes x
unfolding heard_bytes
heard-first x heard = take_at (heard_bytes x) (drop (length (heard_bytes x)) heard) heard_length (length-list_from (heard_byte x) 0 heard_length)

module _ {S C X Y : Type 0} (accepts : S → C → Bool) (left : S → C → S) (part : S → C → List X) (f : X → Y) where
  over-map : (s : S) (cs : List C) → over_calls accepts left (λ s c. map f (part s c)) s cs ≡ map f (over_calls accepts left part s cs)
  unfolding over_calls
  over-map s [] = refl
  over-map s (c ∷ cs) = ap₂ ◌++◌ (go (accepts s c)) (over-map (left s c) cs) ∙ sym (map-append f (cond (accepts s c) (part s c) []) _)
    where
      go : (b : Bool) → cond b (map f (part s c)) [] ≡ map f (cond b (part s c) [])
      go true = refl
      go false = refl

pub c_said : CSaid
unfolding c_said_given said_given c_said_at said_at
c_said r l t receiving w =
    same_parts receive_follows _ (λ st c. map heard_bytes (spoken (receive_says st c)))
    (λ s c e. ap (λ (x : AfterReceive). spoken_in (take heard_length x.heard)) ((receive_steps s c).made e)
    ∙ ap spoken_in (heard-first (receive_says (state_at s) (to_receive c)) c.heard) ∙ spoken-bytes (receive_says (state_at s) (to_receive c)))
    t receiving
    ∙ over-map receives receive_left (λ st c. spoken (receive_says st c)) heard_bytes (state_at t) (receive_calls t receiving)
    ∙ ap (map heard_bytes) (calls_say r l (state_at t) (receive_calls t receiving) (same-receiver t receiving r l w)
    ∙ ap (λ (ys : List Incoming). joined (each (said_in r l) (receive_next r l) (state_at t) ys)) (sym (same-frames t receiving)))

-- ---- the record that v91_read_cp leaves

half_small : (f : ℕ → Bool) (g h : ℕ) → half_in f g h < 2 ^ 64
unfolding half_in
half_small f g h = go (leb (h / 2) g) refl
  where
    go : (b : Bool) → leb (h / 2) g ≡ b → half_in f g h < 2 ^ 64
    go true e = rw e (field_lt (mask_bit_in f (h / 2)) (64 * (h % 2)) 64)
    go false e = rw e (lit< tt)

shaped_in : (f : ℕ → Bool) → Shaped (record_in f)
unfolding record_in
shaped_in f =
    let half = half_in f (largest (index_in f) 6) in
    record {
      indices = length-list_from (index_in f) 0 6;
      halves = length-list_from half 0 12;
      words = λ h. list_below half (2 ^ 64) (lit< tt) 12 h (half_small f (largest (index_in f) 6));
    }

shaped_read : (c : ReadCall) → Shaped (read_record c)
unfolding read_record no_record list_from
shaped_read c = go (accepted (read_refusal c)) refl
  where
    go : (b : Bool) → accepted (read_refusal c) ≡ b → Shaped (read_record c)
    go true e = rw e (shaped_in (bit_at c.bytes))
    go false e = rw e (record { indices = refl; halves = refl; words = λ h. list_below (λ k. 0) (2 ^ 64) (lit< tt) 12 h (λ k. lit< tt) })

pub c_record_read : CRecordRead
unfolding v91_read_cp answered
c_record_read cp n rec z = go (accepted (first (read_tests cp n ++ (test 17 (shorter rec record_length) ∷ [])))) refl
  where
    go : (b : Bool) → accepted (first (read_tests cp n ++ (test 17 (shorter rec record_length) ∷ []))) ≡ b
        → record_at (v91_read_cp cp n rec).rec ≡ read_record (read_call cp n)
    go true e =
        let shaped = shaped_read (read_call cp n) in
        rw e (record_back (read_record (read_call cp n)) _ shaped.indices shaped.halves shaped.words)
    go false e =
        let k : coded (first (read_tests cp n ++ (test 17 (shorter rec record_length) ∷ []))) ≡ 0 = rw e at z in
        absurd (true≢false (sym (eq-eqb (first (read_tests cp n ++ (test 17 (shorter rec record_length) ∷ []))).number 0 (omega arith)) ∙ e))
