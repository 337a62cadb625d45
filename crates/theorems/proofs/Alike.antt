-- A.1 and A.2: what makes no two line states differ changes no bit, no octet, no mark and nothing that is said. Assumes nothing.
use mathlib.Core.Path.{◌≡◌, refl, sym, ap, ap₂, ◌∙◌}
use mathlib.Core.Logic.{◌⊎◌, inl, inr}
use Prim.Native.Nat.{ℕ, ◌+◌, ◌*◌, ◌%◌, ◌^◌, ◌≤◌}
use mathlib.Core.Bool.{Bool, true, false, true≢false, cond, not, ◌&&◌, ◌||◌}
use mathlib.Core.List.{List, [], ◌∷◌, ◌++◌}
use native.Mathlib.Omega.{arith}
use borrow.Author.Tests.{le-ltb, eq-eqb}
use lib.Dec.{eqb, leb, ltb}
use lib.ListN.{take, drop, replicate}
use Rattle.standard.specs.Lists.{list_from, last_or, joined, each}
use Rattle.standard.specs.First.{Test, first}
use Rattle.standard.specs.Bits.{bit_at, bits_in, bytes_of, bytes_for, nth}
use Rattle.standard.specs.Scrambler.{push_all, scramble, descramble}
use Rattle.standard.specs.Control.{sequence_bytes, judged}
use Rattle.standard.specs.Frame.{is_control, next_place, width, call_bits, controls, starts_in, ends_in, next_done, Outgoing, sequence_sent}
use Rattle.standard.specs.Frame.{control_bits, line_bits, frame_signs, frame_octets, send_frame, send_next, good, heard_bits, Incoming}
use Rattle.standard.specs.Frame.{heard_control, heard_data, receive_frame, sequence_so_far, lost_so_far, said_in, receive_next, outgoing_frames}
use Rattle.standard.specs.Frame.{send_frames, send_after, incoming_frames, receive_frames, receive_after, receive_said}
use Rattle.standard.specs.Refusals.{history_too_large, doubtful_too_large, place_too_large, state_tests, line_tests, shorter, frame_tests}
use Rattle.standard.specs.Calls.{accepted, over, SendCall, send_refusal, send_bits, send_left, send_octets, ReceiveCall, receive_count}
use Rattle.standard.specs.Calls.{receive_refusal, receive_octets, receive_left, receive_bytes, receive_marked, receive_says}
use Rattle.standard.specs.declared.Law.{Law}
use Rattle.standard.specs.declared.LineState.{LineState}
use Rattle.standard.specs.declared.Record.{Record}
use Rattle.standard.specs.declared.Said.{Said}
use Rattle.standard.specs.declared.Said.TheVariants.{Nothing}
use Rattle.standard.proofs.Lists.{after_related, each_related}
use Rattle.standard.proofs.Frame.{doubtful-le}
use Rattle.theorems.specs.Runs.{over_calls, sends, receives, message, sent, handed_over, marks_given}
use Rattle.theorems.specs.Channel.{spoken, said_given}
use Rattle.theorems.specs.Alike.{Alike, AlikeSenders, AlikeReceivers, StatesAlike}

-- calls that are accepted alike and give the same in related states
module _ {S C : Type 0} (R : S → S → Type 0) (accepts : S → C → Bool) (left : S → C → S)
    (same-accepts : (s t : S) (c : C) → R s t → accepts s c ≡ accepts t c) (keeps : (s t : S) (c : C) → R s t → R (left s c) (left t c))
  where
    over_related : {X : Type 0} (part : S → C → List X) → ((s t : S) (c : C) → R s t → part s c ≡ part t c) → (s t : S) (cs : List C) → R s t
        → over_calls accepts left part s cs ≡ over_calls accepts left part t cs
    unfolding over_calls
    over_related part same s t [] p = refl
    over_related {X} part same s t (c ∷ cs) p =
        ap₂ ◌++◌ (ap₂ (λ (b : Bool) (x : List X). cond b x []) (same-accepts s t c p) (same s t c p))
        (over_related part same (left s c) (left t c) cs (keeps s t c p))

either_related : {S : Type 0} (R : S → S → Type 0) (b c : Bool) {x y s t : S} → b ≡ c → R x y → R s t → R (cond b x s) (cond c y t)
either_related R true true e p q = p
either_related R false false e p q = q
either_related R true false e p q = absurd (true≢false e)
either_related R false true e p q = absurd (true≢false (sym e))

-- ---- the tests, and the channel's places

small : (st : LineState) → st.doubtful ≤ 24 → doubtful_too_large st ≡ false
unfolding doubtful_too_large
small st h = le-ltb 24 st.doubtful h

module _ (s t : LineState) (p : Alike s t) where
  same-history : history_too_large s ≡ history_too_large t
  unfolding history_too_large
  same-history = ap (leb (2 ^ 23)) p.same.0

  same_count : doubtful_too_large s ≡ doubtful_too_large t
  same_count = small s (omega arith) ∙ sym (small t (omega arith))

  same-places : place_too_large s ≡ place_too_large t
  unfolding place_too_large
  same-places = ap₂ (λ (a b : ℕ). ltb 63 a || ltb 15 b) p.place p.done

  same_tests : (r : Record) (n : ℕ) (readShort writeShort : Bool) → frame_tests r s n readShort writeShort ≡ frame_tests r t n readShort
      writeShort
  unfolding frame_tests line_tests state_tests
  same_tests r n readShort writeShort = let h = same-history in let d = same_count in let q = same-places in cc

  same-control : (on : Bool) → controls s on ≡ controls t on
  same-control on = ap (is_control on) p.place

  same_start : (on : Bool) → starts_in s on ≡ starts_in t on
  same_start on = ap₂ (λ (b : Bool) (d : ℕ). b && eqb d 0) (same-control on) p.done

  same_end : (on : Bool) → ends_in s on ≡ ends_in t on
  same_end on = ap₂ (λ (b : Bool) (d : ℕ). b && eqb d 15) (same-control on) p.done

  same-done : (on : Bool) → next_done s on ≡ next_done t on
  same-done on = ap₂ (λ (b : Bool) (d : ℕ). cond b ((d + 1) % 16) d) (same-control on) p.done

-- ---- the sender

module _ (s t : LineState) (f : Outgoing) (p : AlikeSenders s t) where
  -- the sequence is kept, or one starts
  kept : s.sequence ≡ t.sequence → sequence_sent s f ≡ sequence_sent t f
  unfolding sequence_sent
  kept e = ap₂ (λ (b : Bool) (x : List ℕ). cond b (sequence_bytes f.sequence) x) (same_start s t p.alike f.control) e

  started : starts_in s f.control ≡ true → sequence_sent s f ≡ sequence_sent t f
  unfolding sequence_sent
  started e = rw (← same_start s t p.alike f.control, e)

  -- a control frame has bits of one sequence
  same-sequence : controls s f.control ≡ true → sequence_sent s f ≡ sequence_sent t f
  same-sequence e = go p.bits
    where
      go : (s.done ≡ 0) ⊎ (s.sequence ≡ t.sequence) → sequence_sent s f ≡ sequence_sent t f
      go (inl z) = started (ap₂ ◌&&◌ e (eq-eqb s.done 0 z))
      go (inr z) = kept z

  same_line : line_bits s f ≡ line_bits t f
  unfolding line_bits control_bits
  same_line = ap₂ ◌++◌ (go (controls s f.control) refl) (ap (λ (h : ℕ). scramble h f.bits) p.alike.same.0)
    where
      go : (b : Bool) → controls s f.control ≡ b
          → cond (controls s f.control) (list_from (bit_at (sequence_sent s f)) (6 * s.done) 6) []
          ≡ cond (controls t f.control) (list_from (bit_at (sequence_sent t f)) (6 * t.done) 6) []
      go true e = rw (← same-control s t p.alike f.control, e, same-sequence e, p.alike.done)
      go false e = rw (← same-control s t p.alike f.control, e)

  send_alike : Alike (send_next s f) (send_next t f)
  unfolding send_next
  send_alike =
      record {
        same = (
          ap (λ (h : ℕ). push_all h (scramble h f.bits)) p.alike.same.0,
          ap₂
              (λ (g : Bool) (ss : List Bool). nth (frame_signs g ss) 5) p.alike.same.1 same_line,
        );
        countˢ = p.alike.countˢ;
        countᵗ = p.alike.countᵗ;
        place = ap (next_place f.control) p.alike.place;
        done = same-done s t p.alike f.control;
      }

  send_keeps : AlikeSenders (send_next s f) (send_next t f)
  unfolding send_next
  send_keeps = record { alike = send_alike; bits = go (controls s f.control) refl p.bits }
    where
      go : (b : Bool) → controls s f.control ≡ b → (s.done ≡ 0) ⊎ (s.sequence ≡ t.sequence)
          → (next_done s f.control ≡ 0) ⊎ (sequence_sent s f ≡ sequence_sent t f)
      go true e z = inr (same-sequence e)
      go false e (inl z) = inl (rw e z)
      go false e (inr z) = inr (kept z)

same-frame : (r : Record) (l : Law) (s t : LineState) (f : Outgoing) → AlikeSenders s t → send_frame r l s f ≡ send_frame r l t f
unfolding send_frame
same-frame r l s t f p = ap₂ (frame_octets r l) p.alike.same.1 (same_line s t f p)

module _ (s t : LineState) (c : SendCall) (p : AlikeSenders s t) where
  same-sends : sends s c ≡ sends t c
  unfolding send_refusal
  same-sends =
      ap
      (λ (q : ℕ).
      accepted
      (first
      (frame_tests c.cp s c.frames (shorter c.bytes (bytes_for (call_bits c.cp c.control q c.frames)))
      (shorter c.octets (6 * c.frames)))))
      p.alike.place
      ∙ ap (λ (ts : List Test). accepted (first ts)) (same_tests s t p.alike c.cp c.frames _ _)

  same-given : send_bits s c ≡ send_bits t c
  unfolding send_bits
  same-given = ap (λ (q : ℕ). bits_in (call_bits c.cp c.control q c.frames) c.bytes) p.alike.place

  abbrev frames_of : LineState → List Outgoing
  frames_of z = outgoing_frames c.cp c.control c.sequence z.place c.frames (send_bits z c)

  same-frames : frames_of s ≡ frames_of t
  same-frames = ap₂ (λ (q : ℕ) (ds : List Bool). outgoing_frames c.cp c.control c.sequence q c.frames ds) p.alike.place
      same-given

  same-octets : send_octets s c ≡ send_octets t c
  unfolding send_octets send_frames
  same-octets =
      ap₂ (λ (b : Bool) (xs : List (List ℕ)). cond b (over (joined xs) c.octets) c.octets) same-sends
      (ap (each (send_frame c.cp c.law) send_next s) same-frames
      ∙ each_related AlikeSenders send_next send_keeps (send_frame c.cp c.law) (same-frame c.cp c.law) s t (frames_of t) p)

  sent-alike : AlikeSenders (send_left s c) (send_left t c)
  unfolding send_left send_after
  sent-alike =
      either_related AlikeSenders (sends s c) (sends t c) same-sends
      (rw same-frames (after_related AlikeSenders send_next send_keeps s t (frames_of t) p)) p

-- ---- the receiver

module _ (r : Record) (l : Law) (s t : LineState) (y : Incoming) (p : AlikeReceivers s t) where
  same-control-heard : heard_control r l s y ≡ heard_control r l t y
  unfolding heard_control
  same-control-heard =
      ap₂ (λ (b g : Bool). cond b (take 6 (heard_bits r l g y.octets)) []) (same-control s t p.alike y.control) p.alike.same.1

  same_data : heard_data r l s y ≡ heard_data r l t y
  unfolding heard_data
  same_data =
      ap₂ (λ (b g : Bool). cond b (drop 6 (heard_bits r l g y.octets)) (heard_bits r l g y.octets))
      (same-control s t p.alike y.control) p.alike.same.1

  same-heard : receive_frame r l s y ≡ receive_frame r l t y
  unfolding receive_frame
  same-heard =
      ap₂ (λ (xs : List Bool) (b : Bool). cond (good r l y.octets) xs (replicate (width r b) false))
      (ap₂ descramble p.alike.same.0 same_data) (same-control s t p.alike y.control)

  same_so_far : sequence_so_far r l s y ≡ sequence_so_far r l t y
  unfolding sequence_so_far
  same_so_far = ap₂ ◌++◌ (p.bits ∙ ap (λ (d : ℕ). bits_in (6 * d) t.sequence) p.alike.done) same-control-heard

  same-lost : controls s y.control ≡ true → lost_so_far r l s y ≡ lost_so_far r l t y
  unfolding lost_so_far
  same-lost e =
      ap (λ (b : Bool). not (good r l y.octets) || b)
      (go p.lost ∙ ap (λ (b : Bool). t.lost && not b) (same_start s t p.alike y.control))
    where
      none : (b : Bool) → b && false ≡ false
      none true = refl
      none false = refl

      go : (s.done ≡ 0) ⊎ (s.lost ≡ t.lost) → s.lost && not (starts_in s y.control) ≡ t.lost && not (starts_in s y.control)
      go (inl z) = rw (e, eq-eqb s.done 0 z) (none s.lost ∙ sym (none t.lost))
      go (inr z) = ap (λ (b : Bool). b && not (starts_in s y.control)) z

  same-said : said_in r l s y ≡ said_in r l t y
  unfolding said_in
  same-said = rw (← same_end s t p.alike y.control) (go (controls s y.control) refl)
    where
      said : LineState → List Said
      said z = judged (lost_so_far r l z y) (nth (sequence_so_far r l z y)) ∷ []

      go : (b : Bool) → controls s y.control ≡ b → cond (ends_in s y.control) (said s) [] ≡ cond (ends_in s y.control) (said t) []
      go true e = ap₂ (λ (b : Bool) (xs : List Bool). cond (ends_in s y.control) (judged b (nth xs) ∷ []) []) (same-lost e) same_so_far
      go false e = rw e

  receive_alike : Alike (receive_next r l s y) (receive_next r l t y)
  unfolding receive_next
  receive_alike =
      record {
        same = (ap₂ push_all p.alike.same.0 same_data, refl);
        countˢ = doubtful-le r l s y p.alike.countˢ;
        countᵗ = doubtful-le r l t y p.alike.countᵗ;
        place = ap (next_place y.control) p.alike.place;
        done = same-done s t p.alike y.control;
      }

  receive_keeps : AlikeReceivers (receive_next r l s y) (receive_next r l t y)
  unfolding receive_next
  receive_keeps = go (controls s y.control) refl
    where
      go : (b : Bool) → controls s y.control ≡ b → AlikeReceivers (receive_next r l s y) (receive_next r l t y)
      go true e =
          record {
            alike = receive_alike;
            bits = rw (← same-control s t p.alike y.control, e)
                (ap (λ (xs : List Bool). bits_in (6 * ((s.done + 1) % 16)) (bytes_of 12 (nth xs))) same_so_far);
            lost = inr (rw (← same-control s t p.alike y.control, e) (same-lost e));
          }
      go false e =
          record {
            alike = receive_alike;
            bits = rw (← same-control s t p.alike y.control, e) p.bits;
            lost = rw (← same-control s t p.alike y.control, e) p.lost;
          }

module _ (s t : LineState) (c : ReceiveCall) (p : AlikeReceivers s t) where
  abbrev next : LineState → Incoming → LineState
  next = receive_next c.cp c.law

  abbrev frames_in : List Incoming
  frames_in = incoming_frames c.control c.frames (receive_octets c)

  same-bits_in : receive_count s c ≡ receive_count t c
  same-bits_in = ap (λ (q : ℕ). call_bits c.cp c.control q c.frames) p.alike.place

  same-receives : receives s c ≡ receives t c
  unfolding receive_refusal
  same-receives =
      ap
      (λ (k : ℕ).
      accepted
      (first
      (frame_tests c.cp s c.frames (shorter c.octets (6 * c.frames))
      (shorter c.bytes (bytes_for k) || shorter c.marks c.frames))))
      same-bits_in
      ∙ ap (λ (ts : List Test). accepted (first ts)) (same_tests s t p.alike c.cp c.frames _ _)

  same-frames-heard : each (receive_frame c.cp c.law) next s frames_in ≡ each (receive_frame c.cp c.law) next t frames_in
  same-frames-heard =
      each_related AlikeReceivers next (receive_keeps c.cp c.law) (receive_frame c.cp c.law) (same-heard c.cp c.law) s t
      frames_in p

  same_bytes : receive_bytes s c ≡ receive_bytes t c
  unfolding receive_bytes receive_frames
  same_bytes =
      rw (same-receives, same-bits_in)
      (ap
      (λ (xs : List (List Bool)).
      cond (receives t c) (over (bytes_of (bytes_for (receive_count t c)) (nth (joined xs))) c.bytes) c.bytes) same-frames-heard)

  same_out : bits_in (receive_count s c) (receive_bytes s c) ≡ bits_in (receive_count t c) (receive_bytes t c)
  same_out = ap₂ bits_in same-bits_in same_bytes

  same-marks : receive_marked s c ≡ receive_marked t c
  unfolding receive_marked
  same-marks = rw same-receives

  same_says : receive_says s c ≡ receive_says t c
  unfolding receive_says receive_said
  same_says =
      ap₂ (λ (b : Bool) (xs : List (List Said)). cond b (last_or Nothing (joined xs)) Nothing) same-receives
      (each_related AlikeReceivers next (receive_keeps c.cp c.law) (said_in c.cp c.law) (same-said c.cp c.law) s t frames_in
      p)

  received-alike : AlikeReceivers (receive_left s c) (receive_left t c)
  unfolding receive_left receive_after
  received-alike =
      either_related AlikeReceivers (receives s c) (receives t c) same-receives
      (after_related AlikeReceivers next (receive_keeps c.cp c.law) s t frames_in p) p

pub states_alike : StatesAlike
unfolding message sent handed_over marks_given said_given
states_alike =
    record {
      given = over_related AlikeSenders sends send_left same-sends sent-alike send_bits same-given;
      octets = over_related AlikeSenders sends send_left same-sends sent-alike (λ st c. take (6 * c.frames) (send_octets st c))
          (λ s t c p. ap (take (6 * c.frames)) (same-octets s t c p));
      out = over_related AlikeReceivers receives receive_left same-receives received-alike
          (λ st c. bits_in (receive_count st c) (receive_bytes st c)) same_out;
      marks = over_related AlikeReceivers receives receive_left same-receives received-alike (λ st c. take c.frames (receive_marked st c))
          (λ s t c p. ap (take c.frames) (same-marks s t c p));
      said = over_related AlikeReceivers receives receive_left same-receives received-alike (λ st c. spoken (receive_says st c))
          (λ s t c p. ap spoken (same_says s t c p));
    }
