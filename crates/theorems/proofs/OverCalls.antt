-- A list of calls comes to one run of frames: what its accepted calls read and write is what the frames do. Assumes nothing.
use mathlib.Core.Path.{◌≡◌, refl, sym, ap, ap₂, ◌∙◌, subst, subst₂}
use mathlib.Core.Logic.{◌⊎◌, inl, inr}
use Prim.Native.Nat.{ℕ, zero, suc, ◌+◌, ◌≤◌, ◌<◌}
use mathlib.Core.Bool.{Bool, true, false, cond}
use mathlib.Core.List.{List, [], ◌∷◌, ◌++◌, map}
use native.Mathlib.Nat.{not-suc-le-zero, suc-ne-zero, eq-zero-or-pos}
use native.Mathlib.Omega.{arith}
use lib.ListN.{length, take, drop, replicate, length-append, length-drop, take-append-drop}
use lib.Seq.{length-take-le}
use Rattle.standard.specs.Lists.{parts, joined, each, after}
use Rattle.standard.specs.Bits.{bits_in}
use Rattle.standard.specs.Frame.{is_control, next_place, width, data_bits, call_bits, controls, Outgoing, send_frame, send_next, Incoming}
use Rattle.standard.specs.Frame.{receive_frame, receive_next, mark, outgoing_frames, send_frames, send_after, six_in, incoming_frames}
use Rattle.standard.specs.Frame.{receive_frames, receive_marks, receive_after}
use Rattle.standard.specs.Calls.{SendCall, send_bits, send_left, ReceiveCall, receive_octets, receive_left, receive_bytes}
use Rattle.standard.specs.declared.Law.{Law}
use Rattle.standard.specs.declared.LineState.{LineState}
use Rattle.standard.specs.declared.Record.{Record}
use Rattle.standard.proofs.Lists.{Sized, joined-append, sized_parts, joined-parts, length-parts, each_append, after-append, each_map}
use Rattle.standard.proofs.Frame.{Holds, Wide, length-outgoing}
use Rattle.standard.proofs.Calls.{Sends, sends-own, Receives, receives-own}
use Rattle.theorems.specs.Runs.{over_calls, AllCalls, sends, receives, message, sent, octets_read, handed_over, marks_given, send_choices}
use Rattle.theorems.specs.Runs.{receive_choices, frames_read, SendsWith, ReceivesWith}
use Rattle.theorems.specs.Channel.{frames_sent}
use Rattle.theorems.proofs.Ends.{Fits, fits-append}

-- ---- for any calls and frames

module _ {S C F : Type 0} (accepts : S → C → Bool) (left : S → C → S) (P : C → Type 0) (frames : S → C → List F) (next : S → F → S)
    (refused : (st : S) (c : C) → accepts st c ≡ false → left st c ≡ st)
    (moved : (st : S) (c : C) → accepts st c ≡ true → P c → left st c ≡ after next st (frames st c)) where
  pub one-run : {X : Type 0} (part : S → C → List X) (out : S → F → List X)
      → ((st : S) (c : C) → accepts st c ≡ true → P c → part st c ≡ joined (each out next st (frames st c)))
      → (st : S) (cs : List C) → AllCalls accepts left P st cs → over_calls accepts left part st cs
      ≡ joined (each out next st (over_calls accepts left frames st cs))
  unfolding over_calls AllCalls joined each
  one-run part out own st [] w = refl
  one-run {X} part out own st (c ∷ cs) w = go (accepts st c) refl (one-run part out own (left st c) cs w.1)
    where
      fs : List F
      fs = over_calls accepts left frames (left st c) cs

      go : (b : Bool) → accepts st c ≡ b → over_calls accepts left part (left st c) cs ≡ joined (each out next (left st c) fs)
          → cond (accepts st c) (part st c) [] ++ over_calls accepts left part (left st c) cs
          ≡ joined (each out next st (cond (accepts st c) (frames st c) [] ++ fs))
      go true e k =
          rw e (ap₂ ◌++◌ (own st c e (w.0 e)) (k ∙ ap (λ (z : S). joined (each out next z fs)) (moved st c e (w.0 e)))
          ∙ sym (ap joined (each_append out next st (frames st c) fs) ∙ joined-append (each out next st (frames st c))
          (each out next (after next st (frames st c)) fs)))
      go false e k = rw e (k ∙ ap (λ (z : S). joined (each out next z fs)) (refused st c e))

  pub run_fits : (Fit : S → F → Type 0) → ((st : S) (c : C) → accepts st c ≡ true → P c → Fits next Fit st (frames st c))
      → (st : S) (cs : List C) → AllCalls accepts left P st cs → Fits next Fit st (over_calls accepts left frames st cs)
  unfolding over_calls AllCalls
  run_fits Fit own st [] w = tt
  run_fits Fit own st (c ∷ cs) w = go (accepts st c) refl (run_fits Fit own (left st c) cs w.1)
    where
      fs : List F
      fs = over_calls accepts left frames (left st c) cs

      go : (b : Bool) → accepts st c ≡ b → Fits next Fit (left st c) fs → Fits next Fit st (cond (accepts st c) (frames st c) [] ++ fs)
      go true e k = rw e
          (fits-append next Fit st (frames st c) fs (own st c e (w.0 e)) (subst (λ (z : S). Fits next Fit z fs) (moved st c e (w.0 e)) k))
      go false e k = rw e (subst (λ (z : S). Fits next Fit z fs) (refused st c e) k)

  -- the state that the calls leave is the one that the frames leave
  pub run-state : (st : S) (cs : List C) → AllCalls accepts left P st cs
      → after left st cs ≡ after next st (over_calls accepts left frames st cs)
  unfolding over_calls AllCalls after
  run-state st [] w = refl
  run-state st (c ∷ cs) w = run-state (left st c) cs w.1 ∙ go (accepts st c) refl
    where
      fs : List F
      fs = over_calls accepts left frames (left st c) cs

      go : (b : Bool) → accepts st c ≡ b → after next (left st c) fs ≡ after next st (cond (accepts st c) (frames st c) [] ++ fs)
      go true e = rw e (ap (λ (z : S). after next z fs) (moved st c e (w.0 e)) ∙ sym (after-append next st (frames st c) fs))
      go false e = rw e (ap (λ (z : S). after next z fs) (refused st c e))

  -- what follows from any frame of a call follows from one of the run
  pub run_some : (Q : Type 0) → ((st : S) (c : C) → accepts st c ≡ true → P c → zero < length (frames st c) → Q)
      → (st : S) (cs : List C) → AllCalls accepts left P st cs → zero < length (over_calls accepts left frames st cs) → Q
  unfolding over_calls AllCalls
  run_some Q own st [] w h = absurd (not-suc-le-zero h)
  run_some Q own st (c ∷ cs) w h = go (accepts st c) refl h (run_some Q own (left st c) cs w.1)
    where
      fs : List F
      fs = over_calls accepts left frames (left st c) cs

      some : accepts st c ≡ true → length (frames st c ++ fs) ≡ length (frames st c) + length fs → zero < length (frames st c ++ fs)
          → (zero < length fs → Q) → (length (frames st c) ≡ zero) ⊎ (zero < length (frames st c)) → Q
      some e n h k (inl z) = k (omega arith)
      some e n h k (inr z) = own st c e (w.0 e) z

      go : (b : Bool) → accepts st c ≡ b → zero < length (cond (accepts st c) (frames st c) [] ++ fs) → (zero < length fs → Q) → Q
      go true e h k = some e (length-append (frames st c) fs) (rw e at h) k (eq-zero-or-pos (length (frames st c)))
      go false e h k = k (rw e at h)

-- calls that give nothing, end to end
pub nothing_over : {S C X : Type 0} (accepts : S → C → Bool) (left : S → C → S) (P : C → Type 0) (part : S → C → List X)
    → ((st : S) (c : C) → accepts st c ≡ true → P c → part st c ≡ []) → (st : S) (cs : List C) → AllCalls accepts left P st cs
    → over_calls accepts left part st cs ≡ []
unfolding over_calls AllCalls
nothing_over accepts left P part none st [] w = refl
nothing_over {X = X} accepts left P part none st (c ∷ cs) w = go (accepts st c) refl
    (nothing_over accepts left P part none (left st c) cs w.1)
  where
    rest : List X
    rest = over_calls accepts left part (left st c) cs

    go : (b : Bool) → accepts st c ≡ b → rest ≡ [] → cond (accepts st c) (part st c) [] ++ rest ≡ []
    go true e k = rw e (ap₂ ◌++◌ (none st c e (w.0 e)) k)
    go false e k = rw e k

-- one element for each frame
ones : {S F X : Type 0} (next : S → F → S) (g : F → X) (st : S) (fs : List F) → joined (each (λ z x. g x ∷ []) next st fs) ≡ map g fs
unfolding joined each
ones next g st [] = refl
ones {X} next g st (f ∷ fs) = ap (λ (r : List X). g f ∷ r) (ones next g (next st f) fs)

-- ---- the sender

abbrev pub carries : Outgoing → List Bool
carries f = f.bits

abbrev pub choice : Outgoing → Bool
choice f = f.control

pub record SendRun (r : Record) (l : Law) (st : LineState) (fs : List Outgoing) (on ds : List Bool) (os : List ℕ) : Type 0 where
  pub fits : Fits send_next (Wide r) st fs
  pub choices : on ≡ map choice fs
  pub message : ds ≡ joined (map carries fs)
  pub octets : os ≡ joined (each (send_frame r l) send_next st fs)
  pub holds : zero < length fs → Holds r

-- the frames of one call
module _ (r : Record) (on : Bool) (w : ℕ) where
  outgoing_wide : (n : ℕ) (st : LineState) (ds : List Bool) → call_bits r on st.place n ≤ length ds
      → Fits send_next (Wide r) st (outgoing_frames r on w st.place n ds)
  unfolding outgoing_frames data_bits send_next
  outgoing_wide zero st ds h = tt
  outgoing_wide (suc n) st ds h =
      let k = width r (controls st on) in
      let f : Outgoing = record { control = on; sequence = w; bits = take k ds } in
      (length-take-le k ds (omega arith), outgoing_wide n (send_next st f) (drop k ds) (omega (arith, length-drop k ds)))

  outgoing-choice : (n p : ℕ) (ds : List Bool) → map choice (outgoing_frames r on w p n ds) ≡ replicate n on
  unfolding outgoing_frames
  outgoing-choice zero p ds = refl
  outgoing-choice (suc n) p ds = ap (λ (x : List Bool). on ∷ x) (outgoing-choice n (next_place on p) (drop (width r (is_control on p)) ds))

  outgoing-joined : (n p : ℕ) (ds : List Bool) → length ds ≡ call_bits r on p n → joined (map carries (outgoing_frames r on w p n ds)) ≡ ds
  unfolding outgoing_frames data_bits joined
  outgoing-joined zero p [] e = refl
  outgoing-joined zero p (d ∷ ds) e = absurd (suc-ne-zero (length ds) e)
  outgoing-joined (suc n) p ds e =
      let k = width r (is_control on p) in
      ap (λ (x : List Bool). take k ds ++ x) (outgoing-joined n (next_place on p) (drop k ds) (omega (arith, length-drop k ds)))
      ∙ take-append-drop k ds

module _ (r : Record) (l : Law) where
  abbrev With : SendCall → Type 0
  With c = (c.cp ≡ r) × (c.law ≡ l)

  abbrev frames_of : LineState → SendCall → List Outgoing
  frames_of st c = outgoing_frames c.cp c.control c.sequence st.place c.frames (send_bits st c)

  -- the same with the record that all calls have
  abbrev frames_with : LineState → SendCall → List Outgoing
  frames_with st c = outgoing_frames r c.control c.sequence st.place c.frames (send_bits st c)

  with_r : (st : LineState) (c : SendCall) → With c → frames_with st c ≡ frames_of st c
  with_r st c w = ap (λ (x : Record). outgoing_frames x c.control c.sequence st.place c.frames (send_bits st c)) (sym w.0)

  own : (st : LineState) (c : SendCall) → sends st c ≡ true → With c → Sends r l st c
  own st c e w = subst₂ (λ (x : Record) (y : Law). Sends x y st c) w.0 w.1 (sends-own st c e)

  refused : (st : LineState) (c : SendCall) → sends st c ≡ false → send_left st c ≡ st
  unfolding send_left
  refused st c e = rw e

  moved : (st : LineState) (c : SendCall) → sends st c ≡ true → With c → send_left st c ≡ after send_next st (frames_of st c)
  unfolding send_after
  moved st c e w = (own st c e w).state ∙ ap (after send_next st) (with_r st c w)

  pub send_run : (st : LineState) (cs : List SendCall) → SendsWith r l st cs
      → SendRun r l st (frames_sent st cs) (send_choices st cs) (message st cs) (sent st cs)
  unfolding message sent send_choices frames_sent SendsWith send_frames
  send_run st cs w =
      let fs = over_calls sends send_left frames_of st cs in
      record {
        fits =
            run_fits sends send_left With frames_of send_next refused moved (Wide r)
            (λ z c e k. subst (Fits send_next (Wide r) z) (with_r z c k)
            (outgoing_wide r c.control c.sequence c.frames z (send_bits z c) (omega (arith, (own z c e k).many)))) st cs w;
        choices =
            one-run sends send_left With frames_of send_next refused moved _ (λ z f. choice f ∷ [])
            (λ z c e k. sym (ones send_next choice z (frames_of z c)
            ∙ outgoing-choice c.cp c.control c.sequence c.frames z.place (send_bits z c))) st cs w
            ∙ ones send_next choice st fs;
        message =
            one-run sends send_left With frames_of send_next refused moved _ (λ z f. carries f)
            (λ z c e k. sym (ap joined (each_map carries send_next z (frames_of z c) ∙ ap (map carries) (sym (with_r z c k)))
            ∙ outgoing-joined r c.control c.sequence c.frames z.place (send_bits z c) (own z c e k).many)) st cs w
            ∙ ap joined (each_map carries send_next st fs);
        octets =
            one-run sends send_left With frames_of send_next refused moved _ (send_frame r l)
            (λ z c e k. (own z c e k).octets ∙ ap (λ (x : List Outgoing). joined (each (send_frame r l) send_next z x)) (with_r z c k))
            st cs w;
        holds = run_some sends send_left With frames_of send_next refused moved (Holds r)
            (λ z c e k h. (own z c e k).holds
            (rw (length-outgoing c.cp c.control c.sequence z.place c.frames (send_bits z c)) at h)) st cs w;
      }

-- ---- the receiver

abbrev pub six : Incoming → List ℕ
six y = y.octets

abbrev pub chosen : Incoming → Bool
chosen y = y.control

pub record ReceiveRun (r : Record) (l : Law) (st left : LineState) (frames : List Incoming) (on : List Bool) (os : List ℕ) (ds : List Bool)
    (ms : List ℕ) : Type 0 where
  pub sized : Sized 6 (map six frames)
  pub choices : on ≡ map chosen frames
  pub octets : os ≡ joined (map six frames)
  pub bits : ds ≡ joined (each (receive_frame r l) (receive_next r l) st frames)
  pub marks : ms ≡ map (λ y. mark r l y.octets) frames
  pub state : left ≡ after (receive_next r l) st frames

-- the frames of one call
module _ (on : Bool) where
  map_six : (xs : List (List ℕ)) → map six (map (six_in on) xs) ≡ xs
  map_six [] = refl
  map_six (x ∷ xs) = ap (λ (r : List (List ℕ)). x ∷ r) (map_six xs)

  map_chosen : (xs : List (List ℕ)) → map chosen (map (six_in on) xs) ≡ replicate (length xs) on
  map_chosen [] = refl
  map_chosen (x ∷ xs) = ap (λ (r : List Bool). on ∷ r) (map_chosen xs)

  map-mark : (g : List ℕ → ℕ) (xs : List (List ℕ)) → map g xs ≡ map (λ (y : Incoming). g y.octets) (map (six_in on) xs)
  map-mark g [] = refl
  map-mark g (x ∷ xs) = ap (λ (r : List ℕ). g x ∷ r) (map-mark g xs)

  module _ (n : ℕ) (os : List ℕ) where
    incoming_six : map six (incoming_frames on n os) ≡ parts 6 n os
    unfolding incoming_frames
    incoming_six = map_six (parts 6 n os)

    incoming_chosen : map chosen (incoming_frames on n os) ≡ replicate n on
    unfolding incoming_frames
    incoming_chosen = map_chosen (parts 6 n os) ∙ ap (λ (k : ℕ). replicate k on) (length-parts 6 n os)

    incoming_marks : (r : Record) (l : Law) → receive_marks r l n os ≡ map (λ (y : Incoming). mark r l y.octets) (incoming_frames on n os)
    unfolding incoming_frames receive_marks
    incoming_marks r l = map-mark (mark r l) (parts 6 n os)

-- frames of six octets fit in any state, and only they
fits_six : {S : Type 0} (next : S → Incoming → S) (st : S) (ys : List Incoming) → Fits next (λ z y. length y.octets ≡ 6) st ys
    → Sized 6 (map six ys)
fits_six next st [] k = tt
fits_six next st (y ∷ ys) k = (k.0, fits_six next (next st y) ys k.1)

six_fits : {S : Type 0} (next : S → Incoming → S) (st : S) (ys : List Incoming) → Sized 6 (map six ys)
    → Fits next (λ z y. length y.octets ≡ 6) st ys
six_fits next st [] k = tt
six_fits next st (y ∷ ys) k = (k.0, six_fits next (next st y) ys k.1)

module _ (r : Record) (l : Law) where
  abbrev pub Withʳ : ReceiveCall → Type 0
  Withʳ c = (c.cp ≡ r) × (c.law ≡ l)

  abbrev pub frames_in : LineState → ReceiveCall → List Incoming
  frames_in st c = incoming_frames c.control c.frames (receive_octets c)

  pub ownʳ : (st : LineState) (c : ReceiveCall) → receives st c ≡ true → Withʳ c → Receives r l st c
  ownʳ st c e w = subst₂ (λ (x : Record) (y : Law). Receives x y st c) w.0 w.1 (receives-own st c e)

  pub refusedʳ : (st : LineState) (c : ReceiveCall) → receives st c ≡ false → receive_left st c ≡ st
  unfolding receive_left
  refusedʳ st c e = rw e

  pub movedʳ : (st : LineState) (c : ReceiveCall) → receives st c ≡ true → Withʳ c
      → receive_left st c ≡ after (receive_next r l) st (frames_in st c)
  unfolding receive_after
  movedʳ st c e w = (ownʳ st c e w).state

  pub receive_run : (st : LineState) (cs : List ReceiveCall) → ReceivesWith r l st cs
      → ReceiveRun r l st (after receive_left st cs) (frames_read st cs) (receive_choices st cs) (octets_read st cs) (handed_over st cs)
      (marks_given st cs)
  unfolding octets_read handed_over marks_given receive_choices frames_read ReceivesWith receive_frames
  receive_run st cs w =
      let fs = over_calls receives receive_left frames_in st cs in
      let next = receive_next r l in
      let marked : Incoming → ℕ = λ y. mark r l y.octets in
      record {
        sized =
            fits_six next st fs (run_fits receives receive_left Withʳ frames_in next refusedʳ movedʳ (λ z y. length y.octets ≡ 6)
            (λ z c e k. six_fits next z (frames_in z c) (subst (Sized 6) (sym (incoming_six c.control c.frames (receive_octets c)))
            (sized_parts 6 c.frames (receive_octets c) (omega (arith, (ownʳ z c e k).many))))) st cs w);
        choices =
            one-run receives receive_left Withʳ frames_in next refusedʳ movedʳ _ (λ z y. chosen y ∷ [])
            (λ z c e k. sym (ones next chosen z (frames_in z c) ∙ incoming_chosen c.control c.frames (receive_octets c))) st cs w
            ∙ ones next chosen st fs;
        octets =
            one-run receives receive_left Withʳ frames_in next refusedʳ movedʳ (λ z c. receive_octets c) (λ z y. six y)
            (λ z c e k. sym (ap joined (each_map six next z (frames_in z c) ∙ incoming_six c.control c.frames (receive_octets c))
            ∙ joined-parts 6 c.frames (receive_octets c) (ownʳ z c e k).many)) st cs w
            ∙ ap joined (each_map six next st fs);
        bits =
            one-run receives receive_left Withʳ frames_in next refusedʳ movedʳ _ (receive_frame r l)
            (λ z c e k. ap (λ (x : Record). bits_in (call_bits x c.control z.place c.frames) (receive_bytes z c)) k.0
            ∙ (ownʳ z c e k).bits) st cs w;
        marks =
            one-run receives receive_left Withʳ frames_in next refusedʳ movedʳ _ (λ z y. marked y ∷ [])
            (λ z c e k. (ownʳ z c e k).marks ∙ incoming_marks c.control c.frames (receive_octets c) r l
            ∙ sym (ones next marked z (frames_in z c))) st cs w
            ∙ ones next marked st fs;
        state = run-state receives receive_left Withʳ frames_in next refusedʳ movedʳ st cs w;
      }
