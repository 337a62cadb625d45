-- At most one control sequence starts, and at most one ends, in a call of 1,024 frames; so a call returns all that is said in it. Assumes
-- nothing.
use mathlib.Core.Path.{◌≡◌, refl, ap, ap₂, ◌∙◌}
use mathlib.Core.Logic.{◌⊎◌, inl, inr}
use Prim.Native.Nat.{ℕ, zero, suc, ◌+◌, ◌*◌, ◌-◌, ◌%◌, ◌≤◌, ◌<◌}
use mathlib.Core.Bool.{Bool, true, false, cond, ◌&&◌}
use mathlib.Core.List.{List, [], ◌∷◌, ◌++◌, map}
use native.Mathlib.Decide.{ℕ_discrete as dec_eq}
use native.Mathlib.Nat.{eq-zero-or-pos}
use native.Mathlib.Omega.{arith}
use borrow.Author.Tests.{eq-eqb, ne_eqb, ltb-false}
use lib.Dec.{lit≤, eqb, ltb}
use lib.ListN.{length, drop, length-append}
use Rattle.standard.specs.Lists.{parts, last_or, joined, each}
use Rattle.standard.specs.Bits.{nth}
use Rattle.standard.specs.Control.{pattern_wrong, crc_wrong, judged}
use Rattle.standard.specs.Frame.{is_control, next_place, width, starts_in, ends_in, Outgoing, send_next, Incoming, sequence_so_far, lost_so_far}
use Rattle.standard.specs.Frame.{said_in, receive_next, outgoing_frames, six_in, incoming_frames, receive_said}
use Rattle.standard.specs.Refusals.{place_too_large}
use Rattle.standard.specs.Calls.{send_bits, receive_octets, receive_left, receive_says}
use Rattle.standard.specs.declared.Law.{Law}
use Rattle.standard.specs.declared.LineState.{LineState}
use Rattle.standard.specs.declared.Record.{Record}
use Rattle.standard.specs.declared.Said.{Said}
use Rattle.standard.specs.declared.Said.TheVariants.{Nothing}
use Rattle.standard.proofs.Lists.{or-none, of_either}
use Rattle.standard.proofs.Frame.{length-outgoing, length_incoming}
use Rattle.standard.proofs.Calls.{sends-own, receives-own}
use Rattle.theorems.specs.Runs.{receives, frames_read, ReceivesWith}
use Rattle.theorems.specs.Channel.{Placed, starting, ending, OneSequence, said_at, spoken, said_given, CallsSay}
use Rattle.theorems.proofs.OverCalls.{one-run, Withʳ, frames_in, ownʳ, refusedʳ, movedʳ}
use Rattle.theorems.proofs.Places.{send_placed, receive_placed}

-- ---- for any frames: the next one that gives something is so many frames away, and the one after that 1,024 later

module _ {S F X : Type 0} (out : S → F → List X) (next : S → F → S) (On : F → Type 0) where
  abbrev All : List F → Type 0
  All [] = Unit {0}
  All (f ∷ fs) = On f × All fs

  -- none gives anything
  all_silent : ((st : S) (f : F) → On f → out st f ≡ []) → (st : S) (fs : List F) → All fs → joined (each out next st fs) ≡ []
  unfolding joined each
  all_silent quiet st [] a = refl
  all_silent quiet st (f ∷ fs) a = ap₂ ◌++◌ (quiet st f a.0) (all_silent quiet (next st f) fs a.1)

  module _ (Ok : S → Type 0) (keep : (st : S) (f : F) → On f → Ok st → Ok (next st f)) (far : S → ℕ)
      (wait : (st : S) (f : F) → On f → Ok st → zero < far st → (out st f ≡ []) × (far (next st f) + 1 ≡ far st))
      (hit : (st : S) (f : F) → On f → Ok st → far st ≡ 0 → (length (out st f) ≤ 1) × (far (next st f) ≡ 1023)) where
    none_yet : (st : S) (fs : List F) → All fs → Ok st → length fs ≤ far st → joined (each out next st fs) ≡ []
    unfolding joined each
    none_yet st [] a k h = refl
    none_yet st (f ∷ fs) a k h =
        let w = wait st f a.0 k (omega arith) in
        ap₂ ◌++◌ w.0 (none_yet (next st f) fs a.1 (keep st f a.0 k) (omega (arith, w.1)))

    one_only : (st : S) (fs : List F) → All fs → Ok st → length fs ≤ far st + 1024 → length (joined (each out next st fs)) ≤ 1
    unfolding joined each
    one_only st [] a k h = omega arith
    one_only st (f ∷ fs) a k h = go (eq-zero-or-pos (far st)) (one_only (next st f) fs a.1 (keep st f a.0 k))
      where
        rest : List X
        rest = joined (each out next (next st f) fs)

        go : (far st ≡ 0) ⊎ (zero < far st) → (length fs ≤ far (next st f) + 1024 → length rest ≤ 1) → length (out st f ++ rest) ≤ 1
        go (inl z) ih =
            let w = hit st f a.0 k z in
            omega (
              arith,
              w.0,
              length-append (out st f) rest,
              ap length (none_yet (next st f) fs a.1 (keep st f a.0 k) (omega (arith, w.1))),
            )
        go (inr z) ih =
            let w = wait st f a.0 k z in
            omega (arith, length-append (out st f) rest, ap length w.0, ih (omega (arith, w.1)))

-- ---- places, with the choice on

-- the sequence place after a frame
abbrev done_after : ℕ → ℕ → ℕ
done_after p d = cond (is_control true p) ((d + 1) % 16) d

-- how many frames away the next control frame at sequence place e is
abbrev away : ℕ → ℕ → ℕ → ℕ
away e p d = 64 * ((e + 16 - d) % 16) + (64 - p) % 64

record Step (e p d : ℕ) : Type 0 where
  pub wait : zero < away e p d → (is_control true p && eqb d e ≡ false) × (away e (next_place true p) (done_after p d) + 1 ≡ away e p d)
  pub hit : away e p d ≡ 0 → away e (next_place true p) (done_after p d) ≡ 1023

-- after one more control frame one fewer is left, and after itself 15 are
fewer : (e d : ℕ) → e ≤ 15 → d ≤ 15 → (d ≡ e → ⊥) → (e + 16 - (d + 1) % 16) % 16 + 1 ≡ (e + 16 - d) % 16
fewer e d a b n = go (dec_eq d 15)
  where
    go : Dec (d ≡ 15) → (e + 16 - (d + 1) % 16) % 16 + 1 ≡ (e + 16 - d) % 16
    go (yes z) = rw z (omega arith)
    go (no z) = let k : (d + 1) % 16 ≡ d + 1 = omega arith in rw k (omega arith)

round : (d : ℕ) → d ≤ 15 → (d + 16 - (d + 1) % 16) % 16 ≡ 15
round d h = go (dec_eq d 15)
  where
    go : Dec (d ≡ 15) → (d + 16 - (d + 1) % 16) % 16 ≡ 15
    go (yes z) = rw z
    go (no z) = let k : (d + 1) % 16 ≡ d + 1 = omega arith in rw k (omega arith)

ahead : (x y : ℕ) → x + 1 ≡ y → 64 * x + 63 + 1 ≡ 64 * y + 0
ahead x y e = omega arith

step : (e p d : ℕ) → e ≤ 15 → p ≤ 63 → d ≤ 15 → Step e p d
step e p d l a b = go (dec_eq p 0) (dec_eq d e)
  where
    go : Dec (p ≡ 0) → Dec (d ≡ e) → Step e p d
    go (yes z) (yes y) =
        record { wait = λ h. absurd (omega arith); hit = λ h. rw (eq-eqb p 0 z, ← y, round d b, z) }
    go (yes z) (no y) =
        record {
          wait = λ h. (rw (eq-eqb p 0 z) (ne_eqb d e y), rw (eq-eqb p 0 z, z) (ahead _ _ (fewer e d l b y)));
          hit = λ h. absurd (omega (arith, fewer e d l b y));
        }
    go (no z) y = record { wait = λ h. (rw (ne_eqb p 0 z), rw (ne_eqb p 0 z) (omega arith)); hit = λ h. absurd (omega arith) }

-- of a state that 19 does not turn away
placed : (st : LineState) → place_too_large st ≡ false → Placed st
unfolding place_too_large
placed st e =
    let p = or-none (ltb 63 st.place) (ltb 15 st.done) e in
    (ltb-false 63 st.place p.0, ltb-false 15 st.done p.1)

-- ---- frames of one choice

out_one : {X : Type 0} (b : Bool) (x : X) → length (cond b (x ∷ []) []) ≤ 1
out_one {X} b x = of_either (λ (xs : List X). length xs ≤ 1) b (omega arith) (omega arith)

-- the sender
abbrev start_out : LineState → Outgoing → List Outgoing
start_out st f = cond (starts_in st f.control) (f ∷ []) []

abbrev HasOut : Bool → Outgoing → Type 0
HasOut on f = f.control ≡ on

all-out : (r : Record) (on : Bool) (w n p : ℕ) (ds : List Bool) → All start_out send_next (HasOut on) (outgoing_frames r on w p n ds)
unfolding outgoing_frames
all-out r on w zero p ds = tt
all-out r on w (suc n) p ds = (refl, all-out r on w n (next_place on p) (drop (width r (is_control on p)) ds))

starts-few : (on : Bool) (st : LineState) (fs : List Outgoing) → Placed st → All start_out send_next (HasOut on) fs → length fs ≤ 1024
    → length (joined (each start_out send_next st fs)) ≤ 1
unfolding send_next
starts-few false st fs k a h = omega (arith, ap length (all_silent start_out send_next (HasOut false) (λ z f e. rw e) st fs a))
starts-few true st fs k a h =
    one_only start_out send_next (HasOut true) Placed (λ z f e. send_placed z f) (λ z. away 0 z.place z.done)
    (λ z f e q d. let w = (step 0 z.place z.done (lit≤ tt) q.0 q.1).wait d in (rw (e, w.0), rw e w.1))
    (λ z f e q d. (out_one (starts_in z f.control) f, rw e ((step 0 z.place z.done (lit≤ tt) q.0 q.1).hit d)))
    st fs a k (omega arith)

-- the receiver
abbrev HasIn : Bool → Incoming → Type 0
HasIn on y = y.control ≡ on

module _ (r : Record) (l : Law) where
  all_in : (on : Bool) (xs : List (List ℕ)) → All (said_in r l) (receive_next r l) (HasIn on) (map (six_in on) xs)
  all_in on [] = tt
  all_in on (x ∷ xs) = (refl, all_in on xs)

  ends-few : (on : Bool) (st : LineState) (ys : List Incoming) → Placed st → All (said_in r l) (receive_next r l) (HasIn on) ys → length ys ≤ 1024
      → length (joined (each (said_in r l) (receive_next r l) st ys)) ≤ 1
  unfolding said_in receive_next
  ends-few false st ys k a h = omega (arith, ap length (all_silent (said_in r l) (receive_next r l) (HasIn false) (λ z y e. rw e) st ys a))
  ends-few true st ys k a h =
      one_only (said_in r l) (receive_next r l) (HasIn true) Placed (λ z y e. receive_placed r l z y) (λ z. away 15 z.place z.done)
      (λ z y e q d. let w = (step 15 z.place z.done (lit≤ tt) q.0 q.1).wait d in (rw (e, w.0), rw e w.1))
      (λ z y e q d. (out_one (ends_in z y.control) _, rw e ((step 15 z.place z.done (lit≤ tt) q.0 q.1).hit d)))
      st ys a k (omega arith)

  said-few : (on : Bool) (n : ℕ) (st : LineState) (os : List ℕ) → place_too_large st ≡ false → n ≤ 1024
      → length (receive_said r l on n st os) ≤ 1
  unfolding receive_said incoming_frames
  said-few on n st os k h =
      ends-few on st (incoming_frames on n os) (placed st k) (all_in on (parts 6 n os)) (omega (arith, length_incoming on n os))

pub one-sequence : OneSequence
unfolding starting ending
one-sequence =
    record {
      starts = λ st c e.
          let o = sends-own st c e in
          let fs = outgoing_frames c.cp c.control c.sequence st.place c.frames (send_bits st c) in
          let few : length (joined (each start_out send_next st fs)) ≤ 1
          = starts-few c.control st fs (placed st o.places)
          (all-out c.cp c.control c.sequence c.frames st.place (send_bits st c))
          (omega (arith, o.few, length-outgoing c.cp c.control c.sequence st.place c.frames (send_bits st c))) in
          omega arith;
      ends = λ st c e.
          let o = receives-own st c e in
          said-few c.cp c.law c.control c.frames st (receive_octets c) o.places o.few;
    }

-- ---- what a call returns

-- something is always said of a sequence
spoken-judged : (b : Bool) (f : ℕ → Bool) → spoken (judged b f) ≡ judged b f ∷ []
unfolding judged
spoken-judged b f =
    of_either Told b refl (of_either Told (pattern_wrong f) refl (of_either Told (crc_wrong f) refl refl))
  where
    Told : Said → Type 0
    Told x = spoken x ≡ x ∷ []

abbrev Spoken : List Said → Type 0
Spoken [] = Unit {0}
Spoken (x ∷ xs) = (spoken x ≡ x ∷ []) × Spoken xs

spoken-append : (a b : List Said) → Spoken a → Spoken b → Spoken (a ++ b)
spoken-append [] b p q = q
spoken-append (x ∷ a) b p q = (p.0, spoken-append a b p.1 q)

module _ (r : Record) (l : Law) where
  spoken_in_lem : (st : LineState) (y : Incoming) → Spoken (said_in r l st y)
  unfolding said_in
  spoken_in_lem st y = of_either Spoken (ends_in st y.control) (spoken-judged (lost_so_far r l st y) (nth (sequence_so_far r l st y)), tt) tt

  all-spoken : (st : LineState) (ys : List Incoming) → Spoken (joined (each (said_in r l) (receive_next r l) st ys))
  unfolding joined each
  all-spoken st [] = tt
  all-spoken st (y ∷ ys) =
      spoken-append (said_in r l st y) (joined (each (said_in r l) (receive_next r l) (receive_next r l st y) ys)) (spoken_in_lem st y)
      (all-spoken (receive_next r l st y) ys)

-- so the last of them, where there is at most one, is all of them
last_spoken : (xs : List Said) → Spoken xs → length xs ≤ 1 → spoken (last_or Nothing xs) ≡ xs
unfolding last_or
last_spoken [] p h = refl
last_spoken (x ∷ []) p h = p.0
last_spoken (x ∷ y ∷ xs) p h = absurd (omega arith)

pub calls_say : CallsSay
unfolding said_given said_at frames_read ReceivesWith receive_said
calls_say r l t receiving w =
    one-run receives receive_left (Withʳ r l) (frames_in r l) (receive_next r l) (refusedʳ r l) (movedʳ r l)
    (λ st c. spoken (receive_says st c)) (said_in r l)
    (λ z c e k.
    let o = ownʳ r l z c e k in
    let ys = incoming_frames c.control c.frames (receive_octets c) in
    ap spoken o.says
    ∙ last_spoken (joined (each (said_in r l) (receive_next r l) z ys)) (all-spoken r l z ys)
    (said-few r l c.control c.frames z (receive_octets c) o.places o.few))
    t receiving w
