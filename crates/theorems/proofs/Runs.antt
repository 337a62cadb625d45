-- Demand 3; two messages; cleardown. Assumes nothing.
use mathlib.Core.Path.{◌≡◌, refl, sym, ap, ap₂, ◌∙◌, subst}
use mathlib.Core.Logic.{◌⊎◌, inl, inr}
use Prim.Native.Nat.{ℕ, zero, suc, ◌+◌, ◌*◌, ◌≤◌, ◌<◌}
use mathlib.Core.Bool.{Bool, true, false}
use mathlib.Core.List.{List, [], ◌∷◌, map}
use native.Mathlib.Decide.{dec_le}
use native.Mathlib.Nat.{not-suc-le-zero, eq-or-lt_of_le, eq-zero-or-pos}
use native.Mathlib.Omega.{arith}
use borrow.Author.Tests.{le-leb, eqb-false}
use lib.Dec.{leb}
use lib.ListN.{length, get_or, take, length-append, length-map}
use lib.Seq.{ext_get_or, length-take-le, get_or-take}
use Rattle.standard.specs.Lists.{list_from, joined, each, after}
use Rattle.standard.specs.Bits.{bits_in, nth}
use Rattle.standard.specs.Frame.{is_control, next_place, width, data_bits, call_bits, Outgoing, send_frame, send_next, Incoming, receive_frame}
use Rattle.standard.specs.Frame.{receive_next, mark, six_in}
use Rattle.standard.specs.Refusals.{frames_at_cleardown}
use Rattle.standard.specs.Calls.{SendCall, send_refusal, send_bits, send_left, send_octets, ReceiveCall, receive_left}
use Rattle.standard.specs.declared.Law.{Law}
use Rattle.standard.specs.declared.LineState.{LineState}
use Rattle.standard.specs.declared.Record.{Record}
use Rattle.standard.proofs.Lists.{Sized, sized_at, length-joined, joined_at, joined_inj, length-each, sized_each}
use Rattle.standard.proofs.Frame.{Holds, Wide, sent-mark, length-send_frame}
use Rattle.standard.proofs.Refusals.{and_false_right, passed}
use Rattle.theorems.specs.Runs.{sends, message, sent, octets_read, handed_over, marks_given, send_choices, receive_choices, frames_read}
use Rattle.theorems.specs.Runs.{SendsWith, Damage, clean, frames, Outside, Unaltered, Carried, reach, Beyond, Same, begins, Run}
use Rattle.theorems.specs.Runs.{Delivered, RunsDeliver, MessagesDiffer, NothingAtCleardown}
use Rattle.theorems.specs.Channel.{frames_sent}
use Rattle.theorems.proofs.Ends.{Fits, start, Steps, past_damage, total}
use Rattle.theorems.proofs.Doubt.{Near, near_any, near_same, Fit, Step, sent_as, same_kind, link, mends}
use Rattle.theorems.proofs.OverCalls.{nothing_over, carries, choice, SendRun, send_run, six, chosen, ReceiveRun, receive_run}

-- ---- where frames begin: frame q where the choices say, and none past the end

width_pos : (r : Record) (b : Bool) → zero < width r b
width_pos r true = omega arith
width_pos r false = omega arith

-- a frame that comes later begins later
begins_up : (r : Record) (on : ℕ → Bool) (p i j : ℕ) → i < j → data_bits r on p i < data_bits r on p j
unfolding data_bits
begins_up r on p i zero h = absurd (not-suc-le-zero h)
begins_up r on p zero (suc j) h = omega (arith, width_pos r (is_control (on 0) p))
begins_up r on p (suc i) (suc j) h = omega (arith, begins_up r (λ k. on (suc k)) (next_place (on 0) p) i j (omega arith))

begins-le : (r : Record) (on : ℕ → Bool) (p i j : ℕ) → i ≤ j → data_bits r on p i ≤ data_bits r on p j
begins-le r on p i j h = go (eq-or-lt_of_le h)
  where
    go : (i ≡ j) ⊎ (i < j) → data_bits r on p i ≤ data_bits r on p j
    go (inl e) = rw e (omega arith)
    go (inr l) = omega (arith, begins_up r on p i j l)

begins_inj : (r : Record) (on : ℕ → Bool) (p i j : ℕ) → data_bits r on p i ≡ data_bits r on p j → i ≡ j
begins_inj r on p i j q = go (dec_le i j) (dec_le j i)
  where
    go : Dec (i ≤ j) → Dec (j ≤ i) → i ≡ j
    go (yes a) (yes b) = omega arith
    go (no a) d = absurd (omega (arith, begins_up r on p j i (omega arith)))
    go (yes a) (no b) = absurd (omega (arith, begins_up r on p i j (omega arith)))

-- it depends on the choices at the first i frames, and if one is on, on the frame place
pub begins_ext : (r : Record) (on on' : ℕ → Bool) (p q i : ℕ) → ((k : ℕ) → k < i → on k ≡ on' k) → ((k : ℕ) → on k ≡ true → p ≡ q)
    → data_bits r on p i ≡ data_bits r on' q i
unfolding data_bits
begins_ext r on on' p q zero h e = refl
begins_ext r on on' p q (suc i) h e =
    let o = h 0 (omega arith) in
    ap₂ ◌+◌ (ap (width r) (sym (same_kind (on 0) p q (e 0) (λ z. z)) ∙ ap (λ (b : Bool). is_control b q) o))
    (begins_ext r (λ k. on (suc k)) (λ k. on' (suc k)) (next_place (on 0) p) (next_place (on' 0) q) i (λ k l. h (suc k) (omega arith))
    (λ k z. ap₂ next_place o (e (suc k) z)))

start-at : (r : Record) (s : LineState) (fs : List Outgoing) → Fits send_next (Wide r) s fs → (i : ℕ) → i ≤ length fs
    → start carries i fs ≡ begins r s (map choice fs) i
unfolding start data_bits nth send_next
start-at r s fs k zero h = refl
start-at r s [] k (suc i) h = absurd (not-suc-le-zero h)
start-at r s (f ∷ fs) k (suc i) h = ap₂ ◌+◌ k.0 (start-at r (send_next s f) fs k.1 i (omega arith))

start-all : (i : ℕ) (fs : List Outgoing) → length fs ≤ i → start carries i fs ≡ length (joined (map carries fs))
unfolding start joined
start-all zero [] h = refl
start-all zero (f ∷ fs) h = absurd (not-suc-le-zero h)
start-all (suc i) [] h = refl
start-all (suc i) (f ∷ fs) h = omega (arith, length-append f.bits (joined (map carries fs)), start-all i fs (omega arith))

start-le : (i : ℕ) (fs : List Outgoing) → start carries i fs ≤ length (joined (map carries fs))
unfolding start joined
start-le zero fs = omega arith
start-le (suc i) [] = omega arith
start-le (suc i) (f ∷ fs) = omega (arith, length-append f.bits (joined (map carries fs)), start-le i fs)

before-start : (r : Record) (s : LineState) (fs : List Outgoing) → Fits send_next (Wide r) s fs → (x m : ℕ) → m ≤ length fs
    → (p : ℕ) → p < begins r s (map choice fs) m → p < begins r s (map choice fs) x → p < start carries x fs
before-start r s fs k x m le p h l = go (dec_le x (length fs))
  where
    go : Dec (x ≤ length fs) → p < start carries x fs
    go (yes z) = omega (arith, start-at r s fs k x z)
    go (no z) = omega (arith, start-all x fs (omega arith), start-at r s fs k m le, start-le m fs)

-- a frame that was left alone, from the line's octets
left_alone : (xs ys : List (List ℕ)) (line : List ℕ) → Sized 6 xs → Sized 6 ys → length ys ≤ length xs
    → joined ys ≡ take (length ys * 6) line → (i : ℕ) → i < length ys → Unaltered (joined xs) line i → get_or ys i [] ≡ get_or xs i []
left_alone xs ys line a b le e i h u =
    let six : length (get_or ys i []) ≡ 6 = sized_at 6 ys b i h in
    ext_get_or 0 (get_or ys i []) (get_or xs i []) (six ∙ sym (sized_at 6 xs a i (omega arith)))
    (λ k q.
    sym (joined_at 6 ys b i h k (omega arith) 0) ∙ ap (λ (z : List ℕ). get_or z (i * 6 + k) 0) e
    ∙ get_or-take (length ys * 6) line (i * 6 + k) 0 (omega arith)
    ∙ u k (omega arith)
    ∙ joined_at 6 xs a i (omega arith) k (omega arith) 0)

-- ---- frames sent, and those received of them

-- what stands for a frame that is not there
abbrev pub nothing : Incoming
nothing = six_in false []

pub get_d_map : {X Y : Type 0} (f : X → Y) (xs : List X) (d : X) (e : Y) (i : ℕ) → i < length xs → get_or (map f xs) i e ≡ f (get_or xs i d)
get_d_map f [] d e i h = absurd (not-suc-le-zero h)
get_d_map f (x ∷ xs) d e zero h = refl
get_d_map f (x ∷ xs) d e (suc i) h = get_d_map f xs d e i (omega arith)

all_fit : (Ever : Type 0) (r : Record) (s : LineState) (fs : List Outgoing) → Fits send_next (Wide r) s fs
    → ((i : ℕ) → nth (map choice fs) i ≡ true → Ever) → Fits send_next (Fit Ever r) s fs
unfolding nth
all_fit Ever r s [] k o = tt
all_fit Ever r s (f ∷ fs) k o = (record { wide = k.0; ever = o 0 }, all_fit Ever r (send_next s f) fs k.1 (λ i. o (suc i)))

all_step : (fs : List Outgoing) (ys : List Incoming) → length ys ≤ length fs
    → ((i : ℕ) → i < length ys → nth (map chosen ys) i ≡ nth (map choice fs) i) → Steps Step fs ys
unfolding nth
all_step fs [] h o = tt
all_step [] (y ∷ ys) h o = absurd (not-suc-le-zero h)
all_step (f ∷ fs) (y ∷ ys) h o = (o 0 (omega arith), all_step fs ys (omega arith) (λ i q. o (suc i) (omega arith)))

module _ (r : Record) (l : Law) where
  abbrev sixes : LineState → List Outgoing → List (List ℕ)
  sixes = each (send_frame r l) send_next

  -- the frames as sent, with their choices
  abbrev pub as_sent_frames : LineState → List Outgoing → List Incoming
  as_sent_frames = each (sent_as r l) send_next

  abbrev heard : LineState → List Incoming → List Bool
  heard t ys = joined (each (receive_frame r l) (receive_next r l) t ys)

  sized_sixes : (s : LineState) (fs : List Outgoing) → Sized 6 (sixes s fs)
  sized_sixes = sized_each (send_frame r l) send_next 6 (length-send_frame r l)

  length_sixes : (s : LineState) (fs : List Outgoing) → length (sixes s fs) ≡ length fs
  length_sixes = length-each (send_frame r l) send_next

  length-as_sent : (s : LineState) (fs : List Outgoing) → length (as_sent_frames s fs) ≡ length fs
  length-as_sent = length-each (sent_as r l) send_next

  sent-at : (s : LineState) (fs : List Outgoing) (i : ℕ) → i < length fs
      → get_or (as_sent_frames s fs) i nothing ≡ six_in (nth (map choice fs) i) (get_or (sixes s fs) i [])
  unfolding each nth
  sent-at s [] i h = absurd (not-suc-le-zero h)
  sent-at s (f ∷ fs) zero h = refl
  sent-at s (f ∷ fs) (suc i) h = sent-at (send_next s f) fs i (omega arith)

  sent_steps : (s : LineState) (fs : List Outgoing) → Steps Step fs (as_sent_frames s fs)
  unfolding each
  sent_steps s [] = tt
  sent_steps s (f ∷ fs) = (refl, sent_steps (send_next s f) fs)

  -- bits as many as the frames read have, whether or not the record can carry any
  length-heard : (Ever : Type 0) (s t : LineState) (fs : List Outgoing) (ys : List Incoming) → (zero < length ys → Holds r)
      → Near Ever 24 s t → Fits send_next (Fit Ever r) s fs → Steps Step fs ys → length (heard t ys) ≡ start carries (length ys) fs
  unfolding joined each start
  length-heard Ever s t fs [] h n k w = refl
  length-heard Ever s t fs (y ∷ ys) h n k w =
      total (link Ever r l (h (omega arith))) nothing (mends Ever r l) 24 s t fs (y ∷ ys) n k w

  module _ (holds : Holds r) where
    all-good : (s : LineState) (fs : List Outgoing) → Fits send_next (Wide r) s fs → (i : ℕ) → i < length fs
        → mark r l (get_or (as_sent_frames s fs) i nothing).octets ≡ 0
    unfolding each
    all-good s [] k i h = absurd (not-suc-le-zero h)
    all-good s (f ∷ fs) k zero h = sent-mark r l holds s f k.0
    all-good s (f ∷ fs) k (suc i) h = all-good (send_next s f) fs k.1 i (omega arith)

    heard-as_sent : (Ever : Type 0) (s t : LineState) (fs : List Outgoing) (ys : List Incoming) → Fits send_next (Wide r) s fs
        → Fits send_next (Fit Ever r) s fs → Steps Step fs ys → length ys ≤ length fs
        → (w : Damage) → ((i : ℕ) → i < length ys → Outside w i → get_or ys i nothing ≡ get_or (as_sent_frames s fs) i nothing)
        → (c : ℕ) → Near Ever c s t → (p : ℕ) → p < begins r s (map choice fs) (length ys)
        → Beyond w (begins r s (map choice fs)) p → c ≤ p → get_or (heard t ys) p false ≡ get_or (joined (map carries fs)) p false
    heard-as_sent Ever s t fs ys a b st le w o c n p h k q =
        past_damage (link Ever r l holds) nothing (mends Ever r l) w c s t fs ys n b st o p
        (omega (arith, start-at r s fs a (length ys) le)) (go w k) q
      where
        past : (y : ℕ) → begins r s (map choice fs) (y + 1) + reach ≤ p → Dec (length ys ≤ y + 1) → start carries (y + 1) fs + 24 ≤ p
        past y k (yes z) = absurd (omega (arith, begins-le r (nth (map choice fs)) s.place (length ys) (y + 1) z))
        past y k (no z) = omega (arith, start-at r s fs a (y + 1) (omega arith))

        go : (w : Damage) → Beyond w (begins r s (map choice fs)) p → Beyond w (λ i. start carries i fs) p
        go clean k = tt
        go (frames x y) (inl k) = inl (before-start r s fs a x (length ys) le p h k)
        go (frames x y) (inr k) = inr (past y k (dec_le (length ys) (y + 1)))

-- ---- the claim

near_start : {Ever : Type 0} (s t : LineState) → (Ever → s.place ≡ t.place) → (p : ℕ) → Same s t ⊎ (reach ≤ p)
    → (c : ℕ) × Near Ever c s t × (c ≤ p)
near_start s t e p (inl k) = (0, near_same 0 s t k e, omega arith)
near_start s t e p (inr k) = (24, near_any s t e, k)

beyond-clean : (w : Damage) (f : ℕ → ℕ) (p : ℕ) → w ≡ clean → Beyond w f p
beyond-clean w f p e = subst (λ (x : Damage). Beyond x f p) (sym e) tt

positive-begins : (r : Record) (on : ℕ → Bool) (q m p : ℕ) → p < data_bits r on q m → zero < m
unfolding data_bits
positive-begins r on q zero p h = absurd (not-suc-le-zero h)
positive-begins r on q (suc m) p h = omega arith

same-nth : {xs ys : List Bool} → xs ≡ ys → (i : ℕ) → nth xs i ≡ nth ys i
same-nth e i = ap (λ (x : List Bool). nth x i) e

module _ {r : Record} {l : Law} {s t : LineState} {sending : List SendCall} {receiving : List ReceiveCall} {w : Damage} {line : List ℕ}
    {m : ℕ} (u : Run r l s t sending receiving w line m) where
  -- the frames of both ends
  abbrev pub fs : List Outgoing
  fs = frames_sent s sending

  abbrev pub ys : List Incoming
  ys = frames_read t receiving

  abbrev pub S : SendRun r l s fs (send_choices s sending) (message s sending) (sent s sending)
  S = send_run r l s sending u.sender

  abbrev pub Q : ReceiveRun r l t (after receive_left t receiving) ys (receive_choices t receiving) (octets_read t receiving)
      (handed_over t receiving) (marks_given t receiving)
  Q = receive_run r l t receiving u.receiver

  -- if the channel is ever on, both ends have one frame place
  abbrev pub Ever : Type 0
  Ever = s.place ≡ t.place

  pub carried-parts : (length line ≡ length (sent s sending)) × ((i : ℕ) → Outside w i → Unaltered (sent s sending) line i)
  unfolding Carried
  carried-parts = u.carried

  line_long : length line ≡ length fs * 6
  line_long =
      carried-parts.0 ∙ ap length S.octets ∙ length-joined 6 (sixes r l s fs) (sized_sixes r l s fs)
      ∙ ap (λ (x : ℕ). x * 6) (length_sixes r l s fs)

  pub many : length ys ≡ m
  many =
      omega (
        arith,
        length-joined 6 (map six ys) Q.sized,
        length-map ys six,
        ap length (sym Q.octets ∙ u.reads),
        length-take-le (m * 6) line u.inside,
      )

  pub short : length ys ≤ length fs
  short = omega (arith, line_long, many)

  pub all-fits : Fits send_next (Fit Ever r) s fs
  all-fits = all_fit Ever r s fs S.fits (λ i z. u.places i (same-nth S.choices i ∙ z))

  same-choice : (i : ℕ) → i < length ys → nth (map chosen ys) i ≡ nth (map choice fs) i
  same-choice i h = same-nth (sym Q.choices) i ∙ u.choices i (omega (arith, many)) ∙ same-nth S.choices i

  pub in_steps : Steps Step fs ys
  in_steps = all_step fs ys short same-choice

  -- a frame that was left alone
  abbrev pub Left : ℕ → Type 0
  Left i = get_or ys i nothing ≡ get_or (as_sent_frames r l s fs) i nothing

  pub alone : (i : ℕ) → i < length ys → Unaltered (sent s sending) line i → Left i
  unfolding nth
  alone i h k =
      let o : get_or (map six ys) i [] ≡ get_or (sixes r l s fs) i [] =
      left_alone (sixes r l s fs) (map six ys) line (sized_sixes r l s fs) Q.sized
      (omega (arith, short, length-map ys six, length_sixes r l s fs))
      (sym Q.octets ∙ u.reads ∙ ap (λ (x : ℕ). take (x * 6) line) (sym (length-map ys six ∙ many)))
      i (omega (arith, length-map ys six)) (subst (λ (x : List ℕ). Unaltered x line i) S.octets k) in
      ap₂ six_in (sym (get_d_map chosen ys nothing false i h) ∙ same-choice i h) (sym (get_d_map six ys nothing [] i h) ∙ o)
      ∙ sym (sent-at r l s fs i (omega (arith, short)))

  pub same-frame : (i : ℕ) → i < length ys → Outside w i → Left i
  same-frame i h o = alone i h (carried-parts.1 i o)

  pub holding : zero < m → Holds r
  holding h = S.holds (omega (arith, many, short))

  -- it has mark 0
  pub alone-good : (i : ℕ) → i < m → Left i → mark r l (get_or ys i nothing).octets ≡ 0
  alone-good i h e =
      ap (λ (y : Incoming). mark r l y.octets) e ∙ all-good r l (holding (omega arith)) s fs S.fits i (omega (arith, many, short))

  abbrev from : ℕ → ℕ
  from = begins r s (send_choices s sending)

  pub begin_at : (i : ℕ) → from i ≡ begins r s (map choice fs) i
  begin_at i = ap (λ (x : List Bool). begins r s x i) S.choices

  pub start_m : (i : ℕ) → i ≤ m → start carries i fs ≡ from i
  start_m i h = start-at r s fs S.fits i (omega (arith, many, short)) ∙ sym (begin_at i)

  held : from m ≤ length (message s sending)
  held = omega (arith, start_m m (omega arith), ap length S.message, start-le m fs)

  count : length (handed_over t receiving) ≡ from m
  count =
      ap length Q.bits
      ∙ length-heard r l Ever s t fs ys (λ h. holding (omega (arith, many))) (near_any s t (λ z. z)) all-fits in_steps
      ∙ ap (λ (x : ℕ). start carries x fs) many ∙ start_m m (omega arith)

  as_sent : (p : ℕ) → p < from m → Beyond w from p → Same s t ⊎ (reach ≤ p) → nth (handed_over t receiving) p ≡ nth (message s sending) p
  unfolding nth
  as_sent p h b k =
      let near = near_start s t (λ z. z) p k in
      same-nth Q.bits p
      ∙ heard-as_sent r l (holding (positive-begins r (nth (send_choices s sending)) s.place m p h)) Ever s t fs ys S.fits all-fits
      in_steps short w same-frame near.0 near.1 p (rw (many, ← begin_at m) h)
      (subst (λ (x : List Bool). Beyond w (begins r s x) p) S.choices b) near.2
      ∙ same-nth (sym S.message) p

  -- the mark given of frame i
  pub mark-at : (i : ℕ) → i < m → get_or (marks_given t receiving) i 0 ≡ mark r l (get_or ys i nothing).octets
  mark-at i h =
      ap (λ (x : List ℕ). get_or x i 0) Q.marks ∙ get_d_map (λ (y : Incoming). mark r l y.octets) ys nothing 0 i (omega (arith, many))

  deliver : Delivered r w s t m (send_choices s sending) (message s sending) (handed_over t receiving) (marks_given t receiving)
  unfolding nth
  deliver =
      record {
        held = held;
        count = count;
        as_sent = as_sent;
        mark_count = ap length Q.marks ∙ length-map ys (λ (y : Incoming). mark r l y.octets) ∙ many;
        marks = λ i h o. mark-at i h ∙ alone-good i h (same-frame i (omega (arith, many)) o);
        whole = λ z k.
            ext_get_or false (handed_over t receiving) (take (from m) (message s sending))
            (count ∙ sym (length-take-le (from m) (message s sending) held))
            (λ p h. let h' : p < from m = rw count at h in as_sent p h' (beyond-clean w from p z) (inl k)
            ∙ sym (get_or-take (from m) (message s sending) p false h'));
      }

pub runs : RunsDeliver
runs r l s t sending receiving w line m u = deliver u

-- ---- two messages

module _ (r : Record) (l : Law) where
  -- a message is what its own octets give back, in any state that is the same
  back : (s t : LineState) → Same s t → (fs : List Outgoing) (on ds : List Bool) (os : List ℕ) (S : SendRun r l s fs on ds os)
      → ((i : ℕ) → nth (map choice fs) i ≡ true → s.place ≡ t.place) → (p : ℕ) → p < begins r s (map choice fs) (length fs)
      → get_or (heard r l t (as_sent_frames r l s fs)) p false ≡ get_or ds p false
  back s t k fs on ds os S e p h =
      let Ever : Type 0 = s.place ≡ t.place in
      heard-as_sent r l (S.holds (positive-begins r (nth (map choice fs)) s.place (length fs) p h)) Ever s t fs (as_sent_frames r l s fs)
      S.fits (all_fit Ever r s fs S.fits e) (sent_steps r l s fs) (omega (arith, length-as_sent r l s fs)) clean (λ i q o. refl) 0
      (near_same 0 s t k (λ z. z)) p (rw (length-as_sent r l s fs) h) tt (omega arith)
      ∙ ap (λ (x : List Bool). get_or x p false) (sym S.message)

  long : (s : LineState) (fs : List Outgoing) (on ds : List Bool) (os : List ℕ) → SendRun r l s fs on ds os
      → length ds ≡ begins r s (map choice fs) (length fs)
  long s fs on ds os S =
      ap length S.message ∙ sym (start-all (length fs) fs (omega arith)) ∙ start-at r s fs S.fits (length fs) (omega arith)

  same-message : (s t : LineState) → Same s t → (fs fs' : List Outgoing) (on on' ds ds' : List Bool) (os os' : List ℕ)
      → SendRun r l s fs on ds os → SendRun r l t fs' on' ds' os' → ((i : ℕ) → nth on i ≡ nth on' i)
      → ((i : ℕ) → nth on i ≡ true → s.place ≡ t.place) → length ds ≡ length ds' → os ≡ os' → ds ≡ ds'
  same-message s t k fs fs' on on' ds ds' os os' a b c q e o =
      let chose : (i : ℕ) → nth (map choice fs) i ≡ nth (map choice fs') i =
      λ i. same-nth (sym a.choices) i ∙ c i ∙ same-nth b.choices i in
      let placed : (i : ℕ) → nth (map choice fs) i ≡ true → s.place ≡ t.place = λ i z. q i (same-nth a.choices i ∙ z) in
      let n : length fs ≡ length fs' =
      begins_inj r (nth (map choice fs')) t.place (length fs) (length fs')
      (sym (begins_ext r (nth (map choice fs)) (nth (map choice fs')) s.place t.place (length fs) (λ i h. chose i) placed)
      ∙ sym (long s fs on ds os a) ∙ e ∙ long t fs' on' ds' os' b) in
      let sixes-same : sixes r l s fs ≡ sixes r l t fs' =
      joined_inj 6 (sixes r l s fs) (sixes r l t fs') (sized_sixes r l s fs) (sized_sixes r l t fs')
      (length_sixes r l s fs ∙ n ∙ sym (length_sixes r l t fs')) (sym a.octets ∙ o ∙ b.octets) in
      let same : as_sent_frames r l s fs ≡ as_sent_frames r l t fs' =
      ext_get_or nothing (as_sent_frames r l s fs) (as_sent_frames r l t fs') (length-as_sent r l s fs ∙ n ∙ sym (length-as_sent r l t fs'))
      (λ i h.
      let h' : i < length fs = omega (arith, length-as_sent r l s fs) in
      sent-at r l s fs i h' ∙ ap₂ six_in (chose i) (ap (λ (x : List (List ℕ)). get_or x i []) sixes-same)
      ∙ sym (sent-at r l t fs' i (omega arith))) in
      ext_get_or false ds ds' e
      (λ p h.
      sym (back s t k fs on ds os a placed p (rw (← long s fs on ds os a) h))
      ∙ ap (λ (x : List Incoming). get_or (heard r l t x) p false) same
      ∙ back t t (refl, refl) fs' on' ds' os' b (λ i z. refl) p (rw (← long t fs' on' ds' os' b, ← e) h))

pub messages_differ : MessagesDiffer
messages_differ r l s t one other k a b c q e o =
    same-message r l s t k _ _ _ _ _ _ _ _ (send_run r l s one a) (send_run r l t other b) c q e o

-- ---- cleardown

-- an accepted call at drn 0 has no frames
no_frames : (st : LineState) (c : SendCall) → sends st c ≡ true → c.cp.drn ≡ 0 → c.frames ≡ 0
unfolding send_refusal frames_at_cleardown
no_frames st c e z = go (eq-zero-or-pos c.frames)
  where
    go : (c.frames ≡ 0) ⊎ (0 < c.frames) → c.frames ≡ 0
    go (inl n) = n
    go (inr h) = absurd
        (eqb-false c.cp.drn 0
        (and_false_right (leb 1 c.frames) _ (le-leb 1 c.frames h) (passed c.cp st c.frames _ _ e).rated) z)

pub nothing_at_cleardown : NothingAtCleardown
unfolding message sent SendsWith send_bits bits_in data_bits list_from
nothing_at_cleardown r l s sending z w = (
  nothing_over sends send_left With send_bits
      (λ st c e k. ap (λ (n : ℕ). bits_in (call_bits c.cp c.control st.place n) c.bytes) (none st c e k)) s sending w,
  nothing_over sends send_left With (λ st c. take (6 * c.frames) (send_octets st c))
      (λ st c e k. let n : 6 * c.frames ≡ 0 = omega (arith, none st c e k) in rw n) s sending w,
)
  where
    With : SendCall → Type 0
    With c = (c.cp ≡ r) × (c.law ≡ l)

    none : (st : LineState) (c : SendCall) → sends st c ≡ true → With c → c.frames ≡ 0
    none st c e k = no_frames st c e (ap (λ (x : Record). x.drn) k.0 ∙ z)
