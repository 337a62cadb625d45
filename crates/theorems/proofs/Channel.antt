-- The control channel from end to end, for lists of calls: what is said of a sequence that is sent and read whole. Assumes nothing.
use mathlib.Core.Path.{◌≡◌, refl, sym, ap, ap₂, ◌∙◌}
use mathlib.Core.Logic.{◌⊎◌, inl, inr}
use Prim.Native.Nat.{ℕ, zero, suc, ◌+◌, ◌-◌, ◌%◌, ◌^◌, ◌≤◌, ◌<◌}
use mathlib.Core.Bool.{Bool, true, false, cond, not}
use mathlib.Core.List.{List, [], ◌∷◌, map}
use native.Mathlib.Decide.{ℕ_discrete as dec_eq}
use native.Mathlib.Nat.{not-suc-le-zero, eq-zero-or-pos}
use native.Mathlib.Omega.{arith}
use borrow.Author.Tests.{eq-eqb, ne_eqb, eqb-true}
use lib.Dec.{eqb}
use lib.ListN.{length, get_or, take, drop, length-append, length-drop}
use lib.Seq.{length-take-le, get_or-take, get_or-drop, ext_get_or}
use Rattle.standard.specs.Lists.{list_from, joined, each, after}
use Rattle.standard.specs.Bits.{nth}
use Rattle.standard.specs.Control.{sequence_bit, judged}
use Rattle.standard.specs.Frame.{is_control, next_place, controls, Outgoing, control_bits, send_next, mark, Incoming, heard_control, said_in}
use Rattle.standard.specs.Frame.{receive_next}
use Rattle.standard.specs.Calls.{SendCall, ReceiveCall}
use Rattle.standard.specs.declared.Law.{Law}
use Rattle.standard.specs.declared.LineState.{LineState}
use Rattle.standard.specs.declared.Record.{Record}
use Rattle.standard.specs.declared.Said.{Said}
use Rattle.standard.specs.declared.Said.TheVariants.{Sequence, PatternWrong, CrcWrong}
use Rattle.standard.proofs.Lists.{get_d_list, and_both, length-each}
use Rattle.standard.proofs.Control.{said-whole, said-wrong}
use Rattle.standard.proofs.Frame.{length-heard_control}
use Rattle.theorems.specs.Runs.{sent, marks_given, Damage, Outside, Unaltered, Run}
use Rattle.theorems.specs.Counts.{Good}
use Rattle.theorems.specs.Channel.{frames_sent, control_sent, control_heard, Steady, said_at, window, StartsAt, Whole, ControlAt}
use Rattle.theorems.specs.Channel.{FaultTold, SaidOf, SequencesSaid, SequencesRight, SequencesTold, SequencesLost}
use Rattle.theorems.proofs.Ends.{two, Steps}
use Rattle.theorems.proofs.Doubt.{Step}
use Rattle.theorems.proofs.OverCalls.{choice}
use Rattle.theorems.proofs.Runs.{nothing, fs, ys, S, carried-parts, many, short, in_steps, alone, alone-good, mark-at}
use Rattle.theorems.proofs.Controls.{controls_deliver}
use Rattle.theorems.proofs.Sequences.{heard_in, lost_in, quiet, told_whole, lost_some, lost-none, sent_in, quiet_out, six_sent}
use Rattle.theorems.proofs.Sequences.{sent-whole}

-- ---- windows of frames

module _ {S F Y : Type 0} (out : S → F → Y) (next : S → F → S) where
  each-window : (q n : ℕ) (st : S) (fs : List F)
      → take n (drop q (each out next st fs)) ≡ each out next (after next st (take q fs)) (take n (drop q fs))
  unfolding each after
  each-window zero zero st fs = refl
  each-window zero (suc n) st [] = refl
  each-window zero (suc n) st (f ∷ fs) = ap (λ (r : List Y). out st f ∷ r) (each-window zero n (next st f) fs)
  each-window (suc q) zero st [] = refl
  each-window (suc q) (suc n) st [] = refl
  each-window (suc q) n st (f ∷ fs) = each-window q n (next st f) fs

at-window : {X : Type 0} (q n : ℕ) (xs : List X) (d : X) (i : ℕ) → i < n → get_or (take n (drop q xs)) i d ≡ get_or xs (q + i) d
at-window q n xs d i h = get_or-take n (drop q xs) i d h ∙ get_or-drop q xs i d

long-window : {X : Type 0} (q n : ℕ) (xs : List X) → q + n ≤ length xs → length (take n (drop q xs)) ≡ n
long-window q n xs h = length-take-le n (drop q xs) (omega (arith, length-drop q xs))

-- ---- lists of bits end to end

-- as many lists, each as long as the other
abbrev AsLong : List (List Bool) → List (List Bool) → Type 0
AsLong xs ys = (length ys ≡ length xs) × ((i : ℕ) → i < length xs → length (get_or ys i []) ≡ length (get_or xs i []))

rest-long : (x y : List Bool) (xs ys : List (List Bool)) → AsLong (x ∷ xs) (y ∷ ys) → AsLong xs ys
rest-long x y xs ys a = (omega (arith, a.0), λ i h. a.1 (suc i) (omega arith))

same_total : (xs ys : List (List Bool)) → AsLong xs ys → length (joined ys) ≡ length (joined xs)
unfolding joined
same_total [] [] a = refl
same_total [] (y ∷ ys) a = absurd (omega (arith, a.0))
same_total (x ∷ xs) [] a = absurd (omega (arith, a.0))
same_total (x ∷ xs) (y ∷ ys) a =
    length-append y (joined ys)
    ∙ ap₂ ◌+◌ (a.1 0 (omega arith)) (same_total xs ys (rest-long x y xs ys a))
    ∙ sym (length-append x (joined xs))

-- where the bits of list i begin
abbrev start_of : List (List Bool) → ℕ → ℕ
start_of xs i = length (joined (take i xs))

start-within : (i : ℕ) (xs : List (List Bool)) → i < length xs → start_of xs i + length (get_or xs i []) ≤ length (joined xs)
unfolding joined
start-within i [] h = absurd (not-suc-le-zero h)
start-within zero (x ∷ xs) h = omega (arith, length-append x (joined xs))
start-within (suc i) (x ∷ xs) h =
    omega (arith, length-append x (joined xs), length-append x (joined (take i xs)), start-within i xs (omega arith))

-- bit k of all is the same where the bit that lies there is the same in its own list
joined_same : (xs ys : List (List Bool)) → AsLong xs ys → (k : ℕ)
    → ((i c : ℕ) → i < length xs → c < length (get_or xs i []) → start_of xs i + c ≡ k → nth (get_or ys i []) c ≡ nth (get_or xs i []) c)
    → nth (joined ys) k ≡ nth (joined xs) k
unfolding joined nth
joined_same [] [] a k o = refl
joined_same [] (y ∷ ys) a k o = absurd (omega (arith, a.0))
joined_same (x ∷ xs) [] a k o = absurd (omega (arith, a.0))
joined_same (x ∷ xs) (y ∷ ys) a k o =
    two y (joined ys) x (joined xs) k (a.1 0 (omega arith)) (λ h. o 0 k (omega arith) h (omega arith))
    (λ h. joined_same xs ys (rest-long x y xs ys a) (k - length x)
    (λ i c b d e. o (suc i) c (omega arith) d (omega (arith, length-append x (joined (take i xs))))))

-- ---- both ends in step

-- at one frame place and one sequence place, whatever the line does
record InStep (s t : LineState) : Type 0 where
  pub place : s.place ≡ t.place
  pub done : s.done ≡ t.done

same-control : (s t : LineState) (f : Outgoing) (y : Incoming) → InStep s t → Step f y → controls t y.control ≡ controls s f.control
same-control s t f y k w = ap₂ is_control w (sym k.place)

module _ (r : Record) (l : Law) where
  in_step : (s t : LineState) (f : Outgoing) (y : Incoming) → InStep s t → Step f y → InStep (send_next s f) (receive_next r l t y)
  unfolding send_next receive_next
  in_step s t f y k w =
      record {
        place = ap₂ next_place (sym w) k.place;
        done = ap₂ (λ (b : Bool) (n : ℕ). cond b ((n + 1) % 16) n) (sym (same-control s t f y k w)) k.done;
      }

  in_step_to : (q : ℕ) (s t : LineState) (fs : List Outgoing) (ys : List Incoming) → InStep s t → Steps Step fs ys → q ≤ length ys
      → InStep (after send_next s (take q fs)) (after (receive_next r l) t (take q ys))
  unfolding after
  in_step_to zero s t fs ys k w h = k
  in_step_to (suc q) s t fs [] k w h = absurd (not-suc-le-zero h)
  in_step_to (suc q) s t [] (y ∷ ys) k w h = absurd w
  in_step_to (suc q) s t (f ∷ fs) (y ∷ ys) k w h =
      in_step_to q (send_next s f) (receive_next r l t y) fs ys (in_step s t f y k w.0) w.1 (omega arith)

  -- of each frame as many control bits are received as were sent, six or none
  same-long : (s t : LineState) (fs : List Outgoing) (ys : List Incoming) → InStep s t → Steps Step fs ys → (i : ℕ) → i < length ys
      → length (get_or (heard_in r l t ys) i []) ≡ length (get_or (sent_in s fs) i [])
  unfolding each
  same-long s t fs [] k w i h = absurd (not-suc-le-zero h)
  same-long s t [] (y ∷ ys) k w i h = absurd w
  same-long s t (f ∷ fs) (y ∷ ys) k w (suc i) h =
      same-long (send_next s f) (receive_next r l t y) fs ys (in_step s t f y k w.0) w.1 i (omega arith)
  same-long s t (f ∷ fs) (y ∷ ys) k w zero h = go (controls s f.control) refl
    where
      go : (b : Bool) → controls s f.control ≡ b → length (heard_control r l t y) ≡ length (control_bits s f)
      go true e = length-heard_control r l t y (same-control s t f y k w.0 ∙ e) ∙ sym (six_sent s f e)
      go false e = ap length (quiet r l t y (same-control s t f y k w.0 ∙ e)).none ∙ sym (ap length (quiet_out s f e).none)

six_at : (s : LineState) (fs : List Outgoing) (i : ℕ) → zero < length (get_or (sent_in s fs) i []) → length (get_or (sent_in s fs) i []) ≡ 6
unfolding each
six_at s [] i h = absurd (not-suc-le-zero h)
six_at s (f ∷ fs) (suc i) h = six_at (send_next s f) fs i h
six_at s (f ∷ fs) zero h = go (controls s f.control) refl
  where
    go : (b : Bool) → controls s f.control ≡ b → length (control_bits s f) ≡ 6
    go true e = six_sent s f e
    go false e = absurd (omega (arith, ap length (quiet_out s f e).none))

-- ---- a sequence sent whole

sent-sequence : (s : LineState) (sending : List SendCall) (q n v : ℕ) → StartsAt s sending q v
    → length (window q n (control_sent s sending)) ≡ 96 → window q n (control_sent s sending) ≡ list_from (sequence_bit v) 0 96
unfolding control_sent joined
sent-sequence s sending q zero v b e = absurd (omega arith)
sent-sequence s sending q (suc n) v b e =
    let s₁ = after send_next s (take q (frames_sent s sending)) in
    let same : take (suc n) (drop q (control_sent s sending)) ≡ sent_in s₁ (b.frame ∷ take n b.later)
    = each-window control_bits send_next q (suc n) s (frames_sent s sending)
    ∙ ap (λ (x : List Outgoing). sent_in s₁ (take (suc n) x)) b.at in
    ap joined same
    ∙ sent-whole s₁ b.frame (take n b.later) b.starts (ap (λ (x : List (List Bool)). length (joined x)) (sym same) ∙ e)
    ∙ ap (λ (x : ℕ). list_from (sequence_bit x) 0 96) b.bits

nth_drop : (q : ℕ) (fs : List Outgoing) (f : Outgoing) (rest : List Outgoing) → drop q fs ≡ f ∷ rest → nth (map choice fs) q ≡ f.control
unfolding nth
nth_drop zero [] f rest e = absurd (omega (arith, ap length e))
nth_drop zero (g ∷ fs) f rest e = ap (λ (x : List Outgoing). get_or (map choice x) 0 false) e
nth_drop (suc q) [] f rest e = absurd (omega (arith, ap length e))
nth_drop (suc q) (g ∷ fs) f rest e = nth_drop q fs f rest e

same_or_not : (a b : Bool) → (b ≡ a) ⊎ (b ≡ not a)
same_or_not true true = inl refl
same_or_not true false = inr refl
same_or_not false true = inr refl
same_or_not false false = inl refl

-- ---- a run with a whole sequence in it

module _ {r : Record} {l : Law} {s t : LineState} {sending : List SendCall} {receiving : List ReceiveCall} {w : Damage} {line : List ℕ}
    {m q n v : ℕ} (whole : Whole r l s t sending receiving w line m q n v) where
  abbrev u : Run r l s t sending receiving w line m
  u = whole.run

  -- the states before frame q, and the frames read from it on
  abbrev s₁ : LineState
  s₁ = after send_next s (take q (fs u))

  abbrev t₁ : LineState
  t₁ = after (receive_next r l) t (take q (ys u))

  abbrev ys₁ : List Incoming
  ys₁ = take n (drop q (ys u))

  abbrev mark_at : ℕ → ℕ
  mark_at i = mark r l (get_or (ys u) i nothing).octets

  -- the sequence's bits, sent and received, frame by frame and end to end, and what is said of it
  abbrev sent_bits : List (List Bool)
  sent_bits = take n (drop q (control_sent s sending))

  abbrev heard_bits : List (List Bool)
  heard_bits = take n (drop q (control_heard r l t receiving))

  abbrev given : List Bool
  given = joined sent_bits

  abbrev heard : List Bool
  heard = joined heard_bits

  abbrev says : List Said
  says = window q n (said_at r l t receiving)

  -- it starts in a control frame, at sequence place 0
  started : (whole.starts.frame.control ≡ true) × (s₁.done ≡ 0)
  started =
      let b = whole.starts in
      let both = and_both (controls s₁ b.frame.control) (eqb s₁.done 0) b.starts in
      ((and_both b.frame.control (eqb s₁.place 0) both.0).0, eqb-true s₁.done 0 both.1)

  begun : InStep s t
  begun =
      let b = whole.starts in
      record {
        place = u.places q
            (ap (λ (x : List Bool). nth x q) (S u).choices ∙ nth_drop q (fs u) b.frame b.later b.at ∙ started.0);
        done = whole.done;
      }

  reached : InStep s₁ t₁
  reached = in_step_to r l q s t (fs u) (ys u) begun (in_steps u) (omega (arith, whole.inside, many u))

  -- ---- frame i of the window

  sent-long : length sent_bits ≡ n
  unfolding control_sent
  sent-long =
      long-window q n (control_sent s sending)
      (omega (arith, whole.inside, length-each control_bits send_next s (fs u), short u, many u))

  heard-long : length heard_bits ≡ n
  unfolding control_heard
  heard-long =
      long-window q n (control_heard r l t receiving)
      (omega (arith, whole.inside, length-each (heard_control r l) (receive_next r l) t (ys u), many u))

  read-long : length ys₁ ≡ n
  read-long = long-window q n (ys u) (omega (arith, whole.inside, many u))

  module _ (i : ℕ) (h : i < n) where
    inside : q + i < m
    inside = omega (arith, whole.inside)

    sent-at : get_or sent_bits i [] ≡ get_or (control_sent s sending) (q + i) []
    sent-at = at-window q n (control_sent s sending) [] i h

    heard-at : get_or heard_bits i [] ≡ get_or (control_heard r l t receiving) (q + i) []
    heard-at = at-window q n (control_heard r l t receiving) [] i h

    as_long : length (get_or heard_bits i []) ≡ length (get_or (control_sent s sending) (q + i) [])
    unfolding control_sent control_heard
    as_long = ap length heard-at ∙ same-long r l s t (fs u) (ys u) begun (in_steps u) (q + i) (omega (arith, inside, many u))

    mark-read : mark r l (get_or ys₁ i nothing).octets ≡ mark_at (q + i)
    mark-read = ap (λ (y : Incoming). mark r l y.octets) (at-window q n (ys u) nothing i h)

  all-long : AsLong sent_bits heard_bits
  all-long = (
    heard-long ∙ sym sent-long,
    λ i h. let k : i < n = omega (arith, sent-long) in as_long i k ∙ ap length (sym (sent-at i k)),
  )

  heard_is : heard_in r l t₁ ys₁ ≡ heard_bits
  unfolding control_heard
  heard_is = sym (each-window (heard_control r l) (receive_next r l) q n t (ys u))

  -- as many control bits as frame q + i sends
  bits_at : (i : ℕ) → i < n → length (get_or (heard_in r l t₁ ys₁) i []) ≡ length (get_or (control_sent s sending) (q + i) [])
  bits_at i h = ap (λ (x : List (List Bool)). length (get_or x i [])) heard_is ∙ as_long i h

  -- ---- what is said is the verdict on the bits as received, and on the marks of their frames

  verdict : says ≡ judged (lost_in r l t₁ ys₁) (nth heard) ∷ []
  unfolding said_at
  verdict =
      ap joined (each-window (said_in r l) (receive_next r l) q n t (ys u))
      ∙ told_whole r l ys₁ t₁ (sym reached.done ∙ started.1)
      (ap (λ (x : List (List Bool)). length (joined x)) heard_is ∙ same_total sent_bits heard_bits all-long ∙ whole.bits)
      ∙ ap (λ (x : List (List Bool)). judged (lost_in r l t₁ ys₁) (nth (joined x)) ∷ []) heard_is

  given_is : given ≡ list_from (sequence_bit v) 0 96
  given_is = sent-sequence s sending q n v whole.starts whole.bits

  given-at : (k : ℕ) → k < 94 → nth given k ≡ sequence_bit v k
  unfolding nth
  given-at k h = ap (λ (x : List Bool). nth x k) given_is ∙ get_d_list (sequence_bit v) false 96 k (omega arith)

  -- a control frame of it is marked
  lost : (e : ℕ) → ControlAt s sending q n e → (Good (marks_given t receiving) e → ⊥) → lost_in r l t₁ ys₁ ≡ true
  lost e at bad =
      let i : ℕ = e - q in
      let back : q + i ≡ e = omega arith in
      let h : i < n = omega arith in
      let marked : mark r l (get_or ys₁ i nothing).octets ≡ 0 → ⊥
      = λ z. bad (mark-at u e (omega (arith, whole.inside)) ∙ ap mark_at (sym back) ∙ sym (mark-read i h) ∙ z) in
      lost_some r l i t₁ ys₁ nothing (omega (arith, read-long))
      (omega (arith, bits_at i h, ap (λ (k : ℕ). length (get_or (control_sent s sending) k [])) back))
      (ne_eqb (mark r l (get_or ys₁ i nothing).octets) 0 marked)

  -- no control frame of it is altered
  module _ (o : (i : ℕ) → ControlAt s sending q n i → Unaltered (sent s sending) line i) where
    none-lost : lost_in r l t₁ ys₁ ≡ false
    none-lost =
        lost-none r l t₁ ys₁ nothing
        (λ i h z.
        let k : i < n = omega (arith, read-long) in
        let c : ControlAt s sending q n (q + i) = (omega arith, omega arith, omega (arith, bits_at i k)) in
        eq-eqb (mark r l (get_or ys₁ i nothing).octets) 0
        (mark-read i k ∙ alone-good u (q + i) (inside i k) (alone u (q + i) (omega (arith, inside i k, many u)) (o (q + i) c))))

    said : SaidOf v given heard says
    said =
        let one = verdict ∙ ap (λ (b : Bool). judged b (nth heard) ∷ []) none-lost in
        record {
          whole = given_is;
          one = one;
          right = λ e. one ∙ ap (λ (x : Said). x ∷ []) (said-whole v (nth heard) (λ k h. ap (λ (x : List Bool). nth x k) e ∙ given-at k h));
          wrong = λ j h z. go (said-wrong v (nth heard) j (omega arith) (record { wrong = z.0; same = z.1 })) one;
        }
      where
        go : {x : Said} → (x ≡ PatternWrong) ⊎ (x ≡ CrcWrong) → says ≡ x ∷ [] → FaultTold says
        go (inl e) k = inl (k ∙ ap (λ (x : Said). x ∷ []) e)
        go (inr e) k = inr (k ∙ ap (λ (x : Said). x ∷ []) e)

  -- ---- which of its bits are as sent

  bit-same : (k : ℕ)
      → ((i c : ℕ) → start_of sent_bits i + c ≡ k → ControlAt s sending q n (q + i) → Outside w (q + i) × ((1 ≤ c) ⊎ Steady w s t (q + i)))
      → nth heard k ≡ nth given k
  bit-same k o =
      joined_same sent_bits heard_bits all-long k
      (λ i c h b e.
      let j : i < n = omega (arith, sent-long) in
      let p = o i c e (omega arith, omega arith, omega (arith, ap length (sent-at i j))) in
      ap (λ (x : List Bool). nth x c) (heard-at i j)
      ∙ controls_deliver r l s t sending receiving w line m u (q + i) (inside i j) p.0 c p.1
      ∙ ap (λ (x : List Bool). nth x c) (sym (sent-at i j)))

  all_same : ((k : ℕ) → nth heard k ≡ nth given k) → heard ≡ given
  unfolding nth
  all_same o = ext_get_or false heard given (same_total sent_bits heard_bits all-long) (λ k h. o k)

  outside-said : ((i : ℕ) → ControlAt s sending q n i → Outside w i) → SaidOf v given heard says
  outside-said o = said (λ i c. (carried-parts u).1 i (o i c))

  module _ (e : ℕ) (at : ControlAt s sending q n e)
      (o : (i : ℕ) → ControlAt s sending q n i → Outside w i × ((i ≡ e) ⊎ Steady w s t i)) where
    -- the bit that may be wrong, the first of frame e, has a meaning
    abbrev j : ℕ
    j = start_of sent_bits (e - q)

    j_lt : j < 94
    unfolding control_sent
    j_lt =
        let back : q + (e - q) ≡ e = omega arith in
        omega (
          arith,
          start-within (e - q) sent_bits (omega (arith, sent-long)),
          whole.bits,
          ap length (sent-at (e - q) (omega arith) ∙ ap (λ (k : ℕ). get_or (control_sent s sending) k []) back),
          six_at s (fs u) e at.2,
        )

    others : (k : ℕ) → (k ≡ j → ⊥) → nth heard k ≡ nth given k
    others k z = bit-same k (λ i c b a. ((o (q + i) a).0, go i c b (o (q + i) a).1 (eq-zero-or-pos c)))
      where
        go : (i c : ℕ) → start_of sent_bits i + c ≡ k → (q + i ≡ e) ⊎ Steady w s t (q + i) → (c ≡ 0) ⊎ (0 < c)
            → (1 ≤ c) ⊎ Steady w s t (q + i)
        go i c b (inr y) h = inr y
        go i c b (inl y) (inr h) = inl h
        go i c b (inl y) (inl h) = absurd (z (let same : i ≡ e - q = omega arith in rw (← same) (omega arith)))

    told : (says ≡ Sequence (v % 2 ^ 56) ∷ []) ⊎ FaultTold says
    told = go (same_or_not (nth given j) (nth heard j))
      where
        known : SaidOf v given heard says
        known = outside-said (λ i c. (o i c).0)

        all : nth heard j ≡ nth given j → (k : ℕ) → Dec (k ≡ j) → nth heard k ≡ nth given k
        all h k (yes z) = rw z h
        all h k (no z) = others k z

        go : (nth heard j ≡ nth given j) ⊎ (nth heard j ≡ not (nth given j)) → (says ≡ Sequence (v % 2 ^ 56) ∷ []) ⊎ FaultTold says
        go (inl h) = inl (known.right (all_same (λ k. all h k (dec_eq k j))))
        go (inr h) = inr (known.wrong j j_lt (h ∙ ap not (given-at j j_lt), λ k b z. others k z ∙ given-at k b))

pub sequences : SequencesSaid
sequences r l s t sending receiving w line m q n v whole = said whole

pub sequences_right : SequencesRight
sequences_right r l s t sending receiving w line m q n v whole o =
    (outside-said whole (λ i c. (o i c).0)).right
    (all_same whole (λ k. bit-same whole k (λ i c e at. ((o (q + i) at).0, inr (o (q + i) at).1))))

pub sequences_told : SequencesTold
sequences_told r l s t sending receiving w line m q n v e whole = told whole e

-- 'frame lost' is the first that is so
pub sequences_lost : SequencesLost
unfolding judged
sequences_lost r l s t sending receiving w line m q n v e whole at bad =
    verdict whole ∙ ap (λ (b : Bool). judged b (nth (heard whole)) ∷ []) (lost whole e at bad)
