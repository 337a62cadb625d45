-- A.1: the count in the receiver's state is right, and no call gets 18 for it. Assumes nothing.
use mathlib.Core.Path.{◌≡◌, refl, sym, ap, ◌∙◌, subst}
use mathlib.Core.Logic.{◌⊎◌, inl, inr}
use Prim.Native.Nat.{ℕ, suc, ◌+◌, ◌-◌, ◌≤◌, ◌<◌}
use mathlib.Core.Bool.{Bool, false}
use mathlib.Core.List.{List}
use native.Mathlib.Omega.{arith}
use borrow.Author.Tests.{ne_eqb}
use lib.ListN.{length, get_or}
use lib.Seq.{take_all}
use Rattle.standard.specs.Lists.{after}
use Rattle.standard.specs.Bits.{nth}
use Rattle.standard.specs.Frame.{send_next, send_after, Incoming, receive_next, receive_after, mark}
use Rattle.standard.specs.Calls.{SendCall, send_refusal, send_left, ReceiveCall, receive_refusal, receive_left}
use Rattle.standard.specs.declared.Law.{Law}
use Rattle.standard.specs.declared.LineState.{LineState}
use Rattle.standard.specs.declared.Record.{Record}
use Rattle.standard.proofs.Lists.{after_keeps, of_either}
use Rattle.standard.proofs.Frame.{send_doubtful, marked_doubtful, doubtful-le}
use Rattle.standard.proofs.Refusals.{not_eighteen}
use Rattle.theorems.specs.Runs.{sends, message, sent, receives, handed_over, marks_given, send_choices, state_before, Damage, Unaltered}
use Rattle.theorems.specs.Runs.{begins, Run}
use Rattle.theorems.specs.Counts.{Good, AlteredMarked, ColdOrSame, CountsHold, CountsKept}
use Rattle.theorems.proofs.Ends.{start, counted}
use Rattle.theorems.proofs.Doubt.{Near, near_any, near_same, link, link_doubtful, mends}
use Rattle.theorems.proofs.OverCalls.{carries}
use Rattle.theorems.proofs.Runs.{nothing, S, Q, fs, ys, Ever, Left, many, all-fits, in_steps, alone, holding, start_m, mark-at}

-- ---- a run in which every altered frame is marked

near_begun : (s t : LineState) → ColdOrSame s t → Near (s.place ≡ t.place) t.doubtful s t
near_begun s t (inl e) = subst (λ (c : ℕ). Near (s.place ≡ t.place) c s t) (sym e) (near_any s t (λ z. z))
near_begun s t (inr e) = near_same t.doubtful s t e (λ z. z)

module _ {r : Record} {l : Law} {s t : LineState} {sending : List SendCall} {receiving : List ReceiveCall} {w : Damage} {line : List ℕ}
    {m : ℕ} (u : Run r l s t sending receiving w line m) where
  abbrev Marked : Incoming → Type 0
  Marked y = mark r l y.octets ≡ 0 → ⊥

  module _ (o : AlteredMarked m (sent s sending) line (marks_given t receiving)) where
    marked_at : (i : ℕ) → i < length (ys u) → Left u i ⊎ Marked (get_or (ys u) i nothing)
    marked_at i h = go (o i (omega (arith, many u)))
      where
        go : Unaltered (sent s sending) line i ⊎ (Good (marks_given t receiving) i → ⊥) → Left u i ⊎ Marked (get_or (ys u) i nothing)
        go (inl a) = inl (alone u i h a)
        go (inr b) = inr (λ e. b (mark-at u i (omega (arith, many u)) ∙ e))

    good_left : (i : ℕ) → i < m → Good (marks_given t receiving) i → Left u i
    good_left i h g = go (marked_at i (omega (arith, many u)))
      where
        go : Left u i ⊎ Marked (get_or (ys u) i nothing) → Left u i
        go (inl a) = a
        go (inr b) = absurd (b (sym (mark-at u i h) ∙ g))

    past : ColdOrSame s t → (i : ℕ) → i < m → Good (marks_given t receiving) i
        → (p : ℕ) → begins r s (send_choices s sending) i + (state_before r l t receiving i).doubtful ≤ p
        → p < begins r s (send_choices s sending) (suc i) → nth (handed_over t receiving) p ≡ nth (message s sending) p
    unfolding nth state_before
    past b i h g p c v =
        let holds = holding u (omega arith) in
        let k = p - begins r s (send_choices s sending) i in
        let at : start carries i (fs u) + k ≡ p = omega (arith, start_m u i (omega arith)) in
        let bits = counted (link (Ever u) r l holds) nothing (mends (Ever u) r l) (λ z. z.doubtful) Marked
        (λ c a z f q n. link_doubtful r l holds c a z f q n) (λ z y q. marked_doubtful r l z y (ne_eqb (mark r l y.octets) 0 q))
        i s t (fs u) (ys u) (near_begun s t b) (all-fits u) (in_steps u) marked_at (omega (arith, many u)) (good_left i h g) k (omega arith)
        (omega (arith, start_m u i (omega arith), start_m u (suc i) (omega arith))) in
        ap (λ (x : List Bool). get_or x p false) (Q u).bits ∙ rw at at bits ∙ ap (λ (x : List Bool). get_or x p false) (sym (S u).message)

  -- the state before a frame that is not among those read is the one that they all leave
  shown : (n : ℕ) → m ≤ n → after receive_left t receiving ≡ state_before r l t receiving n
  unfolding state_before
  shown n h = (Q u).state ∙ ap (after (receive_next r l) t) (sym (take_all n (ys u) (omega (arith, many u))))

pub counts : CountsHold
counts r l s t sending receiving w line m u o b =
    record { past = λ i h g p c v. past u o b i h g p (omega arith) v; shown = shown u _ (omega arith) }

-- ---- any calls

send_keeps : (n : ℕ) (st : LineState) (c : SendCall) → st.doubtful ≡ n → (send_left st c).doubtful ≡ n
unfolding send_left send_after
send_keeps n st c e =
    of_either (λ (z : LineState). z.doubtful ≡ n) (sends st c)
    (after_keeps send_next (λ z. z.doubtful ≡ n) (λ z f k. send_doubtful z f ∙ k) st _ e) e

receive_keeps : (st : LineState) (c : ReceiveCall) → st.doubtful ≤ 24 → (receive_left st c).doubtful ≤ 24
unfolding receive_left receive_after
receive_keeps st c h =
    of_either (λ (z : LineState). z.doubtful ≤ 24) (receives st c)
    (after_keeps (receive_next c.cp c.law) (λ z. z.doubtful ≤ 24) (λ z y. doubtful-le c.cp c.law z y) st _ h) h

pub counts_kept : CountsKept
unfolding send_refusal receive_refusal
counts_kept =
    record {
      carried = sent-count;
      kept = received-count;
      sender = λ s cs c h. not_eighteen c.cp (after send_left s cs) c.frames _ _ (rw (sent-count s cs) h);
      receiver = λ t cs c h. not_eighteen c.cp (after receive_left t cs) c.frames _ _ (received-count t cs h);
    }
  where
    sent-count : (s : LineState) (cs : List SendCall) → (after send_left s cs).doubtful ≡ s.doubtful
    sent-count s cs = after_keeps send_left (λ z. z.doubtful ≡ s.doubtful) (send_keeps s.doubtful) s cs refl

    received-count : (t : LineState) (cs : List ReceiveCall) → t.doubtful ≤ 24 → (after receive_left t cs).doubtful ≤ 24
    received-count = after_keeps receive_left (λ z. z.doubtful ≤ 24) receive_keeps
