-- The states of the two ends: they agree but for c doubtful bits. A frame as sent leaves fewer, any frame at most 24. Assumes nothing.
use mathlib.Core.Path.{◌≡◌, refl, sym, ap, ap₂, ◌∙◌}
use mathlib.Core.Logic.{◌⊎◌, inl, inr}
use Prim.Native.Nat.{ℕ, zero, suc, ◌-◌, ◌%◌, ◌^◌, ◌≤◌}
use mathlib.Core.Bool.{Bool, true, false, cond}
use mathlib.Core.List.{List, [], ◌∷◌}
use native.Mathlib.Nat.{not-suc-le-zero}
use native.Mathlib.Omega.{arith}
use lib.Dec.{eqb}
use lib.ListN.{length, get_or}
use Rattle.standard.specs.Bits.{◌⊕◌}
use Rattle.standard.specs.Scrambler.{push, push_all, scramble, descramble}
use Rattle.standard.specs.Frame.{is_control, next_place, width, controls, Outgoing, control_bits, send_frame, send_next, Incoming, heard_control}
use Rattle.standard.specs.Frame.{receive_frame, receive_next, six_in}
use Rattle.standard.specs.declared.Law.{Law}
use Rattle.standard.specs.declared.LineState.{LineState}
use Rattle.standard.specs.declared.Record.{Record}
use Rattle.standard.proofs.Scrambler.{Close, any_close, closer_all, same-past, length-scramble, descramble-scramble}
use Rattle.standard.proofs.Signs.{taken, taken_same}
use Rattle.standard.proofs.Frame.{Holds, good-doubtful, Wide, sent-mark, sent_data, sent-control, sent-sign, length-receive_frame}
use Rattle.theorems.specs.Runs.{Same}
use Rattle.theorems.proofs.Ends.{Link, Mends}

-- all but the c oldest bits of the histories agree, the last signs unless c is 24, the frame places if the channel is ever on
pub record Near (Ever : Type 0) (c : ℕ) (s t : LineState) : Type 0 where
  pub history : Close c s.history t.history
  pub sign : (c ≡ 24) ⊎ (s.sign ≡ t.sign)
  pub place : Ever → s.place ≡ t.place

pub near_any : {Ever : Type 0} (s t : LineState) → (Ever → s.place ≡ t.place) → Near Ever 24 s t
near_any s t e = record { history = any_close 24 s.history t.history (omega arith); sign = inl refl; place = e }

pub near_same : {Ever : Type 0} (c : ℕ) (s t : LineState) → Same s t → (Ever → s.place ≡ t.place) → Near Ever c s t
near_same c s t e p = record { history = ap (λ (x : ℕ). x % 2 ^ (23 - c)) e.0; sign = inr e.1; place = p }

-- the bits that a scrambler gives, taken with another history and last sign
module _ (c h h' : ℕ) (g g' : Bool) (e : Close c h h') (q : (c ≡ 24) ⊎ (g ≡ g')) where
  taken_bits : (ds : List Bool) (p : ℕ) → c ≤ p → get_or (descramble h' (taken g g' (scramble h ds))) p false ≡ get_or ds p false
  unfolding descramble
  taken_bits ds p l = go (scramble h ds) q ∙ ap (λ (x : List Bool). get_or x p false) (descramble-scramble h ds)
    where
      first : (s : Bool) (ss : List Bool) (i : ℕ) → 24 ≤ i → get_or (descramble h' ((s ⊕ g ⊕ g') ∷ ss)) i false
          ≡ get_or (descramble h (s ∷ ss)) i false
      first s ss zero k = absurd (not-suc-le-zero k)
      first s ss (suc i) k =
          same-past 23 (push h' (s ⊕ g ⊕ g')) (push h s) ss i (any_close 23 (push h' (s ⊕ g ⊕ g')) (push h s) (omega arith)) (omega arith)

      go : (ss : List Bool) → (c ≡ 24) ⊎ (g ≡ g') → get_or (descramble h' (taken g g' ss)) p false ≡ get_or (descramble h ss) p false
      go ss (inr k) = rw (← k, taken_same) (sym (same-past c h h' ss p e l))
      go [] (inl k) = refl
      go (s ∷ ss) (inl k) = first s ss p (omega arith)

  taken_close : (ds : List Bool) → Close (c - length ds) (push_all h (scramble h ds)) (push_all h' (taken g g' (scramble h ds)))
  unfolding push_all
  taken_close ds = rw (← length-scramble h ds) (go (scramble h ds) q)
    where
      go : (ss : List Bool) → (c ≡ 24) ⊎ (g ≡ g') → Close (c - length ss) (push_all h ss) (push_all h' (taken g g' ss))
      go ss (inr k) = rw (← k, taken_same) (closer_all c h h' ss e)
      go [] (inl k) = let z : c - 0 ≡ c = omega arith in rw z e
      go (s ∷ ss) (inl k) =
          let z : c - suc (length ss) ≡ 23 - length ss = omega arith in
          rw z (closer_all 23 (push h s) (push h' (s ⊕ g ⊕ g')) ss (any_close 23 (push h s) (push h' (s ⊕ g ⊕ g')) (omega arith)))

-- a frame as wide as its state says, and where its choice is on, it is so once
pub record Fit (Ever : Type 0) (r : Record) (s : LineState) (f : Outgoing) : Type 0 where
  pub wide : Wide r s f
  pub ever : f.control ≡ true → Ever

-- the choice at the frame is the same
abbrev pub Step : Outgoing → Incoming → Type 0
Step f y = y.control ≡ f.control

-- a frame as it is sent, to be received
abbrev pub sent_as : Record → Law → LineState → Outgoing → Incoming
sent_as r l s f = six_in f.control (send_frame r l s f)

pub same_kind : {Ever : Type 0} (on : Bool) (p q : ℕ) → (on ≡ true → Ever) → (Ever → p ≡ q) → is_control on q ≡ is_control on p
same_kind true p q e k = ap (λ (x : ℕ). eqb x 0) (sym (k (e refl)))
same_kind false p q e k = refl

-- a control frame's data bits follow a sign that both have
sign-given : (b g g' : Bool) (c : ℕ) → (c ≡ 24) ⊎ (g ≡ g') → (c ≡ 24) ⊎ (cond b g' g ≡ g')
sign-given true g g' c q = inr refl
sign-given false g g' c q = q

module _ {Ever : Type 0} (r : Record) (l : Law) (holds : Holds r) (c : ℕ) (s t : LineState) (f : Outgoing) (fit : Fit Ever r s f)
    (n : Near Ever c s t) where
  abbrev before : Bool
  before = cond (controls s f.control) t.sign s.sign

  kind : controls t f.control ≡ controls s f.control
  kind = same_kind f.control s.place t.place fit.ever n.place

  sign_now : (c ≡ 24) ⊎ (before ≡ t.sign)
  sign_now = sign-given (controls s f.control) s.sign t.sign c n.sign

  link_bits : (p : ℕ) → c ≤ p → get_or (receive_frame r l t (sent_as r l s f)) p false ≡ get_or f.bits p false
  unfolding receive_frame
  link_bits p k =
      rw (sent-mark r l holds s f fit.wide, sent_data r l holds s f fit.wide t kind)
      (taken_bits c s.history t.history before t.sign n.history sign_now f.bits p k)

  link_near : Near Ever (c - length f.bits) (send_next s f) (receive_next r l t (sent_as r l s f))
  unfolding send_next receive_next
  link_near =
      record {
        history = rw (sent_data r l holds s f fit.wide t kind)
            (taken_close c s.history t.history before t.sign n.history sign_now f.bits);
        sign = inr (sym (sent-sign r l holds s f fit.wide t));
        place = λ e. ap (next_place f.control) (n.place e);
      }

  -- A.1's count after a frame as sent
  pub link_doubtful : (receive_next r l t (sent_as r l s f)).doubtful ≡ t.doubtful - length f.bits
  link_doubtful =
      good-doubtful r l t (sent_as r l s f) (ap (λ (x : ℕ). eqb x 0) (sent-mark r l holds s f fit.wide))
      ∙ ap (λ (x : ℕ). t.doubtful - x) (ap (width r) kind ∙ sym fit.wide)

  -- A.2: all control bits as sent but the first, where the last sign was another
  pub link_control : heard_control r l t (sent_as r l s f) ≡ taken s.sign t.sign (control_bits s f)
  link_control = sent-control r l holds s f fit.wide t kind

pub link : (Ever : Type 0) (r : Record) (l : Law) → Holds r → Link (sent_as r l) send_next (λ f. f.bits) (receive_frame r l) (receive_next r l)
    (Fit Ever r) Step (Near Ever)
link Ever r l holds =
    record {
      long = λ c s t f y e k n.
          length-receive_frame r l t y ∙ ap (λ (b : Bool). width r (controls t b)) k
          ∙ ap (width r) (same_kind f.control s.place t.place e.ever n.place) ∙ sym e.wide;
      bits = λ c s t f e n. link_bits r l holds c s t f e n;
      nearer = λ c s t f e n. link_near r l holds c s t f e n;
    }

pub mends : (Ever : Type 0) (r : Record) (l : Law) → Mends send_next (receive_next r l) (Fit Ever r) Step (Near Ever)
unfolding send_next receive_next
mends Ever r l =
    record {
      lose = λ c s t f y e k n. near_any (send_next s f) (receive_next r l t y) (λ z. ap₂ next_place (sym k) (n.place z));
      doubt = λ c s t n. near_any s t n.place;
    }
