-- A.2: of the control bits in unaltered frames only the first may be wrong, and that only after damage or a start with another sign.
-- Assumes nothing.
use mathlib.Core.Path.{◌≡◌, refl, sym}
use mathlib.Core.Logic.{◌⊎◌, inl, inr}
use Prim.Native.Nat.{ℕ, zero, suc, ◌≤◌, ◌<◌}
use mathlib.Core.Bool.{Bool, false}
use mathlib.Core.List.{List, [], ◌∷◌}
use native.Mathlib.Nat.{not-suc-le-zero}
use native.Mathlib.Omega.{arith}
use lib.ListN.{length, get_or}
use Rattle.standard.specs.Lists.{each}
use Rattle.standard.specs.Bits.{nth}
use Rattle.standard.specs.Frame.{Outgoing, control_bits, send_next, Incoming, heard_control, receive_next}
use Rattle.standard.specs.Calls.{SendCall, ReceiveCall}
use Rattle.standard.specs.declared.Law.{Law}
use Rattle.standard.specs.declared.LineState.{LineState}
use Rattle.standard.specs.declared.Record.{Record}
use Rattle.standard.proofs.Signs.{taken, taken_same}
use Rattle.standard.proofs.Frame.{Holds, sent-sign}
use Rattle.theorems.specs.Runs.{Damage, Run}
use Rattle.theorems.specs.Channel.{control_sent, control_heard, Steady, ControlsDeliver}
use Rattle.theorems.proofs.Ends.{Fits, Steps}
use Rattle.theorems.proofs.Doubt.{Near, near_any, Fit, Step, link_control, mends}
use Rattle.theorems.proofs.Runs.{nothing, as_sent_frames, fs, ys, Ever, many, all-fits, in_steps, same-frame, holding}

-- all bits but the first, and the first too after one sign
same_first : (g g' : Bool) (ss : List Bool) (k : ℕ) → (1 ≤ k) ⊎ (g ≡ g') → get_or (taken g g' ss) k false ≡ get_or ss k false
same_first g g' ss k (inr e) = rw (← e, taken_same)
same_first g g' [] k (inl h) = refl
same_first g g' (s ∷ ss) zero (inl h) = absurd (not-suc-le-zero h)
same_first g g' (s ∷ ss) (suc k) (inl h) = refl

-- the first control bit of a frame is safe where the frame before it was left alone, or there is none and the last signs were the same
abbrev Safe : Record → Law → LineState → LineState → List Outgoing → List Incoming → ℕ → Type 0
Safe r l s t fs ys zero = s.sign ≡ t.sign
Safe r l s t fs ys (suc i) = get_or ys i nothing ≡ get_or (as_sent_frames r l s fs) i nothing

module _ (Ever : Type 0) (r : Record) (l : Law) (holds : Holds r) where
  control-at : (i c : ℕ) (s t : LineState) (fs : List Outgoing) (ys : List Incoming) → Near Ever c s t → Fits send_next (Fit Ever r) s fs
      → Steps Step fs ys → i < length ys → get_or ys i nothing ≡ get_or (as_sent_frames r l s fs) i nothing
      → (k : ℕ) → (1 ≤ k) ⊎ Safe r l s t fs ys i
      → nth (get_or (each (heard_control r l) (receive_next r l) t ys) i []) k ≡ nth (get_or (each control_bits send_next s fs) i []) k
  unfolding each nth
  control-at i c s t fs [] n a w h e k q = absurd (not-suc-le-zero h)
  control-at i c s t [] (y ∷ ys) n a w h e k q = absurd w
  control-at zero c s t (f ∷ fs) (y ∷ ys) n a w h e k q =
      rw (e, link_control r l holds c s t f a.0 n) (same_first s.sign t.sign (control_bits s f) k q)
  control-at (suc i) c s t (f ∷ fs) (y ∷ ys) n a w h e k q =
      control-at i 24 (send_next s f) (receive_next r l t y) fs ys ((mends Ever r l).lose c s t f y a.0 w.0 n) a.1 w.1
      (omega arith) e k (go i q)
    where
      go : (j : ℕ) → (1 ≤ k) ⊎ Safe r l s t (f ∷ fs) (y ∷ ys) (suc j) → (1 ≤ k) ⊎ Safe r l (send_next s f) (receive_next r l t y) fs ys j
      go j (inl u) = inl u
      go zero (inr u) = inr (rw u (sym (sent-sign r l holds s f a.0.wide t)))
      go (suc j) (inr u) = inr u

module _ {r : Record} {l : Law} {s t : LineState} {sending : List SendCall} {receiving : List ReceiveCall} {w : Damage} {line : List ℕ}
    {m : ℕ} (u : Run r l s t sending receiving w line m) where
  safe : (i : ℕ) → i < m → (k : ℕ) → (1 ≤ k) ⊎ Steady w s t i → (1 ≤ k) ⊎ Safe r l s t (fs u) (ys u) i
  safe i h k (inl q) = inl q
  safe zero h k (inr q) = inr q
  safe (suc i) h k (inr q) = inr (same-frame u i (omega (arith, many u)) q)

pub controls_deliver : ControlsDeliver
unfolding control_sent control_heard
controls_deliver r l s t sending receiving w line m u i h o k q =
    control-at (Ever u) r l (holding u (omega arith)) i 24 s t (fs u) (ys u) (near_any s t (λ z. z)) (all-fits u) (in_steps u)
    (omega (arith, many u)) (same-frame u i (omega (arith, many u)) o) k (safe u i h k q)
