-- A sender and a receiver, frame by frame, for any frames and states: what a line that alters some frames leaves as sent. Assumes nothing.
use mathlib.Core.Path.{◌≡◌, refl, sym, ap, ap₂, ◌∙◌}
use mathlib.Core.Logic.{◌⊎◌, inl, inr}
use Prim.Native.Nat.{ℕ, zero, suc, ◌+◌, ◌-◌, ◌≤◌, ◌<◌}
use mathlib.Core.Bool.{Bool, false}
use mathlib.Core.List.{List, [], ◌∷◌, ◌++◌, map}
use native.Mathlib.Decide.{dec_le}
use native.Mathlib.Nat.{not-suc-le-zero}
use native.Mathlib.Omega.{arith}
use lib.ListN.{length, get_or, take, length-append, get_or-append}
use lib.Seq.{get_or-append-add}
use Rattle.standard.specs.Lists.{joined, each, after}
use Rattle.theorems.specs.Runs.{Damage, clean, frames, Outside, Beyond}

-- each frame fits the state that it meets
module _ {S F : Type 0} (next : S → F → S) (Fit : S → F → Type 0) where
  abbrev pub Fits : S → List F → Type 0
  Fits st [] = Unit {0}
  Fits st (f ∷ fs) = Fit st f × Fits (next st f) fs

  pub fits-append : (st : S) (a b : List F) → Fits st a → Fits (after next st a) b → Fits st (a ++ b)
  unfolding after
  fits-append st [] b p q = q
  fits-append st (f ∷ a) b p q = (p.0, fits-append (next st f) a b p.1 q)

-- where frame i begins
module _ {F : Type 0} (given : F → List Bool) where
  unfoldable pub start : ℕ → List F → ℕ
  start zero fs = 0
  start (suc i) [] = 0
  start (suc i) (f ∷ fs) = length (given f) + start i fs

-- bit p of two lists end to end, of which the first have one length
pub two : (x X g G : List Bool) (p : ℕ) → length x ≡ length g → (p < length g → get_or x p false ≡ get_or g p false)
    → (length g ≤ p → get_or X (p - length g) false ≡ get_or G (p - length g) false) → get_or (x ++ X) p false ≡ get_or (g ++ G) p false
two x X g G p e a b = go (dec_le (length g) p)
  where
    go : Dec (length g ≤ p) → get_or (x ++ X) p false ≡ get_or (g ++ G) p false
    go (yes l) =
        let z : p ≡ length g + (p - length g) = omega arith in
        let y : p ≡ length x + (p - length g) = omega arith in
        ap (λ (n : ℕ). get_or (x ++ X) n false) y ∙ get_or-append-add x X (p - length g) false ∙ b l
        ∙ sym (ap (λ (n : ℕ). get_or (g ++ G) n false) z ∙ get_or-append-add g G (p - length g) false)
    go (no l) =
        let h : p < length g = omega arith in
        get_or-append x X false p (omega arith) ∙ a h ∙ sym (get_or-append g G false p h)

-- frames received, each in step with the frame sent; the receiver may stop before the end
module _ {F Y : Type 0} (Step : F → Y → Type 0) where
  abbrev pub Steps : List F → List Y → Type 0
  Steps fs [] = Unit {0}
  Steps [] (y ∷ ys) = ⊥
  Steps (f ∷ fs) (y ∷ ys) = Step f y × Steps fs ys

-- a sender's frame f and a receiver's frame y. Near c: the two states agree but for c doubtful bits
pub record Link {S T F Y : Type 0} (send : S → F → Y) (send_next : S → F → S) (given : F → List Bool) (hear : T → Y → List Bool)
    (hearNext : T → Y → T)
    (Fit : S → F → Type 0) (Step : F → Y → Type 0) (Near : ℕ → S → T → Type 0) : Type 0 where
  pub long : (c : ℕ) (s : S) (t : T) (f : F) (y : Y) → Fit s f → Step f y → Near c s t → length (hear t y) ≡ length (given f)
  pub bits : (c : ℕ) (s : S) (t : T) (f : F) → Fit s f → Near c s t → (p : ℕ) → c ≤ p
      → get_or (hear t (send s f)) p false ≡ get_or (given f) p false
  pub nearer : (c : ℕ) (s : S) (t : T) (f : F) → Fit s f → Near c s t → Near (c - length (given f)) (send_next s f) (hearNext t (send s f))

-- 24 doubtful bits are all that any damage leaves
pub record Mends {S T F Y : Type 0} (send_next : S → F → S) (hearNext : T → Y → T) (Fit : S → F → Type 0)
    (Step : F → Y → Type 0) (Near : ℕ → S → T → Type 0) : Type 0 where
  pub lose : (c : ℕ) (s : S) (t : T) (f : F) (y : Y) → Fit s f → Step f y → Near c s t → Near 24 (send_next s f) (hearNext t y)
  pub doubt : (c : ℕ) (s : S) (t : T) → Near c s t → Near 24 s t

module _ {S T F Y : Type 0} {send : S → F → Y} {send_next : S → F → S} {given : F → List Bool} {hear : T → Y → List Bool}
    {hearNext : T → Y → T}
    {Fit : S → F → Type 0} {Step : F → Y → Type 0} {Near : ℕ → S → T → Type 0}
    (link : Link send send_next given hear hearNext Fit Step Near) (y₀ : Y) where
  -- frame i was left alone
  abbrev Left : S → List F → List Y → ℕ → Type 0
  Left s fs ys i = get_or ys i y₀ ≡ get_or (each send send_next s fs) i y₀

  -- up to frame a all were left alone
  pub before : (a c : ℕ) (s : S) (t : T) (fs : List F) (ys : List Y) → Near c s t → Fits send_next Fit s fs → Steps Step fs ys
      → a ≤ length ys
      → ((i : ℕ) → i < a → Left s fs ys i) → (p : ℕ) → p < start given a fs → c ≤ p
      → get_or (joined (each hear hearNext t ys)) p false ≡ get_or (joined (map given fs)) p false
  unfolding joined each start
  before zero c s t fs ys n k w le o p h l = absurd (not-suc-le-zero h)
  before (suc a) c s t fs [] n k w le o p h l = absurd (not-suc-le-zero le)
  before (suc a) c s t [] (y ∷ ys) n k w le o p h l = absurd w
  before (suc a) c s t (f ∷ fs) (y ∷ ys) n k w le o p h l =
      let e : y ≡ send s f = o 0 (omega arith) in
      let rest = before a (c - length (given f)) (send_next s f) (hearNext t y) fs ys (rw e (link.nearer c s t f k.0 n)) k.1
      w.1 (omega arith) (λ i q. o (suc i) (omega arith)) (p - length (given f)) in
      two (hear t y) (joined (each hear hearNext (hearNext t y) ys)) (given f) (joined (map given fs)) p
      (link.long c s t f y k.0 w.0 n)
      (λ q. rw e (link.bits c s t f k.0 n p l)) (λ q. rest (omega arith) (omega arith))

  -- from frame q on all were left alone
  pub beyond : Mends send_next hearNext Fit Step Near → (q c : ℕ) (s : S) (t : T) (fs : List F) (ys : List Y) → Near c s t
      → Fits send_next Fit s fs → Steps Step fs ys
      → ((i : ℕ) → q ≤ i → i < length ys → Left s fs ys i) → (p : ℕ) → p < start given (length ys) fs → start given q fs + 24 ≤ p
      → get_or (joined (each hear hearNext t ys)) p false ≡ get_or (joined (map given fs)) p false
  unfolding joined each start
  beyond mends zero c s t fs ys n k w o p h l =
      before (length ys) 24 s t fs ys (mends.doubt c s t n) k w (omega arith) (λ i q. o i (omega arith) q) p h (omega arith)
  beyond mends (suc q) c s t fs [] n k w o p h l = absurd (not-suc-le-zero h)
  beyond mends (suc q) c s t [] (y ∷ ys) n k w o p h l = absurd w
  beyond mends (suc q) c s t (f ∷ fs) (y ∷ ys) n k w o p h l =
      let rest = beyond mends q 24 (send_next s f) (hearNext t y) fs ys (mends.lose c s t f y k.0 w.0 n) k.1 w.1
      (λ i a b. o (suc i) (omega arith) (omega arith)) (p - length (given f)) in
      two (hear t y) (joined (each hear hearNext (hearNext t y) ys)) (given f) (joined (map given fs)) p
      (link.long c s t f y k.0 w.0 n)
      (λ z. absurd (omega arith)) (λ z. rest (omega arith) (omega arith))

  -- the line alters no frames but those in its damage
  pub past_damage : Mends send_next hearNext Fit Step Near → (w : Damage) (c : ℕ) (s : S) (t : T) (fs : List F) (ys : List Y) → Near c s t
      → Fits send_next Fit s fs → Steps Step fs ys
      → ((i : ℕ) → i < length ys → Outside w i → Left s fs ys i) → (p : ℕ) → p < start given (length ys) fs
      → Beyond w (λ i. start given i fs) p → c ≤ p
      → get_or (joined (each hear hearNext t ys)) p false ≡ get_or (joined (map given fs)) p false
  past_damage mends clean c s t fs ys n k w o p h b l = before (length ys) c s t fs ys n k w (omega arith) (λ i q. o i q tt) p h l
  past_damage mends (frames x y) c s t fs ys n k w o p h (inr b) l =
      beyond mends (y + 1) c s t fs ys n k w (λ i q z. o i z (inr (omega arith))) p h b
  past_damage mends (frames x y) c s t fs ys n k w o p h (inl b) l = go (dec_le x (length ys))
    where
      go : Dec (x ≤ length ys) → get_or (joined (each hear hearNext t ys)) p false ≡ get_or (joined (map given fs)) p false
      go (yes z) = before x c s t fs ys n k w z (λ i u. o i (omega arith) (inl u)) p b l
      go (no z) = before (length ys) c s t fs ys n k w (omega arith) (λ i u. o i u (inl (omega arith))) p h l

  -- how many bits are handed over
  pub total : Mends send_next hearNext Fit Step Near → (c : ℕ) (s : S) (t : T) (fs : List F) (ys : List Y) → Near c s t
      → Fits send_next Fit s fs → Steps Step fs ys → length (joined (each hear hearNext t ys)) ≡ start given (length ys) fs
  unfolding joined each start
  total mends c s t fs [] n k w = refl
  total mends c s t [] (y ∷ ys) n k w = absurd w
  total mends c s t (f ∷ fs) (y ∷ ys) n k w =
      length-append (hear t y) (joined (each hear hearNext (hearNext t y) ys))
      ∙ ap₂ ◌+◌ (link.long c s t f y k.0 w.0 n)
      (total mends 24 (send_next s f) (hearNext t y) fs ys (mends.lose c s t f y k.0 w.0 n) k.1 w.1)

  -- a count of doubtful bits that the receiver keeps is right where every altered frame is marked
  module _ (mends : Mends send_next hearNext Fit Step Near) (count : T → ℕ) (Marked : Y → Type 0)
      (lowers : (c : ℕ) (s : S) (t : T) (f : F) → Fit s f → Near c s t → count (hearNext t (send s f)) ≡ count t - length (given f))
      (sets : (t : T) (y : Y) → Marked y → count (hearNext t y) ≡ 24) where
    counted_next : (s : S) (t : T) (f : F) (y : Y) → Fit s f → Step f y → Near (count t) s t → (y ≡ send s f) ⊎ Marked y
        → Near (count (hearNext t y)) (send_next s f) (hearNext t y)
    counted_next s t f y k w n (inl e) = rw e (rw (lowers (count t) s t f k n) (link.nearer (count t) s t f k n))
    counted_next s t f y k w n (inr m) = rw (sets t y m) (mends.lose (count t) s t f y k w n)

    pub counted : (i : ℕ) (s : S) (t : T) (fs : List F) (ys : List Y) → Near (count t) s t → Fits send_next Fit s fs → Steps Step fs ys
        → ((j : ℕ) → j < length ys → Left s fs ys j ⊎ Marked (get_or ys j y₀)) → i < length ys → Left s fs ys i
        → (p : ℕ) → count (after hearNext t (take i ys)) ≤ p → start given i fs + p < start given (suc i) fs
        → get_or (joined (each hear hearNext t ys)) (start given i fs + p) false ≡ get_or (joined (map given fs)) (start given i fs + p) false
    unfolding joined each start after
    counted i s t fs [] n k w o h e p l b = absurd (not-suc-le-zero h)
    counted i s t [] (y ∷ ys) n k w o h e p l b = absurd w
    counted zero s t (f ∷ fs) (y ∷ ys) n k w o h e p l b =
        let z : 0 + p ≡ p = omega arith in
        rw z
        (two (hear t y) (joined (each hear hearNext (hearNext t y) ys)) (given f) (joined (map given fs)) p
        (link.long (count t) s t f y k.0 w.0 n) (λ q. rw e (link.bits (count t) s t f k.0 n p l)) (λ q. absurd (omega arith)))
    counted (suc i) s t (f ∷ fs) (y ∷ ys) n k w o h e p l b =
        let z : length (given f) + start given i fs + p ≡ length (given f) + (start given i fs + p) = omega arith in
        let back : length (given f) + (start given i fs + p) - length (given f) ≡ start given i fs + p = omega arith in
        let rest = counted i (send_next s f) (hearNext t y) fs ys (counted_next s t f y k.0 w.0 n (o 0 (omega arith))) k.1 w.1
        (λ j v. o (suc j) (omega arith)) (omega arith) e p l (omega arith) in
        rw z
        (two (hear t y) (joined (each hear hearNext (hearNext t y) ys)) (given f) (joined (map given fs))
        (length (given f) + (start given i fs + p)) (link.long (count t) s t f y k.0 w.0 n) (λ q. absurd (omega arith))
        (λ q. rw back rest))
