-- A good frame with one sign flipped, and the frames after it to which the change comes. Assumes nothing.
use mathlib.Core.Path.{◌≡◌, refl, sym, ap, ◌∙◌, subst}
use Prim.Native.Nat.{ℕ, zero, suc, ◌+◌, ◌-◌, ◌≤◌, ◌<◌}
use mathlib.Core.Bool.{Bool, true, false, not}
use mathlib.Core.List.{List, [], ◌∷◌, ◌++◌, map}
use native.Mathlib.Nat.{not-suc-le-zero}
use native.Mathlib.Omega.{arith}
use borrow.Author.Tests.{eqb-true, eqb-false}
use lib.Dec.{eqb}
use lib.ListN.{length, get_or, take, set, length-append}
use lib.Seq.{get_or-set_same, get_or-set_other}
use Rattle.standard.specs.Lists.{joined, each, after}
use Rattle.standard.specs.Bits.{◌⊕◌, nth}
use Rattle.standard.specs.Record.{K}
use Rattle.standard.specs.Octets.{octet, sign_of, ucode_of}
use Rattle.standard.specs.Frame.{data_bits, Incoming, receive_frame, receive_next}
use Rattle.standard.specs.Flip.{other_sign, flip_at, frames_after}
use Rattle.standard.specs.declared.Law.{Law}
use Rattle.standard.specs.declared.LineState.{LineState}
use Rattle.standard.specs.declared.Record.{Record}
use Rattle.standard.proofs.Lists.{joined-append, each_append}
use Rattle.standard.proofs.Octets.{sign-back, ucode-back, ucode-lt}
use Rattle.standard.proofs.Frame.{length-receive_frame}
use Rattle.theorems.proofs.OverCalls.{chosen}
use Rattle.theorems_flip.proofs.Linear.{xor_false, mix}
use Rattle.theorems_flip.proofs.Frames.{Turned, Plain, AllPlain, more_mixed, next-apart, frames_mixed, frames-apart, after_small}
use Rattle.theorems_flip.proofs.Frames.{none, apart_none, none_apart, next_errors, Apart}
use Rattle.theorems_flip.proofs.Table.{expected, errors_are, none_left}

-- ---- a sign flipped

pub flip_turned : (l : Law) (os : List ℕ) (i : ℕ) → i < length os → Turned l (λ j. eqb j i) os (flip_at l i os)
unfolding flip_at other_sign
flip_turned l os i h = record { ucodes = λ j k. ucode j (eqb j i) refl; signs = λ j k. sign j (eqb j i) refl }
  where
    o : ℕ
    o = get_or os i 0

    v : ℕ
    v = octet l (not (sign_of o)) (ucode_of l o)

    same : (j : ℕ) → eqb j i ≡ true → get_or (set os i v) j 0 ≡ v
    same j e = rw (eqb-true j i e) (get_or-set_same os i v 0 h)

    ucode : (j : ℕ) (b : Bool) → eqb j i ≡ b → ucode_of l (get_or (set os i v) j 0) ≡ ucode_of l (get_or os j 0)
    ucode j true e =
        ap (ucode_of l) (same j e) ∙ ucode-back l (not (sign_of o)) (ucode_of l o) (ucode-lt l o)
        ∙ ap (λ (k : ℕ). ucode_of l (get_or os k 0)) (sym (eqb-true j i e))
    ucode j false e = ap (ucode_of l) (get_or-set_other os i j v 0 (eqb-false j i e))

    other : (b : Bool) → not b ≡ b ⊕ true
    other true = refl
    other false = refl

    sign : (j : ℕ) (b : Bool) → eqb j i ≡ b → sign_of (get_or (set os i v) j 0) ≡ sign_of (get_or os j 0) ⊕ eqb j i
    sign j true e =
        rw e
        (ap sign_of (same j e) ∙ sign-back l (not (sign_of o)) (ucode_of l o) (ucode-lt l o)
        ∙ other (sign_of o) ∙ ap (λ (k : ℕ). sign_of (get_or os k 0) ⊕ true) (sym (eqb-true j i e)))
    sign j false e = rw e (ap sign_of (get_or-set_other os i j v 0 (eqb-false j i e)) ∙ sym (xor_false (sign_of (get_or os j 0))))

-- ---- frames y and B after it, and z in place of y

module _ (r : Record) (l : Law) where
  abbrev pub heard : LineState → List Incoming → List Bool
  heard s ys = joined (each (receive_frame r l) (receive_next r l) s ys)

  abbrev pub left : LineState → List Incoming → LineState
  left = after (receive_next r l)

  module _ (lo : 15 ≤ K r) (hi : K r ≤ 42) (i : ℕ) (h : i < 6) (s : LineState) (y z : Incoming) (B : List Incoming)
      (many : length B ≡ frames_after (K r) i) (p : Plain r l y) (ps : AllPlain r l B)
      (t : Turned l (λ j. eqb j i) y.octets z.octets) (off : z.control ≡ false) where
    abbrev flip : ℕ → Bool
    flip j = eqb j i

    next : Apart (next_errors (K r) none flip) (receive_next r l s y) (receive_next r l s z)
    next = next-apart r l none s s (apart_none s) flip y z p t off

    pub heard_hit : heard s (z ∷ B) ≡ mix (heard s (y ∷ B)) (expected (K r) i)
    unfolding joined each
    heard_hit =
        more_mixed r l none s s (apart_none s) flip y z p t off _ _ _
        (frames_mixed r l (next_errors (K r) none flip) (receive_next r l s y) (receive_next r l s z) B next ps)
        ∙ ap (mix (heard s (y ∷ B))) (rw many (errors_are (K r) i lo hi h))

    pub left_hit : left s (z ∷ B) ≡ left s (y ∷ B)
    unfolding after
    left_hit =
        none_apart (left s (y ∷ B)) (left s (z ∷ B))
        (subst (λ (x : _). Apart x (left s (y ∷ B)) (left s (z ∷ B))) (rw many (none_left (K r) i lo hi h))
        (frames-apart r l (next_errors (K r) none flip) (receive_next r l s y) (receive_next r l s z) B next ps))
        (after_small r l s y B p.off) (after_small r l s z B off)

  -- ---- the same with frames before and after

  -- where frame n begins
  pub heard-begins : (s : LineState) (ys : List Incoming) (n : ℕ) → n ≤ length ys
      → length (heard s (take n ys)) ≡ data_bits r (nth (map chosen ys)) s.place n
  unfolding joined each data_bits nth receive_next
  heard-begins s ys zero h = refl
  heard-begins s [] (suc n) h = absurd (not-suc-le-zero h)
  heard-begins s (y ∷ ys) (suc n) h =
      omega (
        arith,
        length-append (receive_frame r l s y) (heard (receive_next r l s y) (take n ys)),
        length-receive_frame r l s y,
        heard-begins (receive_next r l s y) ys n (omega arith),
      )

  heard-append : (s : LineState) (A B : List Incoming) → heard s (A ++ B) ≡ heard s A ++ heard (left s A) B
  heard-append s A B =
      ap joined (each_append (receive_frame r l) (receive_next r l) s A B) ∙ joined-append (each (receive_frame r l) (receive_next r l) s A) _

  pub heard-parts : (s : LineState) (A M R : List Incoming)
      → heard s (A ++ (M ++ R)) ≡ heard s A ++ (heard (left s A) M ++ heard (left (left s A) M) R)
  heard-parts s A M R = heard-append s A (M ++ R) ∙ ap (λ (bs : List Bool). heard s A ++ bs) (heard-append (left s A) M R)
