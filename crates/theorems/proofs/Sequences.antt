-- A control sequence, frame by frame: sent whole, and what is said of one that is received whole. Assumes nothing.
use mathlib.Core.Path.{◌≡◌, refl, sym, ap, ap₂, ◌∙◌}
use Prim.Native.Nat.{ℕ, zero, suc, ◌+◌, ◌*◌, ◌%◌, ◌≤◌, ◌<◌}
use mathlib.Core.Bool.{Bool, true, false, not, ◌&&◌, ◌||◌, and-true, and-false, or-true, or-false, or_assoc, or_comm}
use mathlib.Core.List.{List, [], ◌∷◌, ◌++◌, append_assoc, append-nil}
use native.Mathlib.Decide.{ℕ_discrete as dec_eq}
use native.Mathlib.Nat.{add-zero, add-suc, suc-add, zero-add, not-suc-le-zero}
use native.Mathlib.Omega.{arith}
use borrow.Author.Tests.{eq-eqb, ne_eqb, eqb-true}
use lib.Dec.{eqb}
use lib.ListN.{length, get_or, length-append}
use Rattle.standard.specs.Lists.{list_from, joined, each}
use Rattle.standard.specs.Bits.{bit_at, bits_in, bytes_of, nth}
use Rattle.standard.specs.Control.{sequence_bit, sequence_bytes, judged}
use Rattle.standard.specs.Frame.{controls, starts_in, Outgoing, sequence_sent, control_bits, send_next, good, Incoming, heard_control}
use Rattle.standard.specs.Frame.{sequence_so_far, lost_so_far, said_in, receive_next}
use Rattle.standard.specs.declared.Law.{Law}
use Rattle.standard.specs.declared.LineState.{LineState}
use Rattle.standard.specs.declared.Record.{Record}
use Rattle.standard.specs.declared.Said.{Said}
use Rattle.standard.proofs.Lists.{length-list_from, list_from_ext, and_both}
use Rattle.standard.proofs.Bits.{length-bits_in, bits_written, bit_at-bytes}
use Rattle.standard.proofs.Frame.{length-heard_control}

no_bits : (bs : List Bool) → length bs ≡ 0 → bs ≡ []
no_bits [] e = refl
no_bits (b ∷ bs) e = absurd (omega arith)

-- ---- the receiver

-- of a sequence under way: the bits so far, and whether a frame of it is lost
abbrev heard_before : LineState → List Bool
heard_before t = bits_in (6 * t.done) t.sequence

abbrev lost_before : LineState → Bool
lost_before t = t.lost && not (eqb t.done 0)

module _ (r : Record) (l : Law) where
  abbrev pub heard_in : LineState → List Incoming → List (List Bool)
  heard_in = each (heard_control r l) (receive_next r l)

  abbrev pub said_over : LineState → List Incoming → List (List Said)
  said_over = each (said_in r l) (receive_next r l)

  -- a control frame of these is marked
  abbrev pub lost_in : LineState → List Incoming → Bool
  lost_in t [] = false
  lost_in t (y ∷ ys) = controls t y.control && not (good r l y.octets) || lost_in (receive_next r l t y) ys

  -- a frame that is no control frame
  pub record Quiet (t : LineState) (y : Incoming) : Type 0 where
    pub none : heard_control r l t y ≡ []
    pub silent : said_in r l t y ≡ []
    pub done : (receive_next r l t y).done ≡ t.done
    pub before : heard_before (receive_next r l t y) ≡ heard_before t
    pub lost : lost_before (receive_next r l t y) ≡ lost_before t

  pub quiet : (t : LineState) (y : Incoming) → controls t y.control ≡ false → Quiet t y
  unfolding heard_control said_in receive_next
  quiet t y e = record { none = rw e; silent = rw e; done = rw e; before = rw e; lost = rw e }

  -- a control frame that does not end the sequence
  record More (t : LineState) (y : Incoming) : Type 0 where
    pub silent : said_in r l t y ≡ []
    pub done : (receive_next r l t y).done ≡ t.done + 1
    pub before : heard_before (receive_next r l t y) ≡ heard_before t ++ heard_control r l t y
    pub lost : lost_before (receive_next r l t y) ≡ not (good r l y.octets) || lost_before t

  more : (t : LineState) (y : Incoming) → controls t y.control ≡ true → t.done < 15 → More t y
  unfolding receive_next sequence_so_far lost_so_far said_in
  more t y e h =
      let z : (t.done + 1) % 16 ≡ t.done + 1 = omega arith in
      let bs = heard_before t ++ heard_control r l t y in
      let n : length bs ≡ 6 * (t.done + 1)
      = omega (
        arith,
        length-append (heard_before t) (heard_control r l t y),
        length-bits_in (6 * t.done) t.sequence,
        length-heard_control r l t y e,
      ) in
      record {
        silent = rw (e, ne_eqb t.done 15 (λ q. omega arith));
        done = rw (e, z);
        before = rw (e, z)
            (ap (bits_in (6 * (t.done + 1))) (sym (append-nil (bytes_of 12 (nth bs))))
            ∙ bits_written (6 * (t.done + 1)) 12 bs [] n (omega arith));
        lost = rw (e, z, ne_eqb (t.done + 1) 0 (λ q. omega arith)) (and-true _);
      }

  -- and one that does
  last : (t : LineState) (y : Incoming) → controls t y.control ≡ true → t.done ≡ 15
      → said_in r l t y ≡ judged (not (good r l y.octets) || lost_before t) (nth (heard_before t ++ heard_control r l t y)) ∷ []
  unfolding said_in sequence_so_far lost_so_far
  last t y e h = rw (e, eq-eqb t.done 15 h)

  -- where no control bit is received nothing is said, and nothing is lost
  silence : (t : LineState) (ys : List Incoming) → length (joined (heard_in t ys)) ≡ 0
      → (joined (said_over t ys) ≡ []) × (lost_in t ys ≡ false)
  unfolding joined each
  silence t [] n = (refl, refl)
  silence t (y ∷ ys) n = go (controls t y.control) refl (silence (receive_next r l t y) ys)
    where
      rest : List Bool
      rest = joined (heard_in (receive_next r l t y) ys)

      go : (b : Bool) → controls t y.control ≡ b
          → (length rest ≡ 0 → (joined (said_over (receive_next r l t y) ys) ≡ []) × (lost_in (receive_next r l t y) ys ≡ false))
          → (said_in r l t y ++ joined (said_over (receive_next r l t y) ys) ≡ []) × (lost_in t (y ∷ ys) ≡ false)
      go true e ih = absurd (omega (arith, length-append (heard_control r l t y) rest, length-heard_control r l t y e))
      go false e ih =
          let k = ih (omega (arith, length-append (heard_control r l t y) rest)) in
          (ap₂ ◌++◌ (quiet t y e).silent k.0, rw e k.1)

  -- what is said of a sequence received whole: the verdict on its bits, and on its marked control frames
  pub told : (ys : List Incoming) (t : LineState) → t.done ≤ 15 → 6 * t.done + length (joined (heard_in t ys)) ≡ 96
      → joined (said_over t ys) ≡ judged (lost_before t || lost_in t ys) (nth (heard_before t ++ joined (heard_in t ys))) ∷ []
  unfolding joined each
  told [] t d n = absurd (omega arith)
  told (y ∷ ys) t d n = go (controls t y.control) refl (dec_eq t.done 15) (told ys (receive_next r l t y))
    where
      next : LineState
      next = receive_next r l t y

      six : List Bool
      six = heard_control r l t y

      rest : List Bool
      rest = joined (heard_in next ys)

      bad : Bool
      bad = not (good r l y.octets)

      one : Bool → List Bool → List Said
      one lost bs = judged lost (nth bs) ∷ []

      -- with what the frames after y add
      rested : Bool → List Bool → List Said
      rested lost bs = one (lost || lost_in next ys) (bs ++ rest)

      turned : (a b c : Bool) → a || b || c ≡ b || (a || c)
      turned a b c = ap (λ (x : Bool). x || c) (or_comm a b) ∙ or_assoc b a c

      go : (b : Bool) → controls t y.control ≡ b → Dec (t.done ≡ 15)
          → (next.done ≤ 15 → 6 * next.done + length rest ≡ 96 → joined (said_over next ys) ≡ rested (lost_before next) (heard_before next))
          → said_in r l t y ++ joined (said_over next ys) ≡ one (lost_before t || lost_in t (y ∷ ys)) (heard_before t ++ (six ++ rest))
      go false e z ih =
          let q = quiet t y e in
          rw (e, q.none, q.silent)
          (ih (omega (arith, q.done)) (omega (arith, q.done, ap length q.none, length-append six rest))
          ∙ ap₂ rested q.lost q.before)
      go true e (yes z) ih =
          let none : length rest ≡ 0 = omega (arith, length-append six rest, length-heard_control r l t y e) in
          let k = silence next ys none in
          rw (e, k.0, k.1, no_bits rest none, append-nil six, append-nil (said_in r l t y), or-false bad, or_comm (lost_before t) bad)
          (last t y e z)
      go true e (no z) ih =
          let m = more t y e (omega arith) in
          rw (e, m.silent)
          (ih (omega (arith, m.done)) (omega (arith, m.done, length-append six rest, length-heard_control r l t y e))
          ∙ ap₂ rested m.lost m.before
          ∙ ap₂ one (turned bad (lost_before t) (lost_in next ys)) (append_assoc (heard_before t) six rest))

  -- one that starts with the first of these frames
  pub told_whole : (ys : List Incoming) (t : LineState) → t.done ≡ 0 → length (joined (heard_in t ys)) ≡ 96
      → joined (said_over t ys) ≡ judged (lost_in t ys) (nth (joined (heard_in t ys))) ∷ []
  told_whole ys t z n =
      let none : heard_before t ≡ [] = no_bits (heard_before t) (omega (arith, length-bits_in (6 * t.done) t.sequence)) in
      let kept : lost_before t ≡ false = rw (eq-eqb t.done 0 z) (and-false t.lost) in
      told ys t (omega arith) (omega arith)
      ∙ ap₂ (λ (x : Bool) (bs : List Bool). judged (x || lost_in t ys) (nth (bs ++ joined (heard_in t ys))) ∷ []) kept none

  -- frame i has control bits and is marked
  pub lost_some : (i : ℕ) (t : LineState) (ys : List Incoming) (y₀ : Incoming) → i < length ys → zero < length (get_or (heard_in t ys) i [])
      → good r l (get_or ys i y₀).octets ≡ false → lost_in t ys ≡ true
  unfolding each
  lost_some i t [] y₀ h n g = absurd (not-suc-le-zero h)
  lost_some (suc i) t (y ∷ ys) y₀ h n g =
      rw (lost_some i (receive_next r l t y) ys y₀ (omega arith) n g) (or-true (controls t y.control && not (good r l y.octets)))
  lost_some zero t (y ∷ ys) y₀ h n g = go (controls t y.control) refl
    where
      go : (b : Bool) → controls t y.control ≡ b → lost_in t (y ∷ ys) ≡ true
      go true e = rw (e, g)
      go false e = absurd (omega (arith, ap length (quiet t y e).none))

  -- each that has control bits is good
  pub lost-none : (t : LineState) (ys : List Incoming) (y₀ : Incoming)
      → ((i : ℕ) → i < length ys → zero < length (get_or (heard_in t ys) i []) → good r l (get_or ys i y₀).octets ≡ true) → lost_in t ys ≡ false
  unfolding each
  lost-none t [] y₀ o = refl
  lost-none t (y ∷ ys) y₀ o = go (controls t y.control) refl (lost-none (receive_next r l t y) ys y₀ (λ i h. o (suc i) (omega arith)))
    where
      go : (b : Bool) → controls t y.control ≡ b → lost_in (receive_next r l t y) ys ≡ false → lost_in t (y ∷ ys) ≡ false
      go true e ih = rw (e, o 0 (omega arith) (omega (arith, length-heard_control r l t y e)), ih)
      go false e ih = rw (e, ih)

-- ---- the sender

list_from-add : {X : Type 0} (f : ℕ → X) (i a b : ℕ) → list_from f i (a + b) ≡ list_from f i a ++ list_from f (i + a) b
unfolding list_from
list_from-add f i zero b = ap₂ (λ (x y : ℕ). list_from f x y) (sym (add-zero i)) (zero-add b)
list_from-add {X} f i (suc a) b =
    ap (list_from f i) (suc-add a b)
    ∙ ap (λ (x : List X). f i ∷ x)
    (list_from-add f (suc i) a b ∙ ap (λ (k : ℕ). list_from f (suc i) a ++ list_from f k b) (suc-add i a ∙ sym (add-suc i a)))

abbrev pub sent_in : LineState → List Outgoing → List (List Bool)
sent_in = each control_bits send_next

-- a frame that is no control frame
pub record QuietOut (s : LineState) (f : Outgoing) : Type 0 where
  pub none : control_bits s f ≡ []
  pub done : (send_next s f).done ≡ s.done
  pub sequence : (send_next s f).sequence ≡ s.sequence

pub quiet_out : (s : LineState) (f : Outgoing) → controls s f.control ≡ false → QuietOut s f
unfolding control_bits send_next sequence_sent
quiet_out s f e = record { none = rw e; done = rw e; sequence = rw e }

-- a control frame of the sequence X
record MoreOut (s : LineState) (f : Outgoing) (X : List ℕ) : Type 0 where
  pub six : control_bits s f ≡ list_from (bit_at X) (6 * s.done) 6
  pub done : (send_next s f).done ≡ (s.done + 1) % 16
  pub sequence : (send_next s f).sequence ≡ X

more_out : (s : LineState) (f : Outgoing) (X : List ℕ) → controls s f.control ≡ true → sequence_sent s f ≡ X → MoreOut s f X
unfolding control_bits send_next
more_out s f X e k = record { six = rw (e, k); done = rw e; sequence = k }

pub six_sent : (s : LineState) (f : Outgoing) → controls s f.control ≡ true → length (control_bits s f) ≡ 6
unfolding control_bits
six_sent s f e = rw e (length-list_from (bit_at (sequence_sent s f)) (6 * s.done) 6)

-- within a sequence it is the one in the state
within : (s : LineState) (f : Outgoing) → zero < s.done → sequence_sent s f ≡ s.sequence
unfolding sequence_sent
within s f h = rw (ne_eqb s.done 0 (λ q. omega arith), and-false (controls s f.control))

-- the rest of a sequence under way
sent-rest : (fs : List Outgoing) (s : LineState) (n : ℕ) → zero < s.done → s.done ≤ 15 → length (joined (sent_in s fs)) ≡ n
    → 6 * s.done + n ≡ 96 → joined (sent_in s fs) ≡ list_from (bit_at s.sequence) (6 * s.done) n
unfolding joined each
sent-rest [] s n a d e m = absurd (omega arith)
sent-rest (f ∷ fs) s n a d e m = go (controls s f.control) refl (dec_eq s.done 15) (sent-rest fs (send_next s f))
  where
    X : List ℕ
    X = s.sequence

    next : LineState
    next = send_next s f

    rest : List Bool
    rest = joined (sent_in next fs)

    go : (b : Bool) → controls s f.control ≡ b → Dec (s.done ≡ 15)
        → ((n : ℕ) → zero < next.done → next.done ≤ 15 → length rest ≡ n → 6 * next.done + n ≡ 96
        → rest ≡ list_from (bit_at next.sequence) (6 * next.done) n)
        → control_bits s f ++ rest ≡ list_from (bit_at X) (6 * s.done) n
    go false b z ih =
        let q = quiet_out s f b in
        rw q.none
        (ih n (omega (arith, q.done)) (omega (arith, q.done)) (omega (arith, ap length q.none, length-append (control_bits s f) rest))
        (omega (arith, q.done))
        ∙ ap₂ (λ (x : List ℕ) (k : ℕ). list_from (bit_at x) (6 * k) n) q.sequence q.done)
    go true b (yes z) ih =
        let q = more_out s f X b (within s f a) in
        let none : length rest ≡ 0 = omega (arith, length-append (control_bits s f) rest, six_sent s f b) in
        let n6 : n ≡ 6 = omega arith in
        rw (no_bits rest none, append-nil (control_bits s f), n6) q.six
    go true b (no z) ih =
        let q = more_out s f X b (within s f a) in
        let at : next.done ≡ s.done + 1 = omega (arith, q.done) in
        let many : n ≡ 6 + length rest = omega (arith, length-append (control_bits s f) rest, six_sent s f b) in
        let place : 6 * next.done ≡ 6 * s.done + 6 = omega arith in
        rw many
        (ap₂ ◌++◌ q.six
        (ih (length rest) (omega (arith, at)) (omega (arith, at)) refl (omega (arith, at))
        ∙ ap₂ (λ (x : List ℕ) (k : ℕ). list_from (bit_at x) k (length rest)) q.sequence place)
        ∙ sym (list_from-add (bit_at X) (6 * s.done) 6 (length rest)))

-- its bytes hold its bits
bytes-bit : (v k : ℕ) → k < 96 → bit_at (sequence_bytes v) k ≡ sequence_bit v k
unfolding sequence_bytes
bytes-bit v k h =
    ap (λ (x : List ℕ). bit_at x k) (sym (append-nil (bytes_of 12 (sequence_bit v)))) ∙ bit_at-bytes 12 (sequence_bit v) [] k (omega arith)

-- a sequence that the first of these frames starts is sent whole
pub sent-whole : (s : LineState) (f : Outgoing) (fs : List Outgoing) → starts_in s f.control ≡ true
    → length (joined (sent_in s (f ∷ fs))) ≡ 96 → joined (sent_in s (f ∷ fs)) ≡ list_from (sequence_bit f.sequence) 0 96
unfolding joined each sequence_sent
sent-whole s f fs e n =
    let X = sequence_bytes f.sequence in
    let both = and_both (controls s f.control) (eqb s.done 0) e in
    let z : s.done ≡ 0 = eqb-true s.done 0 both.1 in
    let q = more_out s f X both.0 (rw e) in
    let at : (send_next s f).done ≡ 1 = q.done ∙ ap (λ (x : ℕ). (x + 1) % 16) z in
    let rest = joined (sent_in (send_next s f) fs) in
    let many : length rest ≡ 90 = omega (arith, length-append (control_bits s f) rest, six_sent s f both.0) in
    ap₂ ◌++◌ (q.six ∙ ap (λ (x : ℕ). list_from (bit_at X) (6 * x) 6) z)
    (sent-rest fs (send_next s f) 90 (omega arith) (omega arith) many (omega arith)
    ∙ ap₂ (λ (x : List ℕ) (k : ℕ). list_from (bit_at x) (6 * k) 90) q.sequence at)
    ∙ sym (list_from-add (bit_at X) 0 6 90)
    ∙ list_from_ext (bit_at X) (sequence_bit f.sequence) 96 (bytes-bit f.sequence)
