-- Two receivers that meet good frames which differ in signs alone, the control channel off: their line states differ in some bits of the
-- history and perhaps in the last sign, and how follows from the signs alone. Assumes nothing.
use mathlib.Core.Path.{◌≡◌, refl, sym, ap, ap₂, ◌∙◌}
use Prim.Native.Nat.{ℕ, ◌+◌, ◌*◌, ◌^◌, ◌<◌}
use mathlib.Core.Bool.{Bool, true, false, not}
use mathlib.Core.List.{List, [], ◌∷◌, ◌++◌}
use native.Mathlib.Nat.{not-suc-le-zero}
use native.Mathlib.Omega.{arith}
use lib.Dec.{eqb, leb, lit<}
use lib.ListN.{length, replicate, length-append, length-replicate}
use Rattle.standard.specs.Lists.{list_from, joined, each, after}
use Rattle.standard.specs.First.{Test, test, first}
use Rattle.standard.specs.Bits.{◌⊕◌, bits_of}
use Rattle.standard.specs.Record.{K, D}
use Rattle.standard.specs.Scrambler.{push, push_all, descramble}
use Rattle.standard.specs.Constellation.{member, label, sizes}
use Rattle.standard.specs.Modulus.{number}
use Rattle.standard.specs.Signs.{sign_bits}
use Rattle.standard.specs.Frame.{sign_at, ucode_at, received_number, outside_test, outside_tests, mark_tests, mark, good, heard_bits, Incoming}
use Rattle.standard.specs.Frame.{width, controls, heard_data, receive_frame, receive_next}
use Rattle.standard.specs.declared.Law.{Law}
use Rattle.standard.specs.declared.LineState.{LineState}
use Rattle.standard.specs.declared.Record.{Record}
use Rattle.standard.proofs.Lists.{length-list_from, list_from_ext, after_keeps}
use Rattle.standard.proofs.Signs.{length-sign_bits}
use Rattle.standard.proofs.Scrambler.{length-descramble, push-lt, push_all-lt}
use Rattle.standard.proofs.Frame.{same-state, length-heard_bits, length-receive_frame}
use Rattle.theorems_flip.proofs.Linear.{xor_false, mix, mix_zeros, mix_append, signs_linear, Mixed, history_linear}
use Rattle.theorems_flip.proofs.Linear.{descramble_linear, mixed_none, none_mixed}

-- ---- what is the other way: of a frame of k + 6 bits the signs where u holds

-- of the history and the last sign
pub record Errors : Type 0 where
  pub history : ℕ
  pub sign : Bool

-- of the frame's bits on the line, of its data bits, and after it
abbrev pub line_errors : ℕ → Errors → (ℕ → Bool) → List Bool
line_errors k x u = sign_bits x.sign (list_from u 0 6) ++ replicate k false

abbrev pub bit_errors : ℕ → Errors → (ℕ → Bool) → List Bool
bit_errors k x u = descramble x.history (line_errors k x u)

abbrev pub next_errors : ℕ → Errors → (ℕ → Bool) → Errors
next_errors k x u = record { history = push_all x.history (line_errors k x u); sign = u 5 }

length_line_errors : (k : ℕ) (x : Errors) (u : ℕ → Bool) → length (line_errors k x u) ≡ k + 6
length_line_errors k x u =
    let ts = list_from u 0 6 in
    omega (
      arith,
      length-append (sign_bits x.sign ts) (replicate k false),
      length-sign_bits x.sign ts,
      length-list_from u 0 6,
      length-replicate k false,
    )

length_bit_errors : (k : ℕ) (x : Errors) (u : ℕ → Bool) → length (bit_errors k x u) ≡ k + 6
length_bit_errors k x u = length-descramble x.history (line_errors k x u) ∙ length_line_errors k x u

-- ---- one frame

-- the Ucodes of six octets are the same, and so are their signs but for those where u holds
pub record Turned (l : Law) (u : ℕ → Bool) (os os' : List ℕ) : Type 0 where
  pub ucodes : (j : ℕ) → j < 6 → ucode_at l os' j ≡ ucode_at l os j
  pub signs : (j : ℕ) → j < 6 → sign_at os' j ≡ sign_at os j ⊕ u j

abbrev pub no_sign : ℕ → Bool
no_sign j = false

turned_none : (l : Law) (os : List ℕ) → Turned l no_sign os os
turned_none l os = record { ucodes = λ j h. refl; signs = λ j h. sym (xor_false (sign_at os j)) }

module _ (r : Record) (l : Law) {u : ℕ → Bool} {os os' : List ℕ} (t : Turned l u os os') where
  number_same : received_number r l os' ≡ received_number r l os
  unfolding received_number
  number_same =
      ap (number (sizes r))
      (list_from_ext (λ i. label r i (ucode_at l os' i)) (λ i. label r i (ucode_at l os i)) 6 (λ j h. ap (label r j) (t.ucodes j h)))

  -- 'No mark changes.'
  pub mark-same : mark r l os' ≡ mark r l os
  unfolding mark mark_tests outside_tests outside_test
  mark-same =
      ap₂ (λ (ts : List Test) (n : ℕ). (first (ts ++ (test 7 (leb (2 ^ K r) n) ∷ []))).number)
      (list_from_ext (outside_test r l os') (outside_test r l os) 6
      (λ j h. ap (λ (x : ℕ). test (j + 1) (not (member r j x))) (t.ucodes j h)))
      number_same

  good-same : good r l os' ≡ good r l os
  good-same = ap (λ (n : ℕ). eqb n 0) mark-same

  signs_mixed : list_from (sign_at os') 0 6 ≡ mix (list_from (sign_at os) 0 6) (list_from u 0 6)
  unfolding list_from
  signs_mixed = list_from_ext (sign_at os') (λ j. sign_at os j ⊕ u j) 6 t.signs

  heard_mixed : (g : Bool) (x : Errors) → good r l os ≡ true
      → heard_bits r l (g ⊕ x.sign) os' ≡ mix (heard_bits r l g os) (line_errors (K r) x u)
  unfolding heard_bits
  heard_mixed g x k =
      let ts = list_from (sign_at os) 0 6 in
      let us = list_from u 0 6 in
      let ns = bits_of (K r) (received_number r l os) in
      let six : length ts ≡ length us = length-list_from (sign_at os) 0 6 ∙ sym (length-list_from u 0 6) in
      rw (good-same, k, number_same)
      (ap (λ (b : List Bool). b ++ ns) (ap (sign_bits (g ⊕ x.sign)) signs_mixed ∙ signs_linear g x.sign ts us six)
      ∙ ap (λ (b : List Bool). mix (sign_bits g ts) (sign_bits x.sign us) ++ b) (sym (mix_zeros ns (K r)))
      ∙ sym (mix_append (sign_bits g ts) ns (sign_bits x.sign us) (replicate (K r) false)
      (length-sign_bits g ts ∙ six ∙ sym (length-sign_bits x.sign us))))

-- two line states that differ so
pub record Apart (x : Errors) (s s' : LineState) : Type 0 where
  pub history : Mixed x.history s.history s'.history
  pub sign : s'.sign ≡ s.sign ⊕ x.sign
  pub doubtful : s'.doubtful ≡ s.doubtful
  pub place : s'.place ≡ s.place
  pub done : s'.done ≡ s.done
  pub sequence : s'.sequence ≡ s.sequence
  pub lost : s'.lost ≡ s.lost

-- a good frame with the channel off
pub record Plain (r : Record) (l : Law) (y : Incoming) : Type 0 where
  pub good : good r l y.octets ≡ true
  pub off : y.control ≡ false

module _ (r : Record) (l : Law) where
  data_off : (st : LineState) (y : Incoming) → y.control ≡ false → heard_data r l st y ≡ heard_bits r l st.sign y.octets
  unfolding heard_data
  data_off st y e = rw e

  module _ (x : Errors) (s s' : LineState) (a : Apart x s s') (u : ℕ → Bool) (y y' : Incoming) (p : Plain r l y)
      (t : Turned l u y.octets y'.octets) (off : y'.control ≡ false) where
    data_mixed : heard_data r l s' y' ≡ mix (heard_data r l s y) (line_errors (K r) x u)
    data_mixed =
        data_off s' y' off ∙ ap (λ (g : Bool). heard_bits r l g y'.octets) a.sign ∙ heard_mixed r l t s.sign x p.good
        ∙ ap (λ (bs : List Bool). mix bs (line_errors (K r) x u)) (sym (data_off s y p.off))

    long : length (heard_data r l s y) ≡ length (line_errors (K r) x u)
    long =
        ap length (data_off s y p.off) ∙ length-heard_bits r l s.sign y.octets ∙ sym (length_line_errors (K r) x u)

    frame_mixed : receive_frame r l s' y' ≡ mix (receive_frame r l s y) (bit_errors (K r) x u)
    unfolding receive_frame
    frame_mixed =
        rw (good-same r l t, p.good, data_mixed)
        (descramble_linear x.history s.history s'.history (heard_data r l s y) (line_errors (K r) x u) long a.history)

    pub next-apart : Apart (next_errors (K r) x u) (receive_next r l s y) (receive_next r l s' y')
    unfolding receive_next
    next-apart =
        record {
          history = rw data_mixed
              (history_linear x.history s.history s'.history (heard_data r l s y) (line_errors (K r) x u) long a.history);
          sign = t.signs 5 (lit< tt);
          doubtful = rw (good-same r l t, off, p.off, a.doubtful);
          place = rw (off, p.off, a.place);
          done = rw (off, p.off, a.done);
          sequence = rw (off, p.off, a.sequence);
          lost = rw (off, p.off, a.lost);
        }

    -- and frames after it
    pub more_mixed : (bs bs' es : List Bool) → bs' ≡ mix bs es
        → receive_frame r l s' y' ++ bs' ≡ mix (receive_frame r l s y ++ bs) (bit_errors (K r) x u ++ es)
    more_mixed bs bs' es e =
        ap₂ ◌++◌ frame_mixed e
        ∙ sym (mix_append (receive_frame r l s y) bs (bit_errors (K r) x u) es
        (length-receive_frame r l s y ∙ ap (λ (b : Bool). width r (controls s b)) p.off ∙ sym (length_bit_errors (K r) x u)))

  -- ---- the same frames to both

  abbrev pub AllPlain : List Incoming → Type 0
  AllPlain [] = Unit {0}
  AllPlain (y ∷ ys) = Plain r l y × AllPlain ys

  pub frames_mixed : (x : Errors) (s s' : LineState) (ys : List Incoming) → Apart x s s' → AllPlain ys
      → joined (each (receive_frame r l) (receive_next r l) s' ys)
      ≡ mix (joined (each (receive_frame r l) (receive_next r l) s ys))
      (joined (each (bit_errors (K r)) (next_errors (K r)) x (replicate (length ys) no_sign)))
  unfolding joined each
  frames_mixed x s s' [] a p = refl
  frames_mixed x s s' (y ∷ ys) a p =
      let t = turned_none l y.octets in
      more_mixed x s s' a no_sign y y p.0 t p.0.off _ _ _
      (frames_mixed (next_errors (K r) x no_sign) (receive_next r l s y) (receive_next r l s' y) ys
      (next-apart x s s' a no_sign y y p.0 t p.0.off) p.1)

  pub frames-apart : (x : Errors) (s s' : LineState) (ys : List Incoming) → Apart x s s' → AllPlain ys
      → Apart (after (next_errors (K r)) x (replicate (length ys) no_sign)) (after (receive_next r l) s ys) (after (receive_next r l) s' ys)
  unfolding after
  frames-apart x s s' [] a p = a
  frames-apart x s s' (y ∷ ys) a p =
      frames-apart (next_errors (K r) x no_sign) (receive_next r l s y) (receive_next r l s' y) ys
      (next-apart x s s' a no_sign y y p.0 (turned_none l y.octets) p.0.off) p.1

  -- D data bits each
  pub frames-long : (s : LineState) (ys : List Incoming) → AllPlain ys
      → length (joined (each (receive_frame r l) (receive_next r l) s ys)) ≡ length ys * D r
  unfolding joined each
  frames-long s [] p = omega arith
  frames-long s (y ∷ ys) p =
      let bs = joined (each (receive_frame r l) (receive_next r l) (receive_next r l s y) ys) in
      omega (
        arith,
        length-append (receive_frame r l s y) bs,
        length-receive_frame r l s y ∙ ap (λ (b : Bool). width r (controls s b)) p.0.off,
        frames-long (receive_next r l s y) ys p.1,
      )

  -- ---- states that differ in nothing

  -- a frame leaves a history of 23 bits
  next_small : (s : LineState) (y : Incoming) → y.control ≡ false → (receive_next r l s y).history < 2 ^ 23
  unfolding receive_next push_all
  next_small s y e =
      rw (data_off s y e)
      (go (heard_bits r l s.sign y.octets) (omega (arith, length-heard_bits r l s.sign y.octets)))
    where
      go : (ss : List Bool) → 0 < length ss → push_all s.history ss < 2 ^ 23
      go [] k = absurd (not-suc-le-zero k)
      go (b ∷ ss) k = push_all-lt (push s.history b) ss (push-lt s.history b)

  pub after_small : (s : LineState) (y : Incoming) (ys : List Incoming) → y.control ≡ false
      → (after (receive_next r l) (receive_next r l s y) ys).history < 2 ^ 23
  unfolding receive_next
  after_small s y ys e =
      after_keeps (receive_next r l) (λ z. z.history < 2 ^ 23) (λ z x. push_all-lt z.history (heard_data r l z x)) (receive_next r l s y) ys
      (next_small s y e)

-- nothing is the other way
abbrev pub none : Errors
none = record { history = 0; sign = false }

pub apart_none : (s : LineState) → Apart none s s
apart_none s =
    record {
      history = mixed_none s.history;
      sign = sym (xor_false s.sign);
      doubtful = refl;
      place = refl;
      done = refl;
      sequence = refl;
      lost = refl;
    }

pub none_apart : (s s' : LineState) → Apart none s s' → s.history < 2 ^ 23 → s'.history < 2 ^ 23 → s' ≡ s
none_apart s s' a h h' =
    same-state s' s
    (record {
      history = none_mixed s.history s'.history a.history h h';
      sign = a.sign ∙ xor_false s.sign;
      doubtful = a.doubtful;
      place = a.place;
      done = a.done;
      sequence = a.sequence;
      lost = a.lost;
    })
