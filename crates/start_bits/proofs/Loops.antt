-- The loops' turns. Assumes nothing.
use mathlib.Core.Path.{◌≡◌, refl, sym, ap, ap₂, ◌∙◌}
use Prim.Native.Nat.{ℕ, suc, ◌+◌, ◌-◌, ◌^◌, ◌<◌}
use mathlib.Core.Bool.{Bool, false, not, ◌&&◌, beq}
use mathlib.Core.List.{List, [], ◌∷◌, ◌++◌, map, append-nil}
use native.Mathlib.Decide.{dec_lt}
use native.Mathlib.Nat.{not-suc-le-zero}
use native.Mathlib.Numerals.{add-one}
use native.Mathlib.Omega.{arith}
use borrow.Author.Tests.{lt-ltb, le-ltb}
use lib.Dec.{ltb, lit<}
use lib.ListN.{length, get_or, set, drop, length-set, length-append, length-map, drop_of_length-le, get_or-append}
use lib.ListN.{get_or-map, get_or-replicate}
use lib.Seq.{drop-cons, get_or-append-add}
use Rattle.standard.specs.Lists.{last_or}
use Rattle.standard.specs.Bits.{◌⊕◌, bit_at, bits_in, nth}
use Rattle.standard.specs.Scrambler.{taps, push, push_all}
use Rattle.standard.specs.Signs.{sign_bits}
use Rattle.standard.specs.Octets.{octet, sign_of}
use Rattle.standard.specs.Start.{with_line, end_of_cp, octets_for, left_by, bits_between, found_history, found_sign}
use Rattle.standard.specs.declared.Law.{Law}
use Rattle.standard.specs.declared.LineState.{LineState}
use Rattle.standard.proofs.Lists.{get_d_list, list_from_is}
use Rattle.standard.proofs.Bits.{length-bits_in}
use Rattle.standard.proofs.Filling.{listed_none, listed_more}
use Rattle.standard.proofs.Scrambler.{push-lt}
use Rattle.standard.proofs.Words.{xor-test}
use Rattle.standard.proofs.Start.{after_bit, octets-cons, left-cons, left-none, length-octets_for}
use Rattle.start_bits.specs.Loops.{Sending, Finding}

-- ---- bits sent

own-bit : (cp : List ℕ) (count n : ℕ) → n < count → get_or (bits_in count cp) n false ≡ bit_at cp n
unfolding bits_in
own-bit cp count n l = get_d_list (bit_at cp) false count n l

-- bit n of a CP of so many bits and E_s
pub bit-sent : (cp : List ℕ) (count n : ℕ) → n < count + 12 → ltb n count && bit_at cp n ≡ nth (bits_in count cp ++ end_of_cp) n
unfolding nth
bit-sent cp count n h = go (dec_lt n count)
  where
    go : Dec (n < count) → ltb n count && bit_at cp n ≡ get_or (bits_in count cp ++ end_of_cp) n false
    go (yes l) =
        let inside : n < length (bits_in count cp) = omega (arith, length-bits_in count cp) in
        rw (lt-ltb n count l) (sym (get_or-append (bits_in count cp) end_of_cp false n inside ∙ own-bit cp count n l))
    go (no l) =
        let at : length (bits_in count cp) + (n - count) ≡ n = omega (arith, length-bits_in count cp) in
        let few : n - count < 12 = omega arith in
        rw (le-ltb n count (omega arith))
        (sym (ap (λ (k : ℕ). get_or (bits_in count cp ++ end_of_cp) k false) (sym at)
        ∙ get_or-append-add (bits_in count cp) end_of_cp (n - count) false ∙ get_or-replicate 12 (n - count) false false few))

pub length-sent : (cp : List ℕ) (count : ℕ) → length (bits_in count cp ++ end_of_cp) ≡ count + 12
length-sent cp count = length-append (bits_in count cp) end_of_cp ∙ ap (λ (n : ℕ). n + 12) (length-bits_in count cp)

module _ (l : Law) (st : LineState) (bits : List Bool) (d : List ℕ) where
  abbrev whole : List ℕ
  whole = octets_for l st bits

  pub sending_none : st.history < 2 ^ 23 → Sending l st bits d d st.history st.sign 0
  sending_none h =
      record {
        few = omega arith;
        small = h;
        long = refl;
        left = refl;
        rest = refl;
        done = listed_none (λ k. get_or whole k 0) d;
      }

  module _ {octets : List ℕ} {h : ℕ} {g : Bool} {n : ℕ} (p : Sending l st bits d octets h g n) where
    -- bit n is b and the taps are x; the code has XOR as a test
    module _ (enough : n < length bits) (room : length d ≡ length bits) {b x : Bool} (eb : b ≡ nth bits n) (ex : x ≡ taps h) where
      abbrev scrambled : Bool
      scrambled = not (beq b x)

      abbrev turned : Bool
      turned = not (beq scrambled g)

      -- the bits from n on
      tail : drop n bits ≡ b ∷ drop (suc n) bits
      unfolding nth
      tail = drop-cons bits n false enough ∙ ap (λ (z : Bool). z ∷ drop (suc n) bits) (sym eb)

      pub sending_more : {h' v : ℕ} → h' ≡ push h scrambled → v ≡ octet l turned 66 → Sending l st bits d (set octets n v) h' turned (n + 1)
      sending_more {h'} {v} eh ev =
          let m = with_line st h g in
          let after = after_bit m b in
          let es : scrambled ≡ b ⊕ taps h = xor-test b x ∙ ap (λ (z : Bool). b ⊕ z) ex in
          let next : with_line st h' turned ≡ after =
          ap₂ (with_line st) (eh ∙ ap (push h) es) (xor-test scrambled g ∙ ap (λ (z : Bool). z ⊕ g) es) in
          let own : drop n whole ≡ get_or whole n 0 ∷ drop (suc n) whole = drop-cons whole n 0 (omega (arith, length-octets_for l st bits)) in
          let both : get_or whole n 0 ∷ drop (suc n) whole ≡ octet l after.sign 66 ∷ octets_for l after (drop (suc n) bits) =
          sym own ∙ p.rest ∙ ap (octets_for l m) tail ∙ octets-cons m b (drop (suc n) bits) l in
          record {
            few = omega arith;
            small = rw eh (push-lt h scrambled);
            long = length-set octets n v ∙ p.long;
            left =
                p.left ∙ ap (left_by m) tail ∙ left-cons m b (drop (suc n) bits)
                ∙ ap₂ (λ (z : LineState) (k : ℕ). left_by z (drop k bits)) (sym next) (sym (add-one n));
            rest =
                ap (λ (k : ℕ). drop k whole) (add-one n) ∙ ap (drop 1) both
                ∙ ap₂ (λ (z : LineState) (k : ℕ). octets_for l z (drop k bits)) (sym next) (sym (add-one n));
            done =
                listed_more (λ k. get_or whole k 0) d octets n v p.done (omega arith)
                (ev ∙ ap (λ (z : LineState). octet l z.sign 66) next ∙ sym (ap (λ (zs : List ℕ). get_or zs 0 0) both));
          }

    module _ (over : n ≡ length bits) (room : length d ≡ length bits) where
      none : drop n bits ≡ []
      none = drop_of_length-le bits {i = n} (omega arith)

      pub sending_left : with_line st h g ≡ left_by st bits
      sending_left = sym (p.left ∙ ap (left_by (with_line st h g)) none ∙ left-none (with_line st h g))

      pub sending_all : octets ≡ whole
      sending_all =
          let long : length whole ≡ n = length-octets_for l st bits ∙ sym over in
          p.done
          ∙ ap₂ (λ (a b : List ℕ). a ++ b) (sym (list_from_is (λ k. get_or whole k 0) 0 n whole long (λ k q. refl)))
          (drop_of_length-le d {i = n} (omega arith))
          ∙ append-nil whole

-- ---- octets looked at

module _ (os : List ℕ) where
  abbrev signs : List Bool
  signs = map sign_of os

  pub finding_first : 0 < length os → {g : Bool} → g ≡ sign_of (get_or os 0 0) → Finding os 0 g 1
  unfolding found_history found_sign bits_between last_or
  finding_first h {g} e = go os h e
    where
      go : (xs : List ℕ) → 0 < length xs → g ≡ sign_of (get_or xs 0 0) → Finding xs 0 g 1
      go [] z q = absurd (not-suc-le-zero z)
      go (x ∷ xs) z q = rw q (record { few = omega arith; small = lit< tt; history = refl; sign = refl })

  module _ {h : ℕ} {g : Bool} {k : ℕ} (p : Finding os h g k) where
    pub finding_more : k < length os → {t : Bool} → t ≡ sign_of (get_or os k 0) → {h' : ℕ} → h' ≡ push h (not (beq t g))
        → Finding os h' t (k + 1)
    unfolding push_all sign_bits last_or
    finding_more less {t} et {h'} ec =
        let eh : h' ≡ push h (t ⊕ g) = ec ∙ ap (push h) (xor-test t g) in
        let tail : drop k signs ≡ t ∷ drop (suc k) signs =
        drop-cons signs k (sign_of 0) (omega (arith, length-map os sign_of))
        ∙ ap (λ (x : Bool). x ∷ drop (suc k) signs) (get_or-map sign_of os k 0 ∙ sym et) in
        record {
          few = omega arith;
          small = rw eh (push-lt h (t ⊕ g));
          history =
              p.history ∙ ap (λ (xs : List Bool). push_all h (sign_bits g xs)) tail
              ∙ ap₂ (λ (x j : ℕ). push_all x (sign_bits t (drop j signs))) (sym eh) (sym (add-one k));
          sign = p.sign ∙ ap (last_or g) tail ∙ ap (λ (j : ℕ). last_or t (drop j signs)) (sym (add-one k));
        }

    pub finding_all : k ≡ length os → (h ≡ found_history os) × (g ≡ found_sign os)
    unfolding push_all sign_bits last_or
    finding_all over =
        let none : drop k signs ≡ [] = drop_of_length-le signs {i = k} (omega (arith, length-map os sign_of)) in (
          sym (p.history ∙ ap (λ (xs : List Bool). push_all h (sign_bits g xs)) none),
          sym (p.sign ∙ ap (last_or g) none),
        )
