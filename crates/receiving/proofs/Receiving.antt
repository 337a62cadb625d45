-- A frame received: what the parts of the code give is what the definition says. Assumes nothing.
use mathlib.Core.Path.{◌≡◌, refl, sym, ap, ap₂, ◌∙◌}
use Prim.Native.Nat.{ℕ, ◌+◌, ◌*◌, ◌/◌, ◌%◌}
use mathlib.Core.Bool.{Bool, true, false, cond, not, ◌&&◌, ◌||◌}
use mathlib.Core.List.{List, [], ◌++◌}
use native.Mathlib.Omega.{arith}
use lib.Dec.{eqb}
use lib.ListN.{length, take, drop, replicate, length-drop}
use Rattle.standard.specs.Bits.{bits_in, bytes_of, nth, number_of, bits_of}
use Rattle.standard.specs.Record.{K, D}
use Rattle.standard.specs.Scrambler.{push_all, descramble}
use Rattle.standard.specs.Frame.{is_control, next_place, width, sign_at, good, heard_bits, Incoming, heard_control, heard_data, receive_frame}
use Rattle.standard.specs.Frame.{sequence_so_far, lost_so_far, doubtful_after, receive_next, six_in}
use Rattle.standard.specs.declared.Law.{Law}
use Rattle.standard.specs.declared.LineState.{LineState}
use Rattle.standard.specs.declared.Record.{Record}
use Rattle.standard.proofs.Bits.{bits_back}
use Rattle.standard.proofs.Frame.{same-state, length-heard_bits}
use Rattle.standard.proofs.Words.{bits_ext, number-take, number-drop, zero_number}
use Rattle.bits.proofs.Bits.{low_bit}
use Rattle.mapping.specs.declared.Mapping.{Mapping}
use Rattle.mapping.specs.Tables.{mapping_of}
use Rattle.frame.specs.declared.Carried.{Carried}
use Rattle.coding.specs.Past.{turned}
use Rattle.frame.specs.Parts.{state_of}
use Rattle.coding.proofs.Stream.{turned_lt, from_past}

-- ---- a frame received in the carried state x with the sequence's bits bs; h is the number of its bits on the line

module _ (r : Record) (l : Law) (os : List ℕ) (m : Mapping) (em : m ≡ mapping_of r) (x : Carried) (on : Bool) (bs : List ℕ) (h : ℕ)
    (eh : h ≡ number_of (heard_bits r l x.sign os)) (ctl : Bool) (et : ctl ≡ is_control on x.place) where
  abbrev pub at : LineState
  at = state_of x bs

  abbrev pub y : Incoming
  y = six_in on os

  abbrev hs : List Bool
  hs = heard_bits r l x.sign os

  long_hs : length hs ≡ D r
  long_hs = length-heard_bits r l x.sign os

  -- the bits that carry data, as code takes them
  split : (b : Bool) (k d : ℕ) → k ≡ width r b → d ≡ cond b (h / 64) h → bits_of k d ≡ cond b (drop 6 hs) hs
  split true k d ek ed =
      let long : length (drop 6 hs) ≡ K r = omega (arith, length-drop 6 hs, long_hs) in
      ap₂ bits_of ek (ed ∙ ap (λ (z : ℕ). z / 64) eh ∙ number-drop 6 hs) ∙ bits_back (K r) (drop 6 hs) long
  split false k d ek ed = ap₂ bits_of ek (ed ∙ eh) ∙ bits_back (D r) hs long_hs

  -- k is the frame's data bits
  module _ (k : ℕ) (ek : k ≡ cond ctl m.k m.d) where
    width_is : k ≡ width r ctl
    width_is = ek ∙ ap (λ (z : Mapping). cond ctl z.k z.d) em

    pub data_bits_lem : (d : ℕ) → d ≡ cond ctl (h / 64) h → bits_of k d ≡ heard_data r l at y
    unfolding heard_data
    data_bits_lem d ed = split ctl k d width_is ed ∙ ap (λ (b : Bool). cond b (drop 6 hs) hs) et

    pub received-bits : (isGood : Bool) → isGood ≡ good r l os → (w : ℕ) → w ≡ number_of (descramble at.history (heard_data r l at y))
        → cond isGood w 0 ≡ number_of (receive_frame r l at y)
    unfolding receive_frame
    received-bits isGood eg w ew = ap₂ (λ (b : Bool) (z : ℕ). cond b z 0) eg ew ∙ go (good r l os)
      where
        go : (b : Bool)
            → cond b (number_of (descramble at.history (heard_data r l at y))) 0
            ≡ number_of (cond b (descramble at.history (heard_data r l at y)) (replicate (width r (is_control on x.place)) false))
        go true = refl
        go false = sym (zero_number (width r (is_control on x.place)))

    -- the six control bits, as code keeps them
    six_kept : (b : Bool) → cond b (bytes_of 12 (nth (bits_in (6 * x.done) bs ++ bits_of 6 (h % 64)))) bs
        ≡ cond b (bytes_of 12 (nth (bits_in (6 * x.done) bs ++ cond b (take 6 hs) []))) bs
    six_kept true =
        ap (λ (z : List Bool). bytes_of 12 (nth (bits_in (6 * x.done) bs ++ z)))
        (bits_ext 6 (h % 64) h (low_bit 6 h) ∙ ap (bits_of 6) eh ∙ number-take 6 hs (omega (arith, long_hs)))
    six_kept false = refl

    lost_is : (b c isGood lost : Bool)
        → cond b (not isGood || (lost && not c)) lost ≡ cond b (not isGood || (lost && not (b && c))) lost
    lost_is true c isGood lost = refl
    lost_is false c isGood lost = refl

    pub received-state : (z : Carried) (cs : List ℕ) (isGood : Bool) → isGood ≡ good r l os
        → z.past ≡ turned (push_all at.history (heard_data r l at y)) → z.sign ≡ sign_at os 5
        → z.doubtful ≡ doubtful_after k isGood x.doubtful → z.place ≡ next_place on x.place
        → z.done ≡ cond ctl ((x.done + 1) % 16) x.done
        → z.lost ≡ cond ctl (not isGood || (x.lost && not (eqb x.done 0))) x.lost
        → cs ≡ cond ctl (bytes_of 12 (nth (bits_in (6 * x.done) bs ++ bits_of 6 (h % 64)))) bs
        → state_of z cs ≡ receive_next r l at y
    unfolding receive_next lost_so_far sequence_so_far heard_control
    received-state z cs isGood eg ep es ed el en eb ec =
        same-state (state_of z cs) _
        (record {
          history = from_past at.history z.past (heard_data r l at y) (turned_lt x.past) ep;
          sign = es;
          doubtful = ed ∙ ap₂ (λ (w : ℕ) (b : Bool). doubtful_after w b x.doubtful) (width_is ∙ ap (width r) et) eg;
          place = el;
          done = en ∙ ap (λ (b : Bool). cond b ((x.done + 1) % 16) x.done) et;
          sequence =
              ec ∙ six_kept ctl
              ∙ ap (λ (b : Bool). cond b (bytes_of 12 (nth (bits_in (6 * x.done) bs ++ cond b (take 6 hs) []))) bs) et;
          lost =
              eb ∙ lost_is ctl (eqb x.done 0) isGood x.lost
              ∙ ap₂ (λ (b c : Bool). cond b (not c || (x.lost && not (b && eqb x.done 0))) x.lost) et eg;
        })
