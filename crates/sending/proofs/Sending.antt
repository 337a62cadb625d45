-- A frame sent: what the parts of the code give is what the definition says. Assumes nothing.
use mathlib.Core.Path.{◌≡◌, refl, sym, ap, ap₂, ◌∙◌}
use Prim.Native.Nat.{ℕ, ◌+◌, ◌*◌, ◌/◌, ◌%◌, ◌^◌, ◌<◌}
use mathlib.Core.Bool.{Bool, true, false, cond, not, ◌&&◌}
use mathlib.Core.List.{List, [], ◌++◌}
use native.Mathlib.Nat.{mod-eq_of_lt, le_trans}
use native.Mathlib.Omega.{arith}
use Rattle.std.specs.Prelude.{Option, Some, None}
use lib.Dec.{eqb}
use lib.ListN.{length, get_or, take, drop, length-drop}
use Rattle.standard.specs.Lists.{list_from}
use Rattle.standard.specs.Bits.{bit, bit_at, field, nth, number_of, bits_of}
use Rattle.standard.specs.Record.{K, D}
use Rattle.standard.specs.Scrambler.{push_all, scramble}
use Rattle.standard.specs.Constellation.{member, size, point, sizes}
use Rattle.standard.specs.Modulus.{product, labels}
use Rattle.standard.specs.Signs.{signs_of}
use Rattle.standard.specs.Octets.{octet}
use Rattle.standard.specs.Control.{sequence_bytes}
use Rattle.standard.specs.Frame.{is_control, next_place, width, Outgoing, sequence_sent, control_bits, line_bits, frame_signs, frame_labels}
use Rattle.standard.specs.Frame.{frame_octets, send_next}
use Rattle.standard.specs.declared.Law.{Law}
use Rattle.standard.specs.declared.LineState.{LineState}
use Rattle.standard.specs.declared.Record.{Record}
use Rattle.standard.proofs.Lists.{length-list_from, list_from_ext}
use Rattle.standard.proofs.Bits.{number_of-lt, length-bits_of, bits-field, field_lt}
use Rattle.standard.proofs.Signs.{length-signs_of}
use Rattle.standard.proofs.Modulus.{within-at, labels-within}
use Rattle.standard.proofs.Constellation.{point-lt}
use Rattle.standard.proofs.Frame.{same-state, length-sizes, line_wide}
use Rattle.standard.proofs.Words.{number_append, number_bit, number-take, number-drop, bits-number}
use Rattle.mapping.specs.declared.Mapping.{Mapping}
use Rattle.mapping.specs.Tables.{mapping_of}
use Rattle.mapping.proofs.Tables.{size-le, point_in}
use Rattle.frame.specs.declared.Carried.{Carried}
use Rattle.channel.specs.Line.{joined}
use Rattle.coding.specs.Past.{Scrambled}
use Rattle.frame.specs.Parts.{state_of}
use Rattle.sending.specs.Parts.{outgoing, Sendable, octet_in}
use Rattle.coding.proofs.Stream.{turned_lt, from_past}

number_lt : (k : ℕ) (ss : List Bool) → length ss ≡ k + 6 → number_of (drop 6 ss) < 2 ^ k
number_lt k ss e = let six : length (drop 6 ss) ≡ k = omega (arith, length-drop 6 ss) in rw (← six) (number_of-lt (drop 6 ss))

-- ---- a frame's D bits on the line as six octets, after the sign g; t is the number of the bits

module _ (r : Record) (l : Law) (m : Mapping) (vs : List ℕ) (ps : List (List ℕ)) (x : Carried) (s : Sendable r m vs ps x) (g : Bool)
    (ss : List Bool) (long : length ss ≡ D r) (t : ℕ) (line : t ≡ number_of ss) where
  below : t / 64 < product (sizes r)
  below = le_trans (rw (line, number-drop 6 ss) (number_lt (K r) ss long)) s.holds

  pub sent-below : t / 64 < product m.sizes
  sent-below = rw s.mapped below

  module _ (cs : List ℕ) (ec : cs ≡ labels m.sizes (t / 64)) where
    labels_from : cs ≡ labels (sizes r) (t / 64)
    labels_from = ec ∙ ap (λ (x : Mapping). labels x.sizes (t / 64)) s.mapped

    -- labels are below the sizes, and so below 128
    pub sent-small : (i : ℕ) → i < 6 → get_or cs i 0 < 128
    unfolding sizes list_from
    sent-small i h =
        let within = labels-within (size r 0) (list_from (size r) 1 5) (t / 64) below in
        let lt = within-at (sizes r) (labels (sizes r) (t / 64)) within i (omega (arith, length-sizes r)) in
        rw labels_from (omega (arith, lt, size-le r (mapping_of r) refl i))

    module _ (n : ℕ) (en : n ≡ number_of (signs_of g (bits_of 6 t))) where
      pub sent-sign : (i : ℕ) → i < 6 → bit n i ≡ nth (frame_signs g ss) i
      unfolding frame_signs
      sent-sign i h =
          let six : bits_of 6 t ≡ take 6 ss = ap (bits_of 6) line ∙ number-take 6 ss (omega (arith, long)) in
          ap (λ (x : ℕ). bit x i) en ∙ number_bit (signs_of g (bits_of 6 t)) i
          (omega (arith, length-signs_of g (bits_of 6 t), length-bits_of 6 t))
          ∙ ap (λ (bs : List Bool). nth (signs_of g bs) i) six

      ucode_is : (i : ℕ) → i < 6 → get_or (get_or ps i []) (get_or cs i 0) 0 % 128 ≡ point r i (get_or (frame_labels r ss) i 0)
      unfolding frame_labels
      ucode_is i h =
          ap (λ (u : ℕ). u % 128) (point_in r ps i h s.points (get_or cs i 0) (sent-small i h))
          ∙ mod-eq_of_lt (point-lt (member r i) 128 (get_or cs i 0) (omega arith))
          ∙ ap (λ (xs : List ℕ). point r i (get_or xs i 0))
          (labels_from ∙ ap (labels (sizes r)) (ap (λ (x : ℕ). x / 64) line ∙ number-drop 6 ss))

      pub sent-octets : (os : List ℕ) → os ≡ list_from (octet_in l ps cs n) 0 6 → os ≡ frame_octets r l g ss
      unfolding octet_in frame_octets
      sent-octets os eo =
          eo
          ∙ list_from_ext (octet_in l ps cs n) (λ i. octet l (nth (frame_signs g ss) i) (point r i (get_or (frame_labels r ss) i 0))) 6
          (λ i h. ap₂ (octet l) (sent-sign i h) (ucode_is i h))

-- ---- a frame of the lowest bits of a word, sent from the carried state x with the sequence's bits bs

-- six bits or none, and then others, as a number
with_six_lem : (b : Bool) (g : ℕ → Bool) (p : ℕ) (ds : List Bool)
    → joined (cond b (Some (field g p 6)) None) (number_of ds) ≡ number_of (cond b (list_from g p 6) [] ++ ds)
with_six_lem true g p ds =
    let bits = list_from g p 6 in
    let number : number_of bits ≡ field g p 6 = ap number_of (sym (bits-field g p 6)) ∙ bits-number 6 (field g p 6) (field_lt g p 6) in
    sym (number_append bits ds ∙ ap₂ (λ (a n : ℕ). a + 2 ^ n * number_of ds) number (length-list_from g p 6))
with_six_lem false g p ds = refl

-- whether a frame was lost, as code carries it
not-lost : (a b : Bool) → a && not b ≡ cond b false a
not-lost true true = refl
not-lost true false = refl
not-lost false true = refl
not-lost false false = refl

-- v is for a sequence that starts with the frame
module _ (r : Record) (l : Law) (m : Mapping) (vs : List ℕ) (ps : List (List ℕ)) (x : Carried) (s : Sendable r m vs ps x) (on : Bool)
    (v word : ℕ) (bs : List ℕ) where
  abbrev pub from : LineState
  from = state_of x bs

  abbrev pub f : Outgoing
  f = outgoing r on v x word

  pub sent-long : length (line_bits from f) ≡ D r
  sent-long = line_wide r l s.holds from f (length-bits_of (width r (is_control on x.place)) word)

  -- ctl tells a control frame, k is how many data bits it has, w the number of them scrambled, six that of the control bits, and cs are the
  -- sequence's bits afterwards
  module _ (ctl : Bool) (et : ctl ≡ is_control on x.place) (k : ℕ) (ek : k ≡ cond ctl m.k m.d) (w q : ℕ)
      (sent : Scrambled x.past word k w q) (six : Option ℕ) (cs : List ℕ) (kept : cs ≡ cond (ctl && eqb x.done 0) (sequence_bytes v) bs)
      (e6 : six ≡ cond ctl (Some (field (bit_at cs) (6 * x.done) 6)) None) where
    same_bits : scramble from.history (bits_of k word) ≡ scramble from.history f.bits
    same_bits =
        ap (λ (y : ℕ). scramble from.history (bits_of y word))
        (ek ∙ ap₂ (λ (b : Bool) (y : Mapping). cond b y.k y.d) et s.mapped)

    sequence_is : cs ≡ sequence_sent from f
    unfolding sequence_sent
    sequence_is = kept ∙ ap (λ (b : Bool). cond (b && eqb x.done 0) (sequence_bytes v) bs) et

    -- what code joins is the number of the bits on the line
    pub sent_line : (t : ℕ) → t ≡ joined six w → t ≡ number_of (line_bits from f)
    unfolding line_bits control_bits
    sent_line t e =
        let ds = scramble from.history f.bits in
        e ∙ ap₂ joined e6 (sent.out ∙ ap number_of same_bits) ∙ with_six_lem ctl (bit_at cs) (6 * x.done) ds
        ∙ ap₂ (λ (b : Bool) (y : List ℕ). number_of (cond b (list_from (bit_at y) (6 * x.done) 6) [] ++ ds)) et sequence_is

    pub sent-state : (y : Carried) → y.past ≡ q → y.sign ≡ nth (frame_signs x.sign (line_bits from f)) 5 → y.doubtful ≡ x.doubtful
        → y.place ≡ next_place on x.place → y.done ≡ cond ctl ((x.done + 1) % 16) x.done
        → y.lost ≡ (x.lost && not (ctl && eqb x.done 0))
        → state_of y cs ≡ send_next from f
    unfolding send_next
    sent-state y ep es ed el en eb =
        let pushed = from_past from.history y.past (scramble from.history (bits_of k word)) (turned_lt x.past) (ep ∙ sent.left)
        in
        same-state (state_of y cs) _
        (record {
          history = pushed ∙ ap (push_all from.history) same_bits;
          sign = es;
          doubtful = ed;
          place = el;
          done = en ∙ ap (λ (b : Bool). cond b ((x.done + 1) % 16) x.done) et;
          sequence = sequence_is;
          lost = eb ∙ not-lost x.lost (ctl && eqb x.done 0) ∙ ap (λ (b : Bool). cond (b && eqb x.done 0) false x.lost) et;
        })
