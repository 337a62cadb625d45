-- Laws of a data frame, there and back, and of N frames. Assumes nothing.
use mathlib.Core.Path.{◌≡◌, refl, sym, ap, ◌∙◌}
use Prim.Native.Nat.{ℕ, zero, suc, ◌+◌, ◌*◌, ◌-◌, ◌/◌, ◌%◌, ◌^◌, ◌≤◌, ◌<◌}
use mathlib.Core.Bool.{Bool, true, false, cond, not}
use mathlib.Core.List.{List, [], ◌∷◌, ◌++◌, map-append}
use native.Mathlib.Nat.{le_trans, not-suc-le-zero, zero-add, suc-add}
use native.Mathlib.Omega.{arith}
use borrow.Author.Tests.{lt-leb, le-leb, ne_eqb}
use lib.Dec.{lit<, leb}
use lib.ListN.{length, get_or, take, drop, replicate, length-append, length-drop, length-map, length-replicate, take-append-drop}
use lib.Seq.{length-take-le, take_at, drop_at, drop-drop}
use Rattle.standard.specs.Lists.{list_from, parts, joined, each, after}
use Rattle.standard.specs.First.{Test, test}
use Rattle.standard.specs.Bits.{bit_at, bytes_of, nth, number_of, bits_of}
use Rattle.standard.specs.Record.{K, D}
use Rattle.standard.specs.Scrambler.{push_all, scramble}
use Rattle.standard.specs.Constellation.{member, size, label, point, sizes}
use Rattle.standard.specs.Modulus.{product, number}
use Rattle.standard.specs.Signs.{signs_of, sign_bits}
use Rattle.standard.specs.Octets.{octet, sign_of, ucode_of}
use Rattle.standard.specs.Control.{judged}
use Rattle.standard.specs.Frame.{is_control, next_place, width, data_bits, call_bits, controls, ends_in, Outgoing, sequence_sent}
use Rattle.standard.specs.Frame.{control_bits, line_bits, frame_signs, frame_labels, frame_octets, send_frame, send_next, sign_at, ucode_at}
use Rattle.standard.specs.Frame.{received_number, outside_test, outside_tests, mark_tests, mark, good, heard_bits, Incoming, heard_control}
use Rattle.standard.specs.Frame.{heard_data, receive_frame, sequence_so_far, lost_so_far, said_in, doubtful_after, receive_next}
use Rattle.standard.specs.Frame.{outgoing_frames, send_frames, send_after, six_in, incoming_frames, receive_frames, receive_marks}
use Rattle.standard.specs.Frame.{receive_after, receive_said}
use Rattle.standard.specs.declared.Law.{Law}
use Rattle.standard.specs.declared.LineState.{LineState}
use Rattle.standard.specs.declared.Record.{Record}
use Rattle.standard.specs.declared.Said.{Said}
use Rattle.standard.proofs.Lists.{length-list_from, get_d_list, list_from_is, joined_snoc, length-joined, length-parts, parts_snoc}
use Rattle.standard.proofs.Lists.{each_append, after-append, and_both, of_either, length-each, sized_each}
use Rattle.standard.proofs.First.{None, same_number, first_hit, first-none, none-append, none-list_from, first-append}
use Rattle.standard.proofs.Bits.{bit_at-own, number_of-lt, bits_back, length-bits_of}
use Rattle.standard.proofs.Scrambler.{length-scramble, length-descramble}
use Rattle.standard.proofs.Constellation.{Names, names}
use Rattle.standard.proofs.Modulus.{Within, within-at, number-labels, length-labels, labels-within}
use Rattle.standard.proofs.Signs.{taken, taken_same, taken_append, length_taken, signs_taken, signs_append, bits-append}
use Rattle.standard.proofs.Signs.{length-signs_of, length-sign_bits}
use Rattle.standard.proofs.Octets.{sign-back, ucode-back}
use Rattle.standard.proofs.Control.{judged_ext}

-- the record can carry K bits
abbrev pub Holds : Record → Type 0
Holds r = 2 ^ K r ≤ product (sizes r)

pub length-sizes : (r : Record) → length (sizes r) ≡ 6
unfolding sizes
length-sizes r = length-list_from (size r) 0 6

pub size-at : (r : Record) (i : ℕ) → i < 6 → get_or (sizes r) i 0 ≡ size r i
unfolding sizes
size-at r i h = get_d_list (size r) 0 6 i h

pub length-frame_octets : (r : Record) (l : Law) (g : Bool) (ss : List Bool) → length (frame_octets r l g ss) ≡ 6
unfolding frame_octets
length-frame_octets r l g ss = length-list_from (λ i. octet l (nth (frame_signs g ss) i) (point r i (get_or (frame_labels r ss) i 0))) 0 6

-- ---- signs: 'across frames too'

-- the signs of a frame's bits, and of those that follow them, are the signs of all
pub signs_across : (st : LineState) (f : Outgoing) (ss : List Bool) → 6 ≤ length (line_bits st f)
    → frame_signs st.sign (line_bits st f) ++ signs_of (send_next st f).sign ss ≡ signs_of st.sign (take 6 (line_bits st f) ++ ss)
unfolding frame_signs send_next
signs_across st f ss h = sym (signs_append st.sign (take 6 (line_bits st f)) ss 5 (length-take-le 6 (line_bits st f) h))

-- and so back: those of a frame's octets, and of the signs that follow them
pub sign-bits_across : (r : Record) (l : Law) (st : LineState) (y : Incoming) (ts : List Bool)
    → sign_bits st.sign (list_from (sign_at y.octets) 0 6) ++ sign_bits (receive_next r l st y).sign ts
    ≡ sign_bits st.sign (list_from (sign_at y.octets) 0 6 ++ ts)
unfolding receive_next list_from nth
sign-bits_across r l st y ts = sym (bits-append st.sign (list_from (sign_at y.octets) 0 6) ts 5 refl)

-- ---- the line state, and of A.1 the sender's count

-- it is its parts
pub record Parts (s t : LineState) : Type 0 where
  pub history : s.history ≡ t.history
  pub sign : s.sign ≡ t.sign
  pub doubtful : s.doubtful ≡ t.doubtful
  pub place : s.place ≡ t.place
  pub done : s.done ≡ t.done
  pub sequence : s.sequence ≡ t.sequence
  pub lost : s.lost ≡ t.lost

abbrev of_parts : ℕ → Bool → ℕ → ℕ → ℕ → List ℕ → Bool → LineState
of_parts h g d p n s b = record { history = h; sign = g; doubtful = d; place = p; done = n; sequence = s; lost = b }

pub same-state : (s t : LineState) → Parts s t → s ≡ t
same-state s t e = go
  where
    go : of_parts s.history s.sign s.doubtful s.place s.done s.sequence s.lost
        ≡ of_parts t.history t.sign t.doubtful t.place t.done t.sequence t.lost
    go = cc

pub send_doubtful : (st : LineState) (f : Outgoing) → (send_next st f).doubtful ≡ st.doubtful
unfolding send_next
send_doubtful st f = refl

-- ---- marks

module _ (r : Record) (l : Law) (os : List ℕ) where
  -- all six belong
  abbrev pub Belong : Type 0
  Belong = (i : ℕ) → i < 6 → member r i (ucode_at l os i) ≡ true

  none-outside : Belong → None (outside_tests r l os)
  unfolding outside_tests outside_test
  none-outside all =
      none-list_from (outside_test r l os) 0 6
      (λ i h. ap (λ (k : ℕ). not (member r k (ucode_at l os k))) (zero-add i) ∙ ap not (all i h))

  abbrev too_large : List Test
  too_large = test 7 (leb (2 ^ K r) (received_number r l os)) ∷ []

  pub mark_seven : Belong → 2 ^ K r ≤ received_number r l os → mark r l os ≡ 7
  unfolding mark mark_tests
  mark_seven all h =
      same_number
      (first-append (outside_tests r l os) too_large (none-outside all)
      ∙ sym (first_hit 7 (leb (2 ^ K r) (received_number r l os)) [] (le-leb (2 ^ K r) (received_number r l os) h)))

  pub mark-zero : Belong → received_number r l os < 2 ^ K r → mark r l os ≡ 0
  unfolding mark mark_tests
  mark-zero all h =
      same_number
      (first-none (mark_tests r l os)
      (none-append (outside_tests r l os) too_large (none-outside all) (lt-leb (2 ^ K r) (received_number r l os) h, tt)))

-- zeros without the first six
drop-zeros : (n : ℕ) → drop 6 (replicate (n + 6) false) ≡ replicate n false
drop-zeros n = let e : n + 6 ≡ suc (suc (suc (suc (suc (suc n))))) = omega arith in rw e

module _ (r : Record) (l : Law) (st : LineState) (y : Incoming) where
  pub marked_bits : good r l y.octets ≡ false → receive_frame r l st y ≡ replicate (width r (controls st y.control)) false
  unfolding receive_frame
  marked_bits e = rw e

  -- 'feeds D zeros to the history', a control frame K
  pub marked_history : good r l y.octets ≡ false → (receive_next r l st y).history ≡ push_all st.history
      (replicate (width r (controls st y.control)) false)
  unfolding receive_next heard_data heard_bits
  marked_history e = rw e (ap (push_all st.history) (go (controls st y.control)))
    where
      go : (b : Bool) → cond b (drop 6 (replicate (D r) false)) (replicate (D r) false) ≡ replicate (width r b) false
      go true = drop-zeros (K r)
      go false = refl

  -- 'A marked control frame is lost, keeps six zeros as its control bits'
  pub marked_control : controls st y.control ≡ true → good r l y.octets ≡ false
      → (heard_control r l st y ≡ replicate 6 false) × ((receive_next r l st y).lost ≡ true)
  unfolding heard_control heard_bits receive_next lost_so_far
  marked_control c e = (rw (c, e) (take-zeros (K r)), rw (c, e))
    where
      take-zeros : (n : ℕ) → take 6 (replicate (n + 6) false) ≡ replicate 6 false
      take-zeros n = let e : n + 6 ≡ suc (suc (suc (suc (suc (suc n))))) = omega arith in rw e

  -- A.1: the count after a marked frame, and after a good one
  pub marked_doubtful : good r l y.octets ≡ false → (receive_next r l st y).doubtful ≡ 24
  unfolding receive_next doubtful_after
  marked_doubtful e = rw e

  pub good-doubtful : good r l y.octets ≡ true → (receive_next r l st y).doubtful ≡ st.doubtful - width r (controls st y.control)
  unfolding receive_next doubtful_after
  good-doubtful e = rw e

  -- it stays 'a count from 0 to 24'
  pub doubtful-le : st.doubtful ≤ 24 → (receive_next r l st y).doubtful ≤ 24
  doubtful-le h = go (good r l y.octets) refl
    where
      go : (b : Bool) → good r l y.octets ≡ b → (receive_next r l st y).doubtful ≤ 24
      go true e = omega (arith, good-doubtful e)
      go false e = omega (arith, marked_doubtful e)

-- ---- six octets of D bits, received

module _ (r : Record) (l : Law) (holds : Holds r) (g : Bool) (ss : List Bool) (long : length ss ≡ D r) where
  R-long : length (drop 6 ss) ≡ K r
  R-long = omega (arith, length-drop 6 ss)

  R-lt : number_of (drop 6 ss) < 2 ^ K r
  R-lt = rw (← R-long) (number_of-lt (drop 6 ss))

  six_signs : length (frame_signs g ss) ≡ 6
  unfolding frame_signs
  six_signs = length-signs_of g (take 6 ss) ∙ length-take-le 6 ss (omega arith)

  six_labels : length (frame_labels r ss) ≡ 6
  unfolding frame_labels
  six_labels = length-labels (sizes r) (number_of (drop 6 ss)) ∙ length-sizes r

  labels_fit : Within (sizes r) (frame_labels r ss)
  unfolding frame_labels sizes list_from
  labels_fit = labels-within (size r 0) (list_from (size r) 1 5) (number_of (drop 6 ss)) (le_trans R-lt holds)

  abbrev os : List ℕ
  os = frame_octets r l g ss

  module _ (i : ℕ) (h : i < 6) where
    abbrev u : ℕ
    u = point r i (get_or (frame_labels r ss) i 0)

    named : Names (member r i) 128 (get_or (frame_labels r ss) i 0) u
    named = names (member r i) 128 (get_or (frame_labels r ss) i 0)
        (rw (← size-at r i h) (within-at (sizes r) (frame_labels r ss) labels_fit i (rw length-sizes h)))

    octet-at : get_or os i 0 ≡ octet l (nth (frame_signs g ss) i) u
    unfolding frame_octets
    octet-at = get_d_list (λ i. octet l (nth (frame_signs g ss) i) (point r i (get_or (frame_labels r ss) i 0))) 0 6 i h

    sign_at_lem : sign_at os i ≡ nth (frame_signs g ss) i
    sign_at_lem = ap sign_of octet-at ∙ sign-back l (nth (frame_signs g ss) i) u named.below

    ucode-at : ucode_at l os i ≡ u
    ucode-at = ap (ucode_of l) octet-at ∙ ucode-back l (nth (frame_signs g ss) i) u named.below

    belongs_at : member r i (ucode_at l os i) ≡ true
    belongs_at = ap (member r i) ucode-at ∙ named.belongs

    label_at : label r i (ucode_at l os i) ≡ get_or (frame_labels r ss) i 0
    label_at = ap (label r i) ucode-at ∙ named.label

  number-back : received_number r l os ≡ number_of (drop 6 ss)
  unfolding received_number frame_labels sizes list_from
  number-back =
      ap (number (sizes r))
      (sym (list_from_is (λ i. label r i (ucode_at l os i)) 0 6 (frame_labels r ss) six_labels (λ i h. sym (label_at i h))))
      ∙ number-labels (size r 0) (list_from (size r) 1 5) (number_of (drop 6 ss))

  signs_are : list_from (sign_at os) 0 6 ≡ frame_signs g ss
  unfolding nth
  signs_are = sym (list_from_is (sign_at os) false 6 (frame_signs g ss) six_signs (λ i h. sym (sign_at_lem i h)))

  -- a frame as sent has mark 0
  pub frame-mark : mark r l (frame_octets r l g ss) ≡ 0
  frame-mark = mark-zero r l os belongs_at (rw number-back R-lt)

  -- and gives its D bits back, all but the first where the last sign was another
  pub frame-heard : (g' : Bool) → heard_bits r l g' (frame_octets r l g ss) ≡ taken g g' ss
  unfolding heard_bits frame_signs
  frame-heard g' =
      rw (frame-mark, signs_are, number-back, signs_taken, bits_back (K r) (drop 6 ss) R-long)
      (sym (taken_append g g' (take 6 ss) (drop 6 ss) (omega (arith, length-take-le 6 ss (omega arith))))
      ∙ ap (taken g g') (take-append-drop 6 ss))

  pub frame-sign : sign_at (frame_octets r l g ss) 5 ≡ nth (frame_signs g ss) 5
  frame-sign = sign_at_lem 5 (lit< tt)

-- ---- a frame sent from the state s, received

-- a frame is as wide as its state says
abbrev pub Wide : Record → LineState → Outgoing → Type 0
Wide r s f = length f.bits ≡ width r (controls s f.control)

-- six control bits or none, in front of other bits: the first may be taken wrong
split_data : (b g g' : Bool) (six ss : List Bool) → length six ≡ 6
    → cond b (drop 6 (taken g g' (cond b six [] ++ ss))) (taken g g' (cond b six [] ++ ss)) ≡ taken (cond b g' g) g' ss
split_data true g g' six ss e = ap (drop 6) (taken_append g g' six ss (omega arith)) ∙ drop_at (taken g g' six) ss 6
    (length_taken g g' six ∙ e) ∙ sym (taken_same g' ss)
split_data false g g' six ss e = refl

split_control : (b g g' : Bool) (six ss : List Bool) → length six ≡ 6
    → cond b (take 6 (taken g g' (cond b six [] ++ ss))) [] ≡ taken g g' (cond b six [])
split_control true g g' six ss e = ap (take 6) (taken_append g g' six ss (omega arith)) ∙ take_at (taken g g' six) ss 6
    (length_taken g g' six ∙ e)
split_control false g g' six ss e = refl

length_line : (b : Bool) (r : Record) (six ss : List Bool) → length six ≡ 6 → length ss ≡ width r b → length (cond b six [] ++ ss) ≡ D r
length_line true r six ss e k = omega (arith, length-append six ss)
length_line false r six ss e k = k

module _ (r : Record) (l : Law) (holds : Holds r) (s : LineState) (f : Outgoing) (fit : Wide r s f) where
  abbrev six_now : List Bool
  six_now = list_from (bit_at (sequence_sent s f)) (6 * s.done) 6

  six_long : length six_now ≡ 6
  six_long = length-list_from (bit_at (sequence_sent s f)) (6 * s.done) 6

  pub line_wide : length (line_bits s f) ≡ D r
  unfolding line_bits control_bits
  line_wide = length_line (controls s f.control) r six_now (scramble s.history f.bits) six_long
      (length-scramble s.history f.bits ∙ fit)

  pub sent-mark : mark r l (send_frame r l s f) ≡ 0
  unfolding send_frame
  sent-mark = frame-mark r l holds s.sign (line_bits s f) line_wide

  pub sent-heard : (g' : Bool) → heard_bits r l g' (send_frame r l s f) ≡ taken s.sign g' (line_bits s f)
  unfolding send_frame
  sent-heard = frame-heard r l holds s.sign (line_bits s f) line_wide

  -- where both ends are at a control frame or neither is: the data bits, of which a control frame's are after the one that may be wrong
  pub sent_data : (t : LineState) → controls t f.control ≡ controls s f.control
      → heard_data r l t (six_in f.control (send_frame r l s f)) ≡ taken (cond (controls s f.control) t.sign s.sign) t.sign
      (scramble s.history f.bits)
  unfolding heard_data line_bits control_bits
  sent_data t e = rw (e, sent-heard t.sign)
      (split_data (controls s f.control) s.sign t.sign six_now (scramble s.history f.bits) six_long)

  -- and the control bits
  pub sent-control : (t : LineState) → controls t f.control ≡ controls s f.control
      → heard_control r l t (six_in f.control (send_frame r l s f)) ≡ taken s.sign t.sign (control_bits s f)
  unfolding heard_control line_bits control_bits
  sent-control t e = rw (e, sent-heard t.sign)
      (split_control (controls s f.control) s.sign t.sign six_now (scramble s.history f.bits) six_long)

  -- the last signs of both ends are then the same
  pub sent-sign : (t : LineState) → (receive_next r l t (six_in f.control (send_frame r l s f))).sign ≡ (send_next s f).sign
  unfolding receive_next send_next send_frame
  sent-sign t = frame-sign r l holds s.sign (line_bits s f) line_wide

-- ---- what is said at the end of a sequence is of the state left

pub said-end : (r : Record) (l : Law) (st : LineState) (y : Incoming) → ends_in st y.control ≡ true
    → said_in r l st y ≡ judged (receive_next r l st y).lost (bit_at (receive_next r l st y).sequence) ∷ []
unfolding said_in receive_next
said-end r l st y e =
    let f = nth (sequence_so_far r l st y) in
    let c = (and_both (controls st y.control) _ e).0 in
    rw (e, c)
    (ap (λ (x : Said). x ∷ [])
    (judged_ext (lost_so_far r l st y) f (bit_at (bytes_of 12 f)) (λ n h. sym (bit_at-own 12 f n (omega arith)))))

pub said-none : (r : Record) (l : Law) (st : LineState) (y : Incoming) → ends_in st y.control ≡ false → said_in r l st y ≡ []
unfolding said_in
said-none r l st y e = rw e

-- ---- lengths

module _ (r : Record) (l : Law) where
  pub length-heard_bits : (g : Bool) (os : List ℕ) → length (heard_bits r l g os) ≡ D r
  unfolding heard_bits
  length-heard_bits g os =
      let ts = sign_bits g (list_from (sign_at os) 0 6) in
      let ns = bits_of (K r) (received_number r l os) in
      of_either (λ (xs : List Bool). length xs ≡ D r) (good r l os) {x = ts ++ ns}
      (omega (
        arith,
        length-append ts ns,
        length-sign_bits g (list_from (sign_at os) 0 6),
        length-list_from (sign_at os) 0 6,
        length-bits_of (K r)
            (received_number r l os),
      ))
      (length-replicate (D r) false)

  pub length-heard_control : (st : LineState) (y : Incoming) → controls st y.control ≡ true → length (heard_control r l st y) ≡ 6
  unfolding heard_control
  length-heard_control st y e = rw e
      (length-take-le 6 (heard_bits r l st.sign y.octets) (omega (arith, length-heard_bits st.sign y.octets)))

  length-heard_data : (st : LineState) (y : Incoming) → length (heard_data r l st y) ≡ width r (controls st y.control)
  unfolding heard_data
  length-heard_data st y = go (controls st y.control)
    where
      go : (b : Bool) → length (cond b (drop 6 (heard_bits r l st.sign y.octets)) (heard_bits r l st.sign y.octets)) ≡ width r b
      go true = omega (arith, length-drop 6 (heard_bits r l st.sign y.octets), length-heard_bits st.sign y.octets)
      go false = length-heard_bits st.sign y.octets

  pub length-receive_frame : (st : LineState) (y : Incoming) → length (receive_frame r l st y) ≡ width r (controls st y.control)
  unfolding receive_frame
  length-receive_frame st y =
      let k = width r (controls st y.control) in
      of_either (λ (xs : List Bool). length xs ≡ k) (good r l y.octets)
      (length-descramble st.history (heard_data r l st y) ∙ length-heard_data st y) (length-replicate k false)

  pub length-send_frame : (st : LineState) (f : Outgoing) → length (send_frame r l st f) ≡ 6
  unfolding send_frame
  length-send_frame st f = length-frame_octets r l st.sign (line_bits st f)

-- ---- N frames

-- with the choice off a frame has D bits: 'The sender reads N × D data bits'
pub call_bits-off : (r : Record) (p n : ℕ) → call_bits r false p n ≡ n * D r
unfolding data_bits
call_bits-off r p zero = omega arith
call_bits-off r p (suc n) = omega (arith, call_bits-off r p n)

-- with it on, 6 fewer for each control frame
call_bits_on : (r : Record) (p n : ℕ) → p < 64 → call_bits r true p n + 6 * ((n + (p + 63) % 64) / 64) ≡ n * D r
unfolding data_bits
call_bits_on r p zero h = omega arith
call_bits_on r zero (suc n) h = omega (arith, call_bits_on r 1 n (lit< tt))
call_bits_on r (suc p) (suc n) h =
    let wide : width r (is_control true (suc p)) ≡ D r = rw (ne_eqb (suc p) 0 (λ (z : suc p ≡ 0). omega arith)) in
    let next : next_place true (suc p) ≡ (p + 2) % 64 = ap (λ (x : ℕ). x % 64) (omega arith) in
    let same : suc n + (suc p + 63) % 64 ≡ n + ((p + 2) % 64 + 63) % 64 = omega arith in
    rw (next, same, wide) (wider (D r) (call_bits r true ((p + 2) % 64) n) _ (call_bits_on r ((p + 2) % 64) n (omega arith)))
  where
    wider : (d b x : ℕ) → b + x ≡ n * d → d + b + x ≡ suc n * d
    wider d b x e = omega arith

-- either way
pub call_bits_is : (r : Record) (on : Bool) (p n : ℕ) → p < 64 → call_bits r on p n + 6 * cond on ((n + (p + 63) % 64) / 64) 0 ≡ n * D r
call_bits_is r true p n h = call_bits_on r p n h
call_bits_is r false p n h = omega (arith, call_bits-off r p n)

-- at most D a frame, and no fewer for more frames
pub call_bits-le : (r : Record) (on : Bool) (p n : ℕ) → p < 64 → call_bits r on p n ≤ n * D r
call_bits-le r on p n h = omega (arith, call_bits_is r on p n h)

pub call_bits_mono : (r : Record) (on : Bool) (p n N : ℕ) → n ≤ N → call_bits r on p n ≤ call_bits r on p N
unfolding data_bits
call_bits_mono r on p zero N h = omega arith
call_bits_mono r on p (suc n) zero h = absurd (not-suc-le-zero h)
call_bits_mono r on p (suc n) (suc N) h = omega (arith, call_bits_mono r on (next_place on p) n N (omega arith))

-- the frame place after n frames of one choice
abbrev place_after : Bool → ℕ → ℕ → ℕ
place_after on p zero = p
place_after on p (suc n) = place_after on (next_place on p) n

module _ (r : Record) (on : Bool) where
  call_bits_snoc : (p n : ℕ) → call_bits r on p (n + 1) ≡ call_bits r on p n + width r (is_control on (place_after on p n))
  unfolding data_bits
  call_bits_snoc p zero = omega arith
  call_bits_snoc p (suc n) = rw suc-add (omega (arith, call_bits_snoc (next_place on p) n))

  module _ (w : ℕ) where
    pub length-outgoing : (p n : ℕ) (ds : List Bool) → length (outgoing_frames r on w p n ds) ≡ n
    unfolding outgoing_frames
    length-outgoing p zero ds = refl
    length-outgoing p (suc n) ds = ap suc (length-outgoing (next_place on p) n (drop (width r (is_control on p)) ds))

    -- the frame after n of them
    abbrev pub frame_out : ℕ → ℕ → ℕ → List Bool → Outgoing
    frame_out p q n ds = record { control = on; sequence = w; bits = take (width r (is_control on q)) (drop (call_bits r on p n) ds) }

    outgoing_snoc : (p n : ℕ) (ds : List Bool) → outgoing_frames r on w p (n + 1) ds ≡ outgoing_frames r on w p n ds ++
        (frame_out p (place_after on p n) n ds ∷ [])
    unfolding outgoing_frames data_bits
    outgoing_snoc p zero ds = refl
    outgoing_snoc p (suc n) ds =
        let k = width r (is_control on p) in
        rw suc-add (ap (λ (x : List Outgoing). record { control = on; sequence = w; bits = take k ds } ∷ x)
        (outgoing_snoc (next_place on p) n (drop k ds) ∙ rw drop-drop))

    send_place : (n : ℕ) (st : LineState) (ds : List Bool) → (send_after r on w n st ds).place ≡ place_after on st.place n
    unfolding send_after outgoing_frames after send_next
    send_place zero st ds = refl
    send_place (suc n) st ds =
        let k = width r (controls st on) in
        send_place n (send_next st (record { control = on; sequence = w; bits = take k ds })) (drop k ds)

  receive_place : (l : Law) (n : ℕ) (st : LineState) (os : List ℕ) → (receive_after r l on n st os).place ≡ place_after on st.place n
  unfolding receive_after incoming_frames parts after receive_next
  receive_place l zero st os = refl
  receive_place l (suc n) st os = receive_place l n (receive_next r l st (six_in on (take 6 os))) (drop 6 os)

pub length_incoming : (on : Bool) (n : ℕ) (os : List ℕ) → length (incoming_frames on n os) ≡ n
unfolding incoming_frames
length_incoming on n os = length-map (parts 6 n os) (six_in on) ∙ length-parts 6 n os

incoming_snoc : (on : Bool) (n : ℕ) (os : List ℕ) → incoming_frames on (n + 1) os ≡ incoming_frames on n os ++
    (six_in on (take 6 (drop (n * 6) os)) ∷ [])
unfolding incoming_frames
incoming_snoc on n os = rw parts_snoc (map-append (six_in on) (parts 6 n os) (take 6 (drop (n * 6) os) ∷ []))

module _ (r : Record) (l : Law) (on : Bool) where
  pub length-receive_frames : (n : ℕ) (st : LineState) (os : List ℕ) → length (receive_frames r l on n st os) ≡ call_bits r on st.place n
  unfolding receive_frames incoming_frames parts joined each data_bits receive_next
  length-receive_frames zero st os = refl
  length-receive_frames (suc n) st os =
      let y = six_in on (take 6 os) in
      omega (
        arith,
        length-append (receive_frame r l st y) (receive_frames r l on n (receive_next r l st y) (drop 6 os)),
        length-receive_frame r l st y,
        length-receive_frames n (receive_next r l st y) (drop 6 os),
      )

module _ (r : Record) (l : Law) (on : Bool) (n : ℕ) (st : LineState) where
  pub length-send_frames : (w : ℕ) (ds : List Bool) → length (send_frames r l on w n st ds) ≡ n * 6
  unfolding send_frames
  length-send_frames w ds =
      let fs = outgoing_frames r on w st.place n ds in
      length-joined 6 (each (send_frame r l) send_next st fs) (sized_each (send_frame r l) send_next 6 (length-send_frame r l) st fs)
      ∙ ap (λ (x : ℕ). x * 6) (length-each (send_frame r l) send_next st fs ∙ length-outgoing r on w st.place n ds)

  pub length-receive_marks : (os : List ℕ) → length (receive_marks r l n os) ≡ n
  unfolding receive_marks
  length-receive_marks os = length-map (parts 6 n os) (mark r l) ∙ length-parts 6 n os

  -- one frame more, as wide as the state before it says
  module _ (w : ℕ) (ds : List Bool) where
    abbrev pub sent_state : LineState
    sent_state = send_after r on w n st ds

    -- the frame
    abbrev pub next_out : Outgoing
    next_out = frame_out r on w st.place sent_state.place n ds

    next-out : frame_out r on w st.place (place_after on st.place n) n ds ≡ next_out
    next-out = ap (λ (q : ℕ). frame_out r on w st.place q n ds) (sym (send_place r on w n st ds))

    pub send_bits-next : call_bits r on st.place (n + 1) ≡ call_bits r on st.place n + width r (controls sent_state on)
    send_bits-next = call_bits_snoc r on st.place n ∙ ap (λ (q : ℕ). call_bits r on st.place n + width r (is_control on q))
        (sym (send_place r on w n st ds))

    pub send_frames-next : send_frames r l on w (n + 1) st ds ≡ send_frames r l on w n st ds ++ send_frame r l sent_state next_out
    unfolding send_frames send_after each
    send_frames-next =
        rw (outgoing_snoc, each_append) (joined_snoc (each (send_frame r l) send_next st (outgoing_frames r on w st.place n ds)) _)
        ∙ ap (λ (f : Outgoing). send_frames r l on w n st ds ++ send_frame r l sent_state f) next-out

    pub send_after-next : send_after r on w (n + 1) st ds ≡ send_next sent_state next_out
    unfolding send_after after
    send_after-next = rw (outgoing_snoc, after-append) (ap (send_next (after send_next st (outgoing_frames r on w st.place n ds))) next-out)

  module _ (os : List ℕ) where
    abbrev pub read_state : LineState
    read_state = receive_after r l on n st os

    abbrev pub next_in : Incoming
    next_in = six_in on (take 6 (drop (n * 6) os))

    pub receive_bits_next : call_bits r on st.place (n + 1) ≡ call_bits r on st.place n + width r (controls read_state on)
    receive_bits_next = call_bits_snoc r on st.place n ∙ ap (λ (q : ℕ). call_bits r on st.place n + width r (is_control on q))
        (sym (receive_place r on l n st os))

    pub receive_frames-next : receive_frames r l on (n + 1) st os ≡ receive_frames r l on n st os ++ receive_frame r l read_state next_in
    unfolding receive_frames receive_after each
    receive_frames-next = rw (incoming_snoc, each_append)
        (joined_snoc (each (receive_frame r l) (receive_next r l) st (incoming_frames on n os)) _)

    pub receive_after-next : receive_after r l on (n + 1) st os ≡ receive_next r l read_state next_in
    unfolding receive_after after
    receive_after-next = rw (incoming_snoc, after-append)

    pub receive_said-next : receive_said r l on (n + 1) st os ≡ receive_said r l on n st os ++ said_in r l read_state next_in
    unfolding receive_said receive_after each
    receive_said-next = rw (incoming_snoc, each_append) (joined_snoc (each (said_in r l) (receive_next r l) st (incoming_frames on n os)) _)

  pub receive_marks-next : (os : List ℕ) → receive_marks r l (n + 1) os ≡ receive_marks r l n os ++ (mark r l (take 6 (drop (n * 6) os)) ∷ [])
  unfolding receive_marks
  receive_marks-next os = rw parts_snoc (map-append (mark r l) (parts 6 n os) (take 6 (drop (n * 6) os) ∷ []))
