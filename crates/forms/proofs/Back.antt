-- What was put into bytes is what is read from them. Assumes nothing.
use mathlib.Core.Path.{◌≡◌, refl, sym, ap, ap₂, ◌∙◌}
use Prim.Native.Nat.{ℕ, ◌+◌, ◌-◌, ◌*◌, ◌/◌, ◌%◌, ◌^◌, ◌<◌}
use mathlib.Core.Bool.{Bool, true, false}
use mathlib.Core.List.{List, ◌++◌}
use native.Mathlib.Nat.{zero-add}
use native.Mathlib.Omega.{arith}
use borrow.Author.Tests.{lt-ltb, le-ltb}
use lib.Dec.{lit<}
use lib.ListN.{length, get_or, drop, get_or-append}
use lib.Seq.{get_or-append-add, get_or-drop}
use Rattle.standard.specs.Lists.{list_from}
use Rattle.standard.specs.Bits.{weight, positive, bit, bit_at, field}
use Rattle.standard.specs.Record.{index_of, half_of}
use Rattle.standard.specs.Calls.{over}
use Rattle.standard.specs.declared.LineState.{LineState}
use Rattle.standard.specs.declared.Record.{Record}
use Rattle.standard.proofs.Lists.{length-list_from, get_d_list, list_from_is, list_from_ext}
use Rattle.standard.proofs.Bits.{field-bit, field_is, field-number}
use Rattle.forms.specs.RecordBytes.{record_byte, record_bytes, index_at, half_at, record_at}
use Rattle.states.specs.StateBytes.{state_byte, state_bytes, line_bytes, sequence_byte, state_at}
use Rattle.forms.specs.Back.{StateBack, LineBack, RecordBack}
use Rattle.forms.proofs.Into.{half_byte_lem}

-- element k of n listed ones with more behind them
listed_at : (f : ℕ → ℕ) (n : ℕ) (t : List ℕ) (k : ℕ) → k < n → get_or (list_from f 0 n ++ t) k 0 ≡ f k
listed_at f n t k h = get_or-append (list_from f 0 n) t 0 k (rw (length-list_from f 0 n) h) ∙ get_d_list f 0 n k h

positive-weight : (b : Bool) → positive (weight b) ≡ b
positive-weight true = refl
positive-weight false = refl

-- bit i of byte q of a number
byte_bit : (w q i : ℕ) → i < 8 → bit (w / 2 ^ (8 * q) % 256) i ≡ bit w (8 * q + i)
byte_bit w q i h = ap (λ (x : ℕ). bit x i) (sym (field-number w (8 * q) 8)) ∙ field-bit (bit w) (8 * q) 8 i h

-- n bytes from byte p on that are those of a number w hold it
bytes_hold : (s : List ℕ) (p n w : ℕ) → ((q : ℕ) → q < n → get_or s (p + q) 0 ≡ w / 2 ^ (8 * q) % 256) → w < 2 ^ (8 * n)
    → field (bit_at s) (8 * p) (8 * n) ≡ w
unfolding bit_at
bytes_hold s p n w e h =
    field_is (bit_at s) (8 * p) (8 * n) w
    (λ j l.
    let d : (8 * p + j) / 8 ≡ p + j / 8 = omega arith in
    let m : (8 * p + j) % 8 ≡ j % 8 = omega arith in
    let b : 8 * (j / 8) + j % 8 ≡ j = omega arith in
    ap₂ (λ (x y : ℕ). bit (get_or s x 0) y) d m ∙ ap (λ (x : ℕ). bit x (j % 8)) (e (j / 8) (omega arith))
    ∙ byte_bit w (j / 8) (j % 8) (omega arith) ∙ ap (bit w) b)
    h

module _ (st : LineState) (t : List ℕ) where
  abbrev bytes : List ℕ
  bytes = state_bytes st ++ t

  state_byte_lem : (k : ℕ) → k < 21 → get_or bytes k 0 ≡ state_byte st k
  unfolding state_bytes
  state_byte_lem k h = listed_at (state_byte st) 21 t k h

  sequence_byte_lem : (i : ℕ) → i < 12 → get_or bytes (8 + i) 0 ≡ get_or st.sequence i 0
  unfolding state_byte
  sequence_byte_lem i h =
      let e : 8 + i - 8 ≡ i = omega arith in
      state_byte_lem (8 + i) (omega arith)
      ∙ rw (
        le-ltb (8 + i) 4 (omega arith),
        le-ltb (8 + i) 5 (omega arith),
        le-ltb (8 + i) 6 (omega arith),
        le-ltb (8 + i) 7 (omega arith),
        le-ltb (8 + i) 8 (omega arith),
        lt-ltb (8 + i) 20 (omega arith),
        e,
      ) refl

pub state-back : StateBack
unfolding state_at state_byte
state-back st t h twelve =
    let byte = state_byte_lem st t in
    let history = bytes_hold (bytes st t) 0 4 st.history
    (λ q l. ap (λ (x : ℕ). get_or (bytes st t) x 0) (zero-add q) ∙ byte q (omega arith) ∙ rw (lt-ltb q 4 l) refl) h in
    let sequence : list_from (sequence_byte (bytes st t)) 0 12 ≡ st.sequence = sym
    (list_from_is (sequence_byte (bytes st t)) 0 12 st.sequence twelve (λ i l. sym (sequence_byte_lem st t i l))) in
    let sign = ap positive (byte 4 (lit< tt)) ∙ positive-weight st.sign in
    let lost = ap positive (byte 20 (lit< tt)) ∙ positive-weight st.lost in
    rw (history, sign, byte 5 (lit< tt), byte 6 (lit< tt), byte 7 (lit< tt), sequence, lost) refl

module _ (st : LineState) (s : List ℕ) where
  abbrev begins : List ℕ
  begins = over (line_bytes st) s

  line_byte : (k : ℕ) → k < 5 → get_or begins k 0 ≡ state_byte st k
  unfolding line_bytes
  line_byte k h = listed_at (state_byte st) 5 (drop (length (line_bytes st)) s) k h

  later_byte : (k : ℕ) → get_or begins (5 + k) 0 ≡ get_or s (5 + k) 0
  unfolding line_bytes
  later_byte k =
      let five : length (line_bytes st) ≡ 5 = length-list_from (state_byte st) 0 5 in
      ap (λ (n : ℕ). get_or begins (n + k) 0) (sym five)
      ∙ get_or-append-add (line_bytes st) (drop (length (line_bytes st)) s) k 0
      ∙ ap (λ (n : ℕ). get_or (drop n s) k 0) five
      ∙ get_or-drop 5 s k 0

pub line_back : LineBack
unfolding state_at state_byte
line_back st s h =
    let history = bytes_hold (begins st s) 0 4 st.history
    (λ q l. ap (λ (x : ℕ). get_or (begins st s) x 0) (zero-add q) ∙ line_byte st s q (omega arith) ∙ rw (lt-ltb q 4 l) refl) h in
    let sign = ap positive (line_byte st s 4 (lit< tt)) ∙ positive-weight st.sign in
    let sequence : list_from (sequence_byte (begins st s)) 0 12 ≡ list_from (sequence_byte s) 0 12 = list_from_ext _ _ 12
    (λ i l. let e : 5 + (3 + i) ≡ 8 + i = omega arith in rw e at (later_byte st s (3 + i))) in
    rw (history, sign, later_byte st s 0, later_byte st s 1, later_byte st s 2, sequence, later_byte st s 15) refl

module _ (r : Record) (t : List ℕ) where
  abbrev s : List ℕ
  s = record_bytes r ++ t

  byte : (k : ℕ) → k < 105 → get_or s k 0 ≡ record_byte r k
  unfolding record_bytes
  byte k h = listed_at (record_byte r) 105 t k h

  index_byte : (i : ℕ) → i < 6 → get_or s (3 + i) 0 ≡ index_of r i
  unfolding record_byte
  index_byte i h =
      let e : 3 + i - 3 ≡ i = omega arith in
      byte (3 + i) (omega arith)
      ∙ rw (
        le-ltb (3 + i) 1 (omega arith),
        le-ltb (3 + i) 2 (omega arith),
        le-ltb (3 + i) 3 (omega arith),
        lt-ltb (3 + i) 9
            (omega arith),
        e,
      ) refl

  half : (h : ℕ) → h < 12 → half_of r h < 2 ^ 64 → half_at s h ≡ half_of r h
  half h l b =
      let p : 8 * (9 + 8 * h) ≡ 72 + 64 * h = omega arith in
      ap (λ (x : ℕ). field (bit_at s) x 64) (sym p)
      ∙ bytes_hold s (9 + 8 * h) 8 (half_of r h) (λ q c. byte (9 + 8 * h + q) (omega arith) ∙ half_byte_lem r h q c) b

pub record_back : RecordBack
unfolding record_at record_byte
record_back r t six twelve words =
    let indices : list_from (index_at (s r t)) 0 6 ≡ r.index = sym
    (list_from_is (index_at (s r t)) 0 6 r.index six (λ i h. sym (index_byte r t i h))) in
    let halves : list_from (half_at (s r t)) 0 12 ≡ r.mask = sym
    (list_from_is (half_at (s r t)) 0 12 r.mask twelve (λ h l. sym (half r t h l (words h)))) in
    let granted : positive (get_or (s r t) 0 0) ≡ r.granted = ap positive (byte r t 0 (lit< tt)) ∙ positive-weight r.granted in
    let acknowledge : positive (get_or (s r t) 2 0) ≡ r.acknowledge = ap positive (byte r t 2 (lit< tt))
    ∙ positive-weight r.acknowledge in
    rw (indices, halves, granted, byte r t 1 (lit< tt), acknowledge) refl
