-- A record put into bytes: the head byte by byte, the masks word by word; a plan, word by word; and what is said. Assumes nothing.
use mathlib.Core.Path.{◌≡◌, refl, sym, ap, ap₂, ◌∙◌}
use Prim.Native.Nat.{ℕ, zero, suc, ◌+◌, ◌-◌, ◌*◌, ◌/◌, ◌%◌, ◌^◌, ◌≤◌, ◌<◌}
use mathlib.Core.List.{List, [], ◌∷◌, ◌++◌}
use native.Mathlib.Omega.{arith}
use native.Mathlib.Decide.{dec_lt}
use native.Mathlib.Numerals.{add-one}
use native.Mathlib.Nat.{add-zero, add-suc}
use borrow.Rule.Slice.PartMut.{put_mid}
use borrow.Author.Tests.{le-ltb}
use lib.Dec.{lit<}
use lib.ListN.{length, get_or, set, take, drop, length-set, get_or-eq_default}
use mir.Val.{bool_byte}
use Rattle.standard.specs.Lists.{list_from}
use Rattle.standard.specs.Bits.{bit_at, field, bytes_of}
use Rattle.standard.specs.Record.{index_of, half_of}
use Rattle.standard.specs.Calls.{over}
use Rattle.standard.specs.declared.Record.{Record}
use Rattle.standard.specs.declared.Said.{Said}
use Rattle.standard.proofs.Lists.{length-list_from, get_d_list, list_from_is}
use Rattle.standard.proofs.Bits.{field_lt}
use Rattle.standard.proofs.Filling.{listed_none, listed_more, listed_all, front_more, part_long}
use Rattle.standard.proofs.Words.{byte_weight}
use Rattle.bits.specs.PutField.{bit_with, put_field}
use Rattle.bits.proofs.PutField.{length-put_field, put_field-none, put_field_step, put_field_byte}
use Rattle.forms.specs.RecordBytes.{half_byte, record_byte}
use Rattle.forms.specs.PlanBytes.{plan_length, plan_bytes}
use Rattle.forms.specs.HeardBytes.{said_kind, said_bits, heard_byte, heard_length, heard_bytes}

-- ---- bytes of a number in a buffer

-- elements that are bytes
abbrev pub Bytes : List ℕ → Type 0
Bytes s = (i : ℕ) → get_or s i 0 < 256

bytes-put : (s : List ℕ) (p k v : ℕ) → Bytes (put_field s p k v)
unfolding put_field bytes_of
bytes-put s p k v i = go (dec_lt i (length s))
  where
    f : ℕ → ℕ
    f m = field (bit_with (bit_at s) p k v) (8 * m) 8

    go : Dec (i < length s) → get_or (list_from f 0 (length s)) i 0 < 256
    go (yes h) = rw (get_d_list f 0 (length s) i h) (field_lt (bit_with (bit_at s) p k v) (8 * i) 8)
    go (no h) =
        let past : length (list_from f 0 (length s)) ≤ i = omega (arith, length-list_from f 0 (length s)) in
        rw (get_or-eq_default (list_from f 0 (length s)) 0 past) (lit< tt)

-- a buffer d that is filled from the front as f says: n bytes more, those of a number w
module _ (f : ℕ → ℕ) (d : List ℕ) (i w : ℕ) where
  number_put : (n : ℕ) (s : List ℕ) → Bytes s → i + n ≤ length d → length s ≡ length d
      → ((q : ℕ) → q < n → w / 2 ^ (8 * q) % 256 ≡ f (i + q))
      → s ≡ list_from f 0 i ++ drop i d → put_field s (8 * i) (8 * n) w ≡ list_from f 0 (i + n) ++ drop (i + n) d
  number_put zero s b h l same e = put_field-none s (8 * i) w b ∙ e ∙ ap (λ (k : ℕ). list_from f 0 k ++ drop k d) (sym (add-zero i))
  number_put (suc n) s b h l same e =
      let t = put_field s (8 * i) (8 * n) w in
      let v = w / 2 ^ (8 * n) in
      let k : 8 * suc n ≡ 8 * n + 8 = omega arith in
      let p : 8 * i + 8 * n ≡ 8 * (i + n) = omega arith in
      ap (λ (m : ℕ). put_field s (8 * i) m w) k ∙ sym (put_field_step s t (put_field t (8 * i + 8 * n) 8 v) (8 * i) (8 * n) 8 w refl refl)
      ∙ ap (λ (m : ℕ). put_field t m 8 v) p
      ∙ sym (put_field_byte t (i + n) v (bytes-put s (8 * i) (8 * n) w) (omega (arith, length-put_field s (8 * i) (8 * n) w)))
      ∙ listed_more f d t (i + n) (v % 256) (number_put n s b (omega arith) l (λ q a. same q (omega arith)) e) (omega arith)
      (same n (omega arith))
      ∙ ap (λ (m : ℕ). list_from f 0 m ++ drop m d) (add-one (i + n) ∙ sym (add-suc i n))

-- ---- the parts of a record

module _ (r : Record) where
  -- a half's byte q
  pub half_byte_lem : (h q : ℕ) → q < 8 → record_byte r (9 + 8 * h + q) ≡ half_of r h / 2 ^ (8 * q) % 256
  unfolding record_byte
  half_byte_lem h q l =
      let k = 9 + 8 * h + q in
      let d : (k - 9) / 8 ≡ h = omega arith in
      let m : (k - 9) % 8 ≡ q = omega arith in
      rw (le-ltb k 1 (omega arith), le-ltb k 2 (omega arith), le-ltb k 3 (omega arith), le-ltb k 9 (omega arith))
      (ap₂ (λ (x y : ℕ). get_or r.mask x 0 / 2 ^ (8 * y) % 256) d m)

  -- the head in a buffer: the first three bytes, and behind them the indices
  abbrev three : List ℕ → List ℕ
  three d = set (set (set d 0 (bool_byte r.granted)) 1 r.drn) 2 (bool_byte r.acknowledge)

  pub head_put : (d index : List ℕ) → 9 ≤ length d → index ≡ r.index → length index ≡ length (take 6 (drop 3 (three d)))
      → put_mid 3 6 (three d) index ≡ list_from (record_byte r) 0 9 ++ drop 9 d
  unfolding list_from record_byte
  head_put d index h e l =
      let more = listed_more (record_byte r) d in
      let first = more _ 2 _ (more _ 1 _ (more d 0 _ (listed_none (record_byte r) d) (omega arith) (byte_weight r.granted)) (omega arith) refl)
      (omega arith) (byte_weight r.acknowledge) in
      let long : 9 ≤ length (three d) = simp length-set h in
      let six : length r.index ≡ 6 = ap length (sym e) ∙ l ∙ part_long (three d) 3 6 long in
      let listed : index ≡ list_from (λ i. index_of r i) 0 6 = e ∙ list_from_is (λ i. index_of r i) 0 6 r.index six (λ i h. refl) in
      ap (λ (x : List ℕ). put_mid 3 6 x index) first ∙ front_more (list_from (record_byte r) 0 3) index d 3 6 refl
      ∙ ap (λ (x : List ℕ). (list_from (record_byte r) 0 3 ++ x) ++ drop 9 d) listed

  -- a half more
  pub half_put : (d s : List ℕ) (h : ℕ) → h < 12 → 105 ≤ length s → length s ≡ length d → Bytes s
      → s ≡ list_from (record_byte r) 0 (9 + 8 * h) ++ drop (9 + 8 * h) d
      → put_field s (8 * (9 + 8 * h)) 64 (half_of r h) ≡ list_from (record_byte r) 0 (9 + 8 * (h + 1)) ++ drop (9 + 8 * (h + 1)) d
  half_put d s h l n m b e =
      let k : 9 + 8 * h + 8 ≡ 9 + 8 * (h + 1) = omega arith in
      number_put (record_byte r) d (9 + 8 * h) (half_of r h) 8 s b (omega arith) m (λ q a. sym (half_byte_lem h q a)) e
      ∙ ap (λ (x : ℕ). list_from (record_byte r) 0 x ++ drop x d) k

-- ---- words from the first byte on

-- word k of ws, behind those before it
word-put : (ws d s : List ℕ) (k : ℕ) → 8 * k + 8 ≤ length d → length s ≡ length d → Bytes s → s ≡ list_from (half_byte ws) 0 (8 * k) ++ drop (8 * k) d
    → put_field s (8 * (8 * k)) 64 (get_or ws k 0) ≡ list_from (half_byte ws) 0 (8 * k + 8) ++ drop (8 * k + 8) d
word-put ws d s k h l b e =
    number_put (half_byte ws) d (8 * k) (get_or ws k 0) 8 s b h l (λ q a. byte q a) e
  where
    byte : (q : ℕ) → q < 8 → get_or ws k 0 / 2 ^ (8 * q) % 256 ≡ half_byte ws (8 * k + q)
    byte q a =
        let x : (8 * k + q) / 8 ≡ k = omega arith in
        let y : (8 * k + q) % 8 ≡ q = omega arith in
        sym (ap₂ (λ (i j : ℕ). get_or ws i 0 / 2 ^ (8 * j) % 256) x y)

pub plan_put : (halves : List ℕ) (sum : ℕ) (d a b c : List ℕ) → plan_length ≤ length d → Bytes d → a ≡ put_field d (8 * 0) 64 (get_or halves 0 0)
    → b ≡ put_field a (8 * 8) 64 (get_or halves 1 0) → c ≡ put_field b (8 * 16) 64 sum → c ≡ over (plan_bytes halves sum) d
unfolding plan_bytes
plan_put halves sum d a b c h k ea eb ec =
    let ws = get_or halves 0 0 ∷ get_or halves 1 0 ∷ sum ∷ [] in
    let la : length a ≡ length d = ap length ea ∙ length-put_field d (8 * 0) 64 (get_or halves 0 0) in
    let lb : length b ≡ length d = ap length eb ∙ length-put_field a (8 * 8) 64 (get_or halves 1 0) ∙ la in
    let fa = ea ∙ word-put ws d d 0 (omega arith) refl k (listed_none (half_byte ws) d) in
    let fb = eb ∙ word-put ws d a 1 (omega arith) la (rw ea (bytes-put d (8 * 0) 64 (get_or halves 0 0))) fa in
    listed_all (half_byte ws) d c 24 (ec ∙ word-put ws d b 2 (omega arith) lb (rw eb (bytes-put a (8 * 8) 64 (get_or halves 1 0))) fb)

-- ---- what is said: its kind, and then its bits

bytes-set : (d : List ℕ) (k : ℕ) → Bytes d → k < 256 → Bytes (set d 0 k)
bytes-set [] k b h i = b i
bytes-set (x ∷ d) k b h zero = h
bytes-set (x ∷ d) k b h (suc i) = b (suc i)

pub heard-put : (x : Said) (k w : ℕ) (d c : List ℕ) → heard_length ≤ length d → Bytes d → k < 256 → k ≡ said_kind x → w ≡ said_bits x
    → c ≡ put_field (set d 0 k) (8 * 1) (8 * 7) w → c ≡ over (heard_bytes x) d
unfolding heard_bytes heard_byte
heard-put x k w d c h b small ek ew p =
    listed_all (heard_byte x) d c 8
    (p
    ∙ number_put (heard_byte x) d 1 w 7 (set d 0 k) (bytes-set d k b small) (omega arith) (length-set d 0 k) low
    (listed_more (heard_byte x) d d 0 k (listed_none (heard_byte x) d) (omega arith) ek))
  where
    low : (q : ℕ) → q < 7 → w / 2 ^ (8 * q) % 256 ≡ heard_byte x (1 + q)
    low q l =
        let e : 1 + q - 1 ≡ q = omega arith in
        ap (λ (y : ℕ). y / 2 ^ (8 * q) % 256) ew ∙ sym (rw (le-ltb (1 + q) 1 (omega arith), e) refl)
