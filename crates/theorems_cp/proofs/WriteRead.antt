-- Writing then reading returns the record. Assumes nothing.
use mathlib.Core.Path.{◌≡◌, refl, sym, ap, ap₂, subst, ◌∙◌}
use mathlib.Core.Logic.{inl}
use Prim.Native.Nat.{ℕ, zero, suc, ◌+◌, ◌-◌, ◌*◌, ◌/◌, ◌%◌, ◌^◌, ◌≤◌, ◌<◌}
use mathlib.Core.Bool.{Bool, true, false, not}
use mathlib.Core.List.{List, [], ◌∷◌, ◌++◌}
use native.Mathlib.Decide.{dec_le}
use native.Mathlib.Nat.{div-one, mod-eq_of_lt}
use native.Mathlib.Omega.{arith}
use borrow.Author.Tests.{ltb-false, le-ltb, le-leb, lt-leb, eqb-true, eq-eqb, not-true}
use lib.Dec.{T, lit<, lit≤, eqb}
use lib.ListN.{length, drop, length-append}
use Rattle.standard.specs.Lists.{list_from, any, largest}
use Rattle.standard.specs.First.{bare, test, first}
use Rattle.standard.specs.Bits.{weight, bit, bit_at, field}
use Rattle.standard.specs.Record.{index_of, top_index, half_of, in_mask}
use Rattle.standard.specs.Cp.{gamma, cp_length, cp_byte_count, run_place, start_bit, cp_crc, bit_in, head_fields, cp_body, cp_bit, cp_bytes, index_in}
use Rattle.standard.specs.Cp.{mask_bit_in, half_in, record_in, crc_matches, start_bit_set}
use Rattle.standard.specs.Refusals.{count_exceeds_bytes, count_too_small, sync_broken, index_too_large, length_wrong, fixed_bit_wrong, drn_too_large}
use Rattle.standard.specs.Refusals.{mask_above_indices, rate_tests, record_tests, read_tests, write_tests}
use Rattle.standard.specs.Calls.{accepted, read_refusal, read_record, write_refusal, write_bit_count, write_bytes}
use Rattle.standard.specs.declared.Record.{Record}
use Rattle.standard.proofs.Lists.{list_from_is, none_any, every, every_at, T→true, largest_ext}
use Rattle.standard.proofs.First.{None, first-none, none_first, none_split}
use Rattle.standard.proofs.Bits.{field_ext, field_is, field-number, bit_at-bytes, length-bytes_of}
use Rattle.standard.proofs.Crc.{crc_over-lt, crc_over_ext}
use Rattle.standard.proofs.Cp.{covered, bit_in-none, cp_body_lem, cp_head, cp-mask, cp_crc_lem, cp-zero}
use Rattle.standard.proofs.Refusals.{index-le, top_lt, half_zero, write_numbered}
use Rattle.theorems_cp.specs.RoundTrip.{Shaped, WriteThenRead}

bit-weight : (b : Bool) → bit (weight b) 0 ≡ b
bit-weight true = refl
bit-weight false = refl

module _ (r : Record) (shaped : Shaped r) (short : Bool) (ok : (first (write_tests r short)).number ≡ 0) (t : List ℕ) where
  abbrev g : ℕ
  g = top_index r

  abbrev s : List ℕ
  s = cp_bytes r ++ t

  abbrev f : ℕ → Bool
  f = bit_at s

  passed : None (write_tests r short)
  passed = none_first (write_tests r short) (write_numbered r short) ok

  index : index_too_large r ≡ false
  unfolding write_tests record_tests
  index = passed.0

  rates_above : None (rate_tests r ++ (test 12 (mask_above_indices r) ∷ []))
  unfolding write_tests record_tests
  rates_above = (none_split (rate_tests r ++ (test 12 (mask_above_indices r) ∷ [])) (test 17 short ∷ []) passed.1).0

  rates : None (rate_tests r)
  rates = (none_split (rate_tests r) (test 12 (mask_above_indices r) ∷ []) rates_above).0

  top : g < 6
  top = top_lt r index

  drn_le : r.drn ≤ 28
  unfolding rate_tests drn_too_large
  drn_le = ltb-false 28 r.drn rates.0

  above : mask_above_indices r ≡ false
  above = (none_split (rate_tests r) (test 12 (mask_above_indices r) ∷ []) rates_above).1.0

  bit_is : (n : ℕ) → n < 8 * cp_byte_count g → f n ≡ cp_bit r n
  unfolding cp_bytes
  bit_is n h = bit_at-bytes (cp_byte_count g) (cp_bit r) t n h

  head_bit : (n : ℕ) → n < 137 → f n ≡ bit_in (head_fields r) n
  head_bit n h = bit_is n (omega arith) ∙ cp_head r n h

  -- a field of the head that holds v
  head_field : (p k v : ℕ) → p + k ≤ 137 → v < 2 ^ k → field (bit_in (head_fields r)) p k ≡ field (bit v) 0 k → field f p k ≡ v
  head_field p k v h l e =
      field_ext f (bit_in (head_fields r)) p p k (λ j b. head_bit (p + j) (omega arith))
      ∙ e ∙ field-number v 0 k ∙ ap (λ (x : ℕ). x % 2 ^ k) (div-one v) ∙ mod-eq_of_lt l

  index_is : (i : ℕ) → i < 6 → index_in f i ≡ index_of r i
  unfolding field bit_in head_fields
  index_is zero h = head_field 103 4 (index_of r 0) (lit≤ tt) (omega (arith, index-le r index 0 h)) refl
  index_is (suc zero) h = head_field 107 4 (index_of r 1) (lit≤ tt) (omega (arith, index-le r index 1 h)) refl
  index_is (suc (suc zero)) h = head_field 111 4 (index_of r 2) (lit≤ tt) (omega (arith, index-le r index 2 h)) refl
  index_is (suc (suc (suc zero))) h = head_field 115 4 (index_of r 3) (lit≤ tt) (omega (arith, index-le r index 3 h)) refl
  index_is (suc (suc (suc (suc zero)))) h = head_field 120 4 (index_of r 4) (lit≤ tt) (omega (arith, index-le r index 4 h)) refl
  index_is (suc (suc (suc (suc (suc zero))))) h = head_field 124 4 (index_of r 5) (lit≤ tt) (omega (arith, index-le r index 5 h)) refl
  index_is (suc (suc (suc (suc (suc (suc i)))))) h = absurd (omega arith)

  top_is : largest (index_in f) 6 ≡ g
  unfolding top_index
  top_is = largest_ext (index_in f) (index_of r) 6 index_is

  -- bit j of half h
  half_bit : (h j : ℕ) → h / 2 ≤ g → j < 64 → mask_bit_in f (h / 2) (64 * (h % 2) + j) ≡ bit (half_of r h) j
  unfolding mask_bit_in in_mask
  half_bit h j a b =
      let u : ℕ = 64 * (h % 2) + j in
      let p : 2 * (h / 2) + (64 * (h % 2) + j) / 64 ≡ h = omega arith in
      let q : (64 * (h % 2) + j) % 64 ≡ j = omega arith in
      bit_is (run_place (h / 2) ((64 * (h % 2) + j) / 16) + (64 * (h % 2) + j) % 16) (omega arith)
      ∙ cp-mask r (h / 2) (64 * (h % 2) + j) a (omega arith) ∙ ap₂ (λ (x y : ℕ). bit (half_of r x) y) p q

  half_is : (h : ℕ) → h < 12 → half_in f (largest (index_in f) 6) h ≡ half_of r h
  unfolding half_in
  half_is h b = ap (λ (x : ℕ). half_in f x h) top_is ∙ go (dec_le (h / 2) g)
    where
      go : Dec (h / 2 ≤ g) → half_in f g h ≡ half_of r h
      go (yes l) = rw (le-leb (h / 2) g l)
          (field_is (mask_bit_in f (h / 2)) (64 * (h % 2)) 64 (half_of r h) (λ j k. half_bit h j l k) (shaped.words h))
      go (no l) = rw (lt-leb (h / 2) g (omega arith)) (sym (half_zero r top above h (omega arith) b))

  record_is : record_in f ≡ r
  unfolding record_in field bit_in head_fields
  record_is =
      let a : f 18 ≡ r.granted = head_bit 18 (lit< tt) ∙ bit-weight r.granted in
      let b : field f 20 5 ≡ r.drn = head_field 20 5 r.drn (lit≤ tt) (omega (arith, drn_le)) refl in
      let c : f 33 ≡ r.acknowledge = head_bit 33 (lit< tt) ∙ bit-weight r.acknowledge in
      let d : list_from (index_in f) 0 6 ≡ r.index = sym
      (list_from_is (index_in f) 0 6 r.index shaped.indices (λ i h. sym (index_is i h))) in
      let e : list_from (half_in f (largest (index_in f) 6)) 0 12 ≡ r.mask =
      sym (list_from_is (half_in f (largest (index_in f) 6)) 0 12 r.mask shaped.halves (λ h k. sym (half_is h k))) in
      λ i. record { granted = a i; drn = b i; acknowledge = c i; index = d i; mask = e i }

  -- ---- the reader's tests

  long : cp_byte_count g ≤ length s
  unfolding cp_bytes
  long = omega (arith, length-append (cp_bytes r) t, length-bytes_of (cp_byte_count g) (cp_bit r))

  sync : sync_broken f ≡ false
  unfolding sync_broken bit_in head_fields
  sync = none_any (λ n. not (f n)) 0 17
      (λ n a b. ap not (head_bit n (omega arith) ∙ T→true (bit_in (head_fields r) n) (every_at (bit_in (head_fields r)) 17 tt n (omega arith))))

  -- start bits before the masks
  head_starts : T (every (λ i. not (covered (head_fields r) (17 * (i + 1)))) 8)
  unfolding head_fields
  head_starts = tt

  start-zero : (i : ℕ) → 1 ≤ i → i < 17 + 8 * g → f (17 * i) ≡ false
  start-zero i a b = bit_is (17 * i) (omega arith) ∙ go (dec_le i 8)
    where
      go : Dec (i ≤ 8) → cp_bit r (17 * i) ≡ false
      go (yes l) =
          let e : 17 * (i - 1 + 1) ≡ 17 * i = omega arith in
          cp_head r (17 * i) (omega arith)
          ∙ bit_in-none (head_fields r) (17 * i)
          (not-true _ (ap (λ (n : ℕ). not (covered (head_fields r) n)) (sym e)
          ∙ T→true _ (every_at (λ i. not (covered (head_fields r) (17 * (i + 1)))) 8 head_starts (i - 1) (omega arith))))
      go (no l) = cp-zero r (17 * i) (omega arith) (inl (omega arith))

  starts : start_bit_set f g ≡ false
  unfolding start_bit_set
  starts = none_any (λ i. f (17 * i)) 1 (16 + 8 * g) (λ i a b. start-zero i a (omega arith))

  crc : crc_matches f g ≡ true
  unfolding crc_matches cp_crc
  crc =
      eq-eqb (cp_crc f g) (field f (273 + gamma g) 16)
      (crc_over_ext start_bit f (bit_in (cp_body r)) 18 (254 + gamma g)
      (λ j h. bit_is (18 + j) (omega arith) ∙ cp_body_lem r (18 + j) (omega arith))
      ∙ sym (field_is f (273 + gamma g) 16 (cp_crc (bit_in (cp_body r)) g)
      (λ j h. bit_is (273 + gamma g + j) (omega arith) ∙ cp_crc_lem r j h) (crc_over-lt start_bit (bit_in (cp_body r)) 18 (254 + gamma g))))

  fixed : fixed_bit_wrong f ≡ false
  unfolding fixed_bit_wrong any bit_in head_fields
  fixed = rw (head_bit 19 (lit< tt), head_bit 30 (lit< tt), head_bit 31 (lit< tt), head_bit 32 (lit< tt), head_bit 128 (lit< tt))

  read_none : first (read_tests s (cp_length g)) ≡ bare 0
  unfolding read_tests count_exceeds_bytes count_too_small length_wrong
  read_none =
      let e : top_index (record_in f) ≡ g = ap top_index record_is in
      first-none (read_tests s (cp_length g)) (
        le-ltb (8 * length s) (cp_length g) (omega (arith, long)),
        (
          le-ltb (cp_length g) 294 (omega arith),
          (
            sync,
            (
              ap index_too_large record_is ∙ index,
              (
                ap (λ (x : ℕ). not (eqb (cp_length g) (cp_length x))) e ∙ ap not (eq-eqb (cp_length g) (cp_length g) refl),
                (
                  ap (start_bit_set f) e ∙ starts,
                  (
                    ap (λ (x : ℕ). not (crc_matches f x)) e ∙ ap not crc,
                    (
                      fixed,
                      subst (λ (x : Record). None (rate_tests x)) (sym record_is) rates,
                    ),
                  ),
                ),
              ),
            ),
          ),
        ),
      )

pub write_then_read : WriteThenRead
unfolding write_refusal write_bytes write_bit_count read_refusal read_record
write_then_read c shaped ok =
    let t = drop (length (cp_bytes c.cp)) c.bytes in
    let number = eqb-true _ 0 ok in
    let none = ap accepted (read_none c.cp shaped _ number t) in
    rw ok (none, rw none (record_is c.cp shaped _ number t))
