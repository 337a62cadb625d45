-- A CP that a file may hold has at most 122 bytes; what the writer writes is one, and reads as its record. Assumes nothing.
use mathlib.Core.Path.{◌≡◌, refl, sym, ap, ap₂, ◌∙◌}
use Prim.Native.Nat.{ℕ, zero, suc, ◌+◌, ◌-◌, ◌≤◌, ◌<◌}
use mathlib.Core.Bool.{Bool, true, false, cond}
use mathlib.Core.List.{List, [], ◌∷◌, ◌++◌, append-nil}
use native.Mathlib.Omega.{arith}
use borrow.Author.Tests.{eqb-true, eq-eqb, le-ltb, not-false}
use lib.Dec.{lit<, eqb}
use lib.ListN.{length}
use lib.Seq.{drop-length}
use Rattle.standard.specs.First.{test, first}
use Rattle.standard.specs.Bits.{bit_at, bytes_for}
use Rattle.standard.specs.Record.{top_index, no_record}
use Rattle.standard.specs.Cp.{cp_length, cp_byte_count, cp_bit, cp_bytes, record_in}
use Rattle.standard.specs.Lists.{list_from}
use Rattle.standard.specs.Refusals.{index_too_large, length_wrong, empty_test, empty_tests, rate_tests, record_tests, read_tests, write_tests}
use Rattle.standard.specs.Calls.{accepted, over, read_call, read_refusal, read_record, write_call, write_refusal, write_bit_count, write_bytes}
use Rattle.standard.specs.declared.Record.{Record}
use Rattle.standard.proofs.First.{None, first-none, none-append}
use Rattle.standard.proofs.Bits.{length-bytes_of}
use Rattle.standard.proofs.Refusals.{top_lt, not_applied}
use Rattle.theorems_cp.specs.RoundTrip.{Shaped}
use Rattle.theorems_cp.proofs.WriteRead.{write_then_read}
use Rattle.standard.specs.Settings.{bit_count_of, readable}
use Rattle.theorems_settings.proofs.Logic.{and_left, and_right, both}

-- ---- its length

read_top_lem : (cp : List ℕ) (n : ℕ) → (first (read_tests cp n)).number ≡ 0
    → (index_too_large (record_in (bit_at cp)) ≡ false) × (length_wrong n (top_index (record_in (bit_at cp))) ≡ false)
unfolding read_tests rate_tests empty_tests empty_test list_from
read_top_lem cp n e =
    let at = not_applied (read_tests cp n) tt e in
    (at 3 (lit< tt), at 4 (lit< tt))

pub readable-short : (cp : List ℕ) → readable cp ≡ true → length cp ≤ 122
unfolding readable length_wrong
readable-short cp e =
    let n : ℕ = bit_count_of (length cp) in
    let p : length cp ≡ bytes_for n = eqb-true (length cp) (bytes_for n) (and_left _ (eqb (first (read_tests cp n)).number 0) e) in
    let q : (first (read_tests cp n)).number ≡ 0 = eqb-true _ 0 (and_right (eqb (length cp) (bytes_for n)) _ e) in
    let g : ℕ = top_index (record_in (bit_at cp)) in
    let h : n ≡ cp_length g = eqb-true n (cp_length g) (not-false (eqb n (cp_length g)) (read_top_lem cp n q).1) in
    let t : g < 6 = top_lt (record_in (bit_at cp)) (read_top_lem cp n q).0 in
    omega arith

-- ---- what the writer writes

pub length-cp : (r : Record) → length (cp_bytes r) ≡ cp_byte_count (top_index r)
unfolding cp_bytes
length-cp r = length-bytes_of (cp_byte_count (top_index r)) (cp_bit r)

-- the six lengths
pub count-back : (g : ℕ) → g < 6 → bit_count_of (cp_byte_count g) ≡ cp_length g
unfolding bit_count_of
count-back zero h = refl
count-back (suc zero) h = refl
count-back (suc (suc zero)) h = refl
count-back (suc (suc (suc zero))) h = refl
count-back (suc (suc (suc (suc zero)))) h = refl
count-back (suc (suc (suc (suc (suc zero))))) h = refl
count-back (suc (suc (suc (suc (suc (suc g)))))) h = let z : ⊥ = omega arith in absurd z

pub record_top : (r : Record) → None (record_tests r) → top_index r < 6
unfolding record_tests
record_top r e = top_lt r e.0

-- 17 is the only test that a writer adds
pub record_write : (r : Record) (s : List ℕ) → cp_byte_count (top_index r) ≤ length s → None (record_tests r)
    → accepted (write_refusal (write_call r s)) ≡ true
unfolding write_refusal write_tests
record_write r s h e =
    ap accepted (first-none (record_tests r ++ (test 17 _ ∷ [])) (none-append (record_tests r) _ e (le-ltb (length s) _ h, tt)))

over_self : (xs : List ℕ) → over xs xs ≡ xs
over_self xs = ap (λ (t : List ℕ). xs ++ t) (drop-length xs) ∙ append-nil xs

module _ (r : Record) (shaped : Shaped r) (e : None (record_tests r)) where
  w : accepted (write_refusal (write_call r (cp_bytes r))) ≡ true
  w = record_write r (cp_bytes r) (omega (arith, length-cp r)) e

  bytes_are : write_bytes (write_call r (cp_bytes r)) ≡ cp_bytes r
  unfolding write_bytes
  bytes_are = rw w (over_self (cp_bytes r))

  count_is : write_bit_count (write_call r (cp_bytes r)) ≡ cp_length (top_index r)
  unfolding write_bit_count
  count_is = rw w

  reads : accepted (read_refusal (read_call (cp_bytes r) (cp_length (top_index r)))) ≡ true
  reads =
      sym (ap₂ (λ (s : List ℕ) (n : ℕ). accepted (read_refusal (read_call s n))) bytes_are count_is)
      ∙ (write_then_read (write_call r (cp_bytes r)) shaped w).0

  pub record_back : record_in (bit_at (cp_bytes r)) ≡ r
  unfolding read_record
  record_back =
      sym (ap (λ (b : Bool). cond b (record_in (bit_at (cp_bytes r))) no_record) reads)
      ∙ sym (ap₂ (λ (s : List ℕ) (n : ℕ). read_record (read_call s n)) bytes_are count_is)
      ∙ (write_then_read (write_call r (cp_bytes r)) shaped w).1

  pub readable-cp : readable (cp_bytes r) ≡ true
  unfolding readable read_refusal
  readable-cp =
      let n : bit_count_of (length (cp_bytes r)) ≡ cp_length (top_index r) = ap bit_count_of (length-cp r)
      ∙ count-back (top_index r) (record_top r e) in
      both _ _ (eq-eqb (length (cp_bytes r)) _ (length-cp r ∙ ap (λ (k : ℕ). bytes_for k) (sym n)))
      (ap (λ (k : ℕ). accepted (read_refusal (read_call (cp_bytes r) k))) n ∙ reads)
