-- What the writer puts where a record has no field; so reading then writing returns the bytes only where those were zero. Assumes nothing.
use mathlib.Core.Path.{◌≡◌, refl, sym, ap, ap₂, ◌∙◌, subst}
use mathlib.Core.Logic.{inr}
use Prim.Native.Nat.{ℕ, ◌+◌, ◌*◌, ◌/◌, ◌%◌, ◌≤◌, ◌<◌}
use mathlib.Core.Bool.{Bool, true, false, not, ◌&&◌, ◌||◌}
use mathlib.Core.List.{List, [], ◌++◌, append-nil}
use native.Mathlib.Decide.{dec_lt}
use native.Mathlib.Omega.{arith}
use borrow.Author.Tests.{le-ltb, lt-leb, leb-true, eqb-true, ne_eqb, not-true}
use lib.Dec.{T, lit<}
use lib.ListN.{length, take, drop}
use lib.Seq.{get_or-take, length-take-le, take_at}
use Rattle.standard.specs.First.{first}
use Rattle.standard.specs.Bits.{weight, bit, bit_at}
use Rattle.standard.specs.Record.{top_index}
use Rattle.standard.specs.Cp.{gamma, cp_byte_count, bit_in, head_fields, cp_bit, cp_bytes, record_in, reserved, ignored}
use Rattle.standard.specs.Refusals.{shorter, read_tests}
use Rattle.standard.specs.Calls.{accepted, over, read_refusal, read_record, write_refusal, write_bytes}
use Rattle.standard.specs.declared.Record.{Record}
use Rattle.standard.proofs.Lists.{every, every_at, T→true}
use Rattle.standard.proofs.Bits.{length-bytes_of, bit_at-bytes}
use Rattle.standard.proofs.Cp.{covered, bit_in-none, cp_head, cp-zero}
use Rattle.theorems_cp.specs.RoundTrip.{IgnoredZero, OnlyWhereZero, cleared, Puts, WriterPuts}
use Rattle.theorems_cp.proofs.Ignored.{past, none-reserved}
use Rattle.theorems_cp.proofs.ReadWrite.{or_right, long, write_none}

left : (a b : Bool) → b ≡ false → a || b ≡ true → a ≡ true
left true b p q = refl
left false b p q = sym (sym q ∙ p)

right : (a b : Bool) → a ≡ false → a || b ≡ true → b ≡ true
right true b p q = cc
right false b p q = q

or_left : (a b : Bool) → a ≡ true → a || b ≡ true
or_left true b e = refl
or_left false b e = cc

-- what is cleared stands before the masks
none-cleared : (k : ℕ) → 137 ≤ k → cleared k ≡ false
none-cleared k h = ap₂ ◌||◌ (past _ _ k (omega arith) (omega arith)) (ne_eqb k 128 (λ (e : k ≡ 128). omega arith))

cleared-lt : (k : ℕ) → cleared k ≡ true → k < 137
cleared-lt k e = go (dec_lt k 137)
  where
    go : Dec (k < 137) → k < 137
    go (yes l) = l
    go (no l) = absurd (let z : ◌≡◌ {A = ℕ} 0 1 = ap weight (sym (none-cleared k (omega arith)) ∙ e) in omega arith)

module _ (x : Record) where
  abbrev g : ℕ
  g = top_index x

  -- bits before the masks that no field has
  abbrev free : ℕ → Bool
  free k = cleared k || reserved k

  all_free : T (every (λ k. not (free k && covered (head_fields x) k)) 137)
  unfolding head_fields
  all_free = tt

  free_bit : (k : ℕ) → k < 137 → free k ≡ true → cp_bit x k ≡ false
  free_bit k h e =
      cp_head x k h
      ∙ bit_in-none (head_fields x) k
      (off (free k) _ e (T→true _ (every_at (λ k. not (free k && covered (head_fields x) k)) 137 all_free k h)))
    where
      off : (a b : Bool) → a ≡ true → not (a && b) ≡ true → b ≡ false
      off true b p q = not-true b q
      off false b p q = cc

  ignored-bit : (k : ℕ) → ignored g k ≡ true → cp_bit x k ≡ false
  unfolding ignored
  ignored-bit k e = go (dec_lt k 137)
    where
      go : Dec (k < 137) → cp_bit x k ≡ false
      go (yes l) =
          free_bit k l (or_right (cleared k) _ (left (reserved k) _ (lt-leb (289 + gamma g) k (omega arith)) e))
      go (no l) = cp-zero x k (omega arith) (inr (leb-true (289 + gamma g) k (right (reserved k) _ (none-reserved k (omega arith)) e)))

  -- a buffer that begins with the record's bytes
  module _ (t : List ℕ) where
    bit_is : (k : ℕ) → k < 8 * cp_byte_count g → bit_at (cp_bytes x ++ t) k ≡ cp_bit x k
    unfolding cp_bytes
    bit_is k h = bit_at-bytes (cp_byte_count g) (cp_bit x) t k h

    ignored-zero : IgnoredZero (cp_bytes x ++ t) g
    ignored-zero k h e = bit_is k (omega arith) ∙ ignored-bit k e

    puts : Puts (cp_bytes x ++ t) g
    unfolding bit_in head_fields
    puts =
        record {
          one = bit_is 19 (omega arith) ∙ cp_head x 19 (lit< tt);
          zeros = λ k e. let l = cleared-lt k e in bit_is k (omega arith) ∙ free_bit k l (or_left (cleared k) _ e);
          ignored_zero = ignored-zero;
        }

pub writer_puts : WriterPuts
unfolding write_bytes
writer_puts c ok = rw ok (puts c.cp (drop (length (cp_bytes c.cp)) c.bytes))

-- ---- reading then writing

-- bytes that are those of the record x
only_zero : (x : Record) (s : List ℕ) → cp_bytes x ≡ take (cp_byte_count (top_index x)) s → IgnoredZero s (top_index x)
unfolding bit_at
only_zero x s e k h i =
    let m = cp_byte_count (top_index x) in
    let l : k / 8 < cp_byte_count (top_index x) = omega arith in
    sym (ap (λ (z : ℕ). bit z (k % 8)) (get_or-take m s (k / 8) 0 l))
    ∙ ap (λ (z : List ℕ). bit_at z k) (sym (append-nil (cp_bytes x) ∙ e))
    ∙ ignored-zero x [] k h i

-- what is to be shown of the record x that was read
abbrev Only : List ℕ → Record → Type 0
Only s x =
    (buffer : List ℕ) → cp_byte_count (top_index x) ≤ length buffer
    → write_bytes (record { cp = x; bytes = buffer }) ≡ over (take (cp_byte_count (top_index x)) s) buffer → IgnoredZero s (top_index x)

only : (s : List ℕ) (n : ℕ) → (first (read_tests s n)).number ≡ 0 → Only s (record_in (bit_at s))
unfolding write_refusal write_bytes cp_bytes
only s n ok buffer h e =
    let x = record_in (bit_at s) in
    let m = cp_byte_count (top_index x) in
    let none = ap accepted (write_none s n ok (shorter buffer m) (le-ltb (length buffer) m h)) in
    let same : over (cp_bytes x) buffer ≡ over (take m s) buffer = rw none at e in
    only_zero x s
    (sym (take_at (cp_bytes x) (drop (length (cp_bytes x)) buffer) m (length-bytes_of m (cp_bit x)))
    ∙ ap (take m) same
    ∙ take_at (take m s) (drop (length (take m s)) buffer) m (length-take-le m s (long s n ok)))

pub only_where_zero : OnlyWhereZero
unfolding read_refusal read_record
only_where_zero c ok = subst (Only c.bytes) (sym (rw ok)) (only c.bytes c.bit_count (eqb-true _ 0 ok))
