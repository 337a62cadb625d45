-- The reader ignores reserved bits, fill and padding. Assumes nothing.
use mathlib.Core.Path.{◌≡◌, refl, sym, ap, ap₂, ◌∙◌}
use Prim.Native.Nat.{ℕ, zero, suc, ◌+◌, ◌*◌, ◌/◌, ◌%◌, ◌≤◌, ◌<◌}
use mathlib.Core.Bool.{Bool, true, false, cond, not, ◌&&◌, ◌||◌}
use mathlib.Core.List.{◌∷◌}
use native.Mathlib.Decide.{dec_le}
use native.Mathlib.Omega.{arith}
use borrow.Author.Tests.{ltb-true, le-leb, lt-leb, not-true}
use lib.Dec.{T, eqb, leb, ltb}
use Rattle.standard.specs.Lists.{list_from, any, largest}
use Rattle.standard.specs.First.{test, first}
use Rattle.standard.specs.Bits.{bit_at, field}
use Rattle.standard.specs.Record.{top_index, no_record}
use Rattle.standard.specs.Cp.{gamma, run_place, index_place, start_bit, cp_crc, index_in, mask_bit_in, half_in, record_in, crc_matches, start_bit_set}
use Rattle.standard.specs.Cp.{within, reserved, ignored}
use Rattle.standard.specs.Refusals.{count_too_small, sync_broken, index_too_large, length_wrong, fixed_bit_wrong, rate_tests, read_tests}
use Rattle.standard.specs.Calls.{accepted, ReadCall, read_refusal, read_record}
use Rattle.standard.specs.declared.Record.{Record}
use Rattle.standard.proofs.Lists.{list_from_ext, every, every_at, and_left, and_right, T→true, largest_ext}
use Rattle.standard.proofs.Bits.{field_ext}
use Rattle.standard.proofs.Crc.{crc_over_ext}
use Rattle.theorems_cp.specs.Ignored.{top_read, SameBit, SameButFill, SameButIgnored, SameCount, SameMatch, SameRead, ReaderIgnores}

any_ext : (f f' : ℕ → Bool) (i n : ℕ) → ((k : ℕ) → i ≤ k → k < i + n → f k ≡ f' k) → any f i n ≡ any f' i n
unfolding any
any_ext f f' i zero h = refl
any_ext f f' i (suc n) h = ap₂ ◌||◌ (any_ext f f' i n (λ k a b. h k a (omega arith))) (h (i + n) (omega arith) (omega arith))

pub past : (a b n : ℕ) → a ≤ n → b < n → within a b n ≡ false
past a b n h k = ap₂ ◌&&◌ (le-leb a n h) (lt-leb n b k)

-- from the masks on no bit is reserved
pub none-reserved : (n : ℕ) → 137 ≤ n → reserved n ≡ false
none-reserved n h =
    rw (
      past 25 29 n (omega arith) (omega arith),
      past 35 50 n (omega arith) (omega arith),
      past 52 67 n (omega arith) (omega arith),
      past 69 84 n (omega arith) (omega arith),
      past 86 101 n (omega arith) (omega arith),
      past 129 135 n (omega arith) (omega arith),
    )

-- a bit before the masks that is not reserved
abbrev plain : ℕ → Bool
plain n = ltb n 137 && not (reserved n)

index_plain : T (every (λ i. every (λ j. plain ((index_place i).at + j)) 4) 6)
index_plain = tt

module _ (f f' : ℕ → Bool) where
  abbrev g : ℕ
  g = top_index (record_in f)

  module _ (same : (n : ℕ) → n < 273 + gamma g → reserved n ≡ false → f n ≡ f' n) where
    low : (n : ℕ) → T (plain n) → f n ≡ f' n
    low n t =
        let h : n < 137 = ltb-true n 137 (T→true _ (and_left (ltb n 137) (not (reserved n)) t)) in
        same n (omega arith) (not-true _ (T→true _ (and_right (ltb n 137) (not (reserved n)) t)))

    high : (n : ℕ) → 137 ≤ n → n < 273 + gamma g → f n ≡ f' n
    high n a b = same n b (none-reserved n a)

    low_field : (p k : ℕ) → T (every (λ j. plain (p + j)) k) → field f p k ≡ field f' p k
    low_field p k t = field_ext f f' p p k (λ j h. low (p + j) (every_at (λ j. plain (p + j)) k t j h))

    index_same : (i : ℕ) → i < 6 → index_in f i ≡ index_in f' i
    index_same i h = low_field (index_place i).at 4 (every_at (λ i. every (λ j. plain ((index_place i).at + j)) 4) 6 index_plain i h)

    top_is : g ≡ largest (index_in f) 6
    unfolding top_index largest record_in list_from
    top_is = refl

    top_same : largest (index_in f) 6 ≡ largest (index_in f') 6
    top_same = largest_ext (index_in f) (index_in f') 6 index_same

    half_same : (h : ℕ) → half_in f (largest (index_in f) 6) h ≡ half_in f' (largest (index_in f) 6) h
    unfolding half_in mask_bit_in
    half_same h = go (dec_le (h / 2) (largest (index_in f) 6))
      where
        go : Dec (h / 2 ≤ largest (index_in f) 6) → half_in f (largest (index_in f) 6) h ≡ half_in f' (largest (index_in f) 6) h
        go (yes l) = rw (le-leb (h / 2) (largest (index_in f) 6) l)
            (field_ext (mask_bit_in f (h / 2)) (mask_bit_in f' (h / 2)) (64 * (h % 2)) (64 * (h % 2)) 64
            (λ j k. high (run_place (h / 2) ((64 * (h % 2) + j) / 16) + (64 * (h % 2) + j) % 16) (omega arith) (omega (arith, top_is))))
        go (no l) = rw (lt-leb (h / 2) (largest (index_in f) 6) (omega arith))

    record_same : record_in f ≡ record_in f'
    unfolding record_in
    record_same =
        let a = low 18 tt in
        let b = low_field 20 5 tt in
        let c = low 33 tt in
        let d = list_from_ext (index_in f) (index_in f') 6 index_same in
        let e = list_from_ext (half_in f (largest (index_in f) 6)) (half_in f' (largest (index_in f') 6)) 12
        (λ h k. half_same h ∙ ap (λ (x : ℕ). half_in f' x h) top_same) in
        λ i. record { granted = a i; drn = b i; acknowledge = c i; index = d i; mask = e i }

    sync_same : sync_broken f ≡ sync_broken f'
    unfolding sync_broken
    sync_same = any_ext (λ n. not (f n)) (λ n. not (f' n)) 0 17 (λ n a b. ap not (low n (every_at plain 17 tt n (omega arith))))

    fixed_same : fixed_bit_wrong f ≡ fixed_bit_wrong f'
    unfolding fixed_bit_wrong any
    fixed_same = rw (low 19 tt, low 30 tt, low 31 tt, low 32 tt, low 128 tt)

    starts_plain : T (every (λ i. plain (17 * i)) 9)
    starts_plain = tt

    starts-same : start_bit_set f g ≡ start_bit_set f' (top_index (record_in f'))
    unfolding start_bit_set
    starts-same =
        any_ext (λ i. f (17 * i)) (λ i. f' (17 * i)) 1 (16 + 8 * g) (λ i a b. go i b (dec_le 9 i))
        ∙ ap (λ (r : Record). start_bit_set f' (top_index r)) record_same
      where
        go : (i : ℕ) → i < 1 + (16 + 8 * g) → Dec (9 ≤ i) → f (17 * i) ≡ f' (17 * i)
        go i b (yes l) = high (17 * i) (omega arith) (omega arith)
        go i b (no l) = low (17 * i) (every_at (λ i. plain (17 * i)) 9 starts_plain i (omega arith))

module _ (c d : ReadCall) where
  abbrev fᶜ : ℕ → Bool
  fᶜ = bit_at c.bytes

  abbrev fᵈ : ℕ → Bool
  fᵈ = bit_at d.bytes

  -- every bit below the CRC that is not reserved is the same
  abbrev Same : Type 0
  Same = (n : ℕ) → n < 273 + gamma (top_read c) → reserved n ≡ false → SameBit c d n

  module _ (count : SameCount c d) (match : SameMatch c d) (same : Same) where
    tests_same : read_tests c.bytes c.bit_count ≡ read_tests d.bytes d.bit_count
    unfolding read_tests
    tests_same =
        let r = record_same fᶜ fᵈ same in
        let sync = sync_same fᶜ fᵈ same in
        let starts = starts-same fᶜ fᵈ same in
        let fixed = fixed_same fᶜ fᵈ same in
        λ i.
        test 1 (count.1 i) ∷
        test 2 (count_too_small (count.0 i)) ∷
        test 3 (sync i) ∷
        test 4 (index_too_large (r i)) ∷
        test 5 (length_wrong (count.0 i) (top_index (r i))) ∷
        test 6 (starts i) ∷
        test 7 (not (match i)) ∷
        test 8 (fixed i) ∷
        rate_tests (r i)

    refusal_same : read_refusal c ≡ read_refusal d
    unfolding read_refusal
    refusal_same = ap first tests_same

    read_same : SameRead c d
    unfolding read_record
    read_same = let r = record_same fᶜ fᵈ same in (refusal_same, λ i. cond (accepted (refusal_same i)) (r i) no_record)

  but_fill : SameButFill c d → Same
  but_fill same n h e = same n (omega arith)

  but_ignored : SameButIgnored c d → Same
  unfolding ignored
  but_ignored same n h e =
      same n
      (ap₂ ◌||◌ (ap₂ ◌||◌ e (lt-leb _ n (omega arith)))
      (ap (λ (x : Bool). x && leb n (288 + gamma (top_read c))) (lt-leb _ n (omega arith))))

  crc_same : SameButFill c d → SameMatch c d
  unfolding crc_matches cp_crc
  crc_same same =
      let g = top_read c in
      ap₂ eqb (crc_over_ext start_bit fᶜ fᵈ 18 (254 + gamma g) (λ j h. same (18 + j) (omega arith)))
      (field_ext fᶜ fᵈ (273 + gamma g) (273 + gamma g) 16 (λ j h. same (273 + gamma g + j) (omega arith)))
      ∙ ap (λ (r : Record). crc_matches fᵈ (top_index r)) (record_same fᶜ fᵈ (but_fill same))

read_is : (c : ReadCall) → accepted (read_refusal c) ≡ true → read_record c ≡ record_in (bit_at c.bytes)
unfolding read_record
read_is c ok = rw ok

pub reader_ignores : ReaderIgnores
reader_ignores =
    record {
      fill = λ c d count same. read_same c d count (crc_same c d same) (but_fill c d same);
      all = λ c d count match same. read_same c d count match (but_ignored c d same);
      one_record = λ c d same a b. read_is c a ∙ record_same _ _ (but_ignored c d same) ∙ sym (read_is d b);
    }
