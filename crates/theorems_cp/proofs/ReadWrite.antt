-- Reading then writing returns the bytes where all ignored bits were zero. Assumes nothing.
use mathlib.Core.Path.{◌≡◌, refl, sym, ap, ap₂, ◌∙◌, subst}
use mathlib.Core.Logic.{◌⊎◌, inl, inr}
use Prim.Native.Nat.{ℕ, zero, suc, ◌+◌, ◌-◌, ◌*◌, ◌/◌, ◌%◌, ◌≤◌, ◌<◌, zero-le}
use mathlib.Core.Bool.{Bool, true, false, cond, not, ◌&&◌, ◌||◌}
use mathlib.Core.List.{List, [], ◌∷◌, ◌++◌}
use native.Mathlib.Decide.{dec_le, dec_lt, ℕ_discrete as dec_eq}
use native.Mathlib.Nat.{div-one}
use native.Mathlib.Omega.{arith}
use borrow.Author.Tests.{ltb-false, lt-ltb, le-ltb, le-leb, lt-leb, leb-true, eqb-true, not-false}
use lib.Dec.{T, lit<, eqb, leb, ltb}
use lib.ListN.{length, get_or, take}
use Rattle.standard.specs.Lists.{any, largest}
use Rattle.standard.specs.First.{bare, test, first}
use Rattle.standard.specs.Bits.{weight, odd, bit, bit_at, field}
use Rattle.standard.specs.Record.{index_of, top_index, half_of, in_mask}
use Rattle.standard.specs.Cp.{gamma, cp_length, cp_byte_count, run_place, start_bit, cp_crc, Field, covers, bit_in, head_fields, cp_body, cp_bit}
use Rattle.standard.specs.Cp.{cp_bytes, index_in, mask_bit_in, half_in, record_in, crc_matches, start_bit_set, within, reserved, ignored}
use Rattle.standard.specs.Refusals.{shorter, count_exceeds_bytes, sync_broken, length_wrong, fixed_bit_wrong, mask_above_indices, rate_tests}
use Rattle.standard.specs.Refusals.{record_tests, read_tests, write_tests}
use Rattle.standard.specs.Calls.{accepted, over, read_refusal, read_record, write_refusal, write_bit_count, write_bytes}
use Rattle.standard.specs.declared.Record.{Record}
use Rattle.standard.proofs.Lists.{get_d_list, any_none, or-none, and_both, every, every_at, T→true, largest_ext}
use Rattle.standard.proofs.First.{None, first-none, none_first, none-at, none-append}
use Rattle.standard.proofs.Bits.{odd-weight, field-bit, bytes_of_ext, bytes_back}
use Rattle.standard.proofs.Crc.{crc_over_ext}
use Rattle.standard.proofs.Cp.{covered, cp_body_lem, cp_head, cp-mask, cp_crc_lem, cp-zero}
use Rattle.standard.proofs.Refusals.{top_lt, zero_half, read_numbered, applied}
use Rattle.theorems_cp.specs.RoundTrip.{IgnoredZero, ReadThenWrite}

or-true : (a b : Bool) → T (a || b) → (a ≡ true) ⊎ (T b)
or-true true b t = inl refl
or-true false b t = inr t

pub or_right : (a b : Bool) → b ≡ true → a || b ≡ true
or_right true b e = refl
or_right false b e = e

-- fields that hold what f has in their places, where f has zeros elsewhere
module _ (f : ℕ → Bool) where
  abbrev Agrees : List Field → Type 0
  Agrees [] = Unit {0}
  Agrees (x ∷ xs) = ((j : ℕ) → j < x.width → bit x.value j ≡ f (x.at + j)) × Agrees xs

  agreed : (xs : List Field) → Agrees xs → (n : ℕ) → (covered xs n ≡ false → f n ≡ false) → bit_in xs n ≡ f n
  unfolding bit_in
  agreed [] a n z = sym (z refl)
  agreed (x ∷ xs) a n z = go (agreed xs a.1 n) (dec_le x.at n) (dec_lt n (x.at + x.width))
    where
      none : covers x n ≡ false → covered xs n ≡ false → covered (x ∷ xs) n ≡ false
      none p q = ap₂ ◌||◌ p q

      go : ((covered xs n ≡ false → f n ≡ false) → bit_in xs n ≡ f n) → Dec (x.at ≤ n) → Dec (n < x.at + x.width)
          → cond (covers x n) (bit x.value (n - x.at)) (bit_in xs n) ≡ f n
      go ih (yes l) (yes h) =
          let e : x.at + (n - x.at) ≡ n = omega arith in
          rw (ap₂ ◌&&◌ (le-leb x.at n l) (lt-ltb n (x.at + x.width) h)) (a.0 (n - x.at) (omega arith) ∙ ap f e)
      go ih (yes l) (no h) = let c : covers x n ≡ false = ap₂ ◌&&◌ (le-leb x.at n l) (le-ltb n (x.at + x.width) (omega arith)) in rw c
          (ih (λ q. z (none c q)))
      go ih (no l) d = let c : covers x n ≡ false = ap (λ (b : Bool). b && ltb n (x.at + x.width))
          (lt-leb x.at n (omega arith)) in rw c (ih (λ q. z (none c q)))

module _ (s : List ℕ) (n : ℕ) (ok : (first (read_tests s n)).number ≡ 0) where
  abbrev f : ℕ → Bool
  f = bit_at s

  abbrev r : Record
  r = record_in f

  abbrev g : ℕ
  g = top_index r

  passed : None (read_tests s n)
  passed = none_first (read_tests s n) (read_numbered s n) ok

  -- none of 1 to 8 applies
  not-read : (k : ℕ) → k < 8 → applied (read_tests s n) k ≡ false
  unfolding read_tests
  not-read k h = none-at (read_tests s n) passed k (omega arith) (test 0 true)

  rates : None (rate_tests r)
  unfolding read_tests
  rates = passed.1.1.1.1.1.1.1.1

  top : g < 6
  unfolding read_tests
  top = top_lt r (not-read 3 (lit< tt))

  count_is : n ≡ cp_length g
  unfolding read_tests length_wrong
  count_is = eqb-true n (cp_length g) (not-false _ (not-read 4 (lit< tt)))

  pub long : cp_byte_count g ≤ length s
  unfolding read_tests count_exceeds_bytes
  long = omega (arith, ltb-false (8 * length s) n (not-read 0 (lit< tt)), count_is)

  sync_one : (k : ℕ) → k < 17 → f k ≡ true
  unfolding read_tests sync_broken
  sync_one k h = not-false (f k) (any_none (λ k. not (f k)) 0 17 (not-read 2 (lit< tt)) k zero-le (omega arith))

  start-zero : (k : ℕ) → 17 ≤ k → k ≤ 272 + gamma g → k % 17 ≡ 0 → f k ≡ false
  unfolding read_tests start_bit_set
  start-zero k a b e =
      let z : 17 * (k / 17) ≡ k = omega arith in
      ap f (sym z) ∙ any_none (λ i. f (17 * i)) 1 (16 + 8 * g) (not-read 5 (lit< tt)) (k / 17) (omega arith) (omega arith)

  crc_same : cp_crc f g ≡ field f (273 + gamma g) 16
  unfolding read_tests crc_matches
  crc_same = eqb-true _ _ (not-false _ (not-read 6 (lit< tt)))

  fixed : (f 19 ≡ true) × (((k : ℕ) → 30 ≤ k → k < 33 → f k ≡ false) × (f 128 ≡ false))
  unfolding read_tests fixed_bit_wrong
  fixed =
      let a = or-none (not (f 19) || any f 30 3) (f 128) (not-read 7 (lit< tt)) in
      let b = or-none (not (f 19)) (any f 30 3) a.0 in
      (not-false (f 19) b.0, (any_none f 30 3 b.1, a.1))

  index_is : (i : ℕ) → i < 6 → index_of r i ≡ index_in f i
  unfolding record_in
  index_is i h = get_d_list (index_in f) 0 6 i h

  half_is : (h : ℕ) → h < 12 → half_of r h ≡ half_in f g h
  unfolding record_in top_index
  half_is h b = get_d_list (half_in f (largest (index_in f) 6)) 0 12 h b ∙ ap (λ (x : ℕ). half_in f x h)
      (sym (largest_ext (index_of r) (index_in f) 6 index_is))

  high_zero : (h : ℕ) → 2 * (g + 1) ≤ h → h < 12 → half_of r h ≡ 0
  unfolding half_in
  high_zero h a b = half_is h b ∙ rw (lt-leb (h / 2) g (omega arith))

  -- a mask bit of the record is the bit of the sequence
  mask-bit : (m u : ℕ) → m ≤ g → u < 128 → in_mask r m u ≡ f (run_place m (u / 16) + u % 16)
  unfolding in_mask half_in mask_bit_in
  mask-bit m u a b =
      let d : (2 * m + u / 64) / 2 ≡ m = omega arith in
      let e : 64 * ((2 * m + u / 64) % 2) + u % 64 ≡ u = omega arith in
      let l : (2 * m + u / 64) / 2 ≤ g = omega arith in
      ap (λ (x : ℕ). bit x (u % 64)) (half_is (2 * m + u / 64) (omega (arith, top)))
      ∙ rw (le-leb ((2 * m + u / 64) / 2) g l)
      (field-bit (mask_bit_in f ((2 * m + u / 64) / 2)) (64 * ((2 * m + u / 64) % 2)) 64 (u % 64) (omega arith))
      ∙ ap₂ (mask_bit_in f) d e

  -- ---- the head

  bit-one : (b : Bool) (p j : ℕ) → j < 1 → f p ≡ b → bit (weight b) j ≡ f (p + j)
  bit-one b p zero h e = let z : p + 0 ≡ p = omega arith in ap odd (div-one (weight b)) ∙ odd-weight b ∙ sym (ap f z ∙ e)
  bit-one b p (suc j) h e = absurd (omega arith)

  field_of : (p k v : ℕ) → v ≡ field f p k → (j : ℕ) → j < k → bit v j ≡ f (p + j)
  field_of p k v e j h = ap (λ (x : ℕ). bit x j) e ∙ field-bit f p k j h

  ones : T (every (bit 0x1ffff) 17)
  ones = tt

  head_agrees : Agrees f (head_fields r)
  unfolding head_fields record_in
  head_agrees = (
    λ j h. let z : 0 + j ≡ j = omega arith in T→true (bit 0x1ffff j) (every_at (bit 0x1ffff) 17 ones j h) ∙ sym (ap f z ∙ sync_one j h),
    (
      λ j h. bit-one (f 18) 18 j h refl,
      (
        λ j h. bit-one true 19 j h fixed.0,
        (
          field_of 20 5 r.drn refl,
          (
            λ j h. bit-one (f 33) 33 j h refl,
            (
              field_of 103 4 (index_of r 0) (index_is 0 (lit< tt)),
              (
                field_of 107 4 (index_of r 1) (index_is 1 (lit< tt)),
                (
                  field_of 111 4 (index_of r 2) (index_is 2 (lit< tt)),
                  (
                    field_of 115 4 (index_of r 3) (index_is 3 (lit< tt)),
                    (
                      field_of 120 4 (index_of r 4) (index_is 4 (lit< tt)),
                      (
                        field_of 124 4 (index_of r 5) (index_is 5 (lit< tt)),
                        tt,
                      ),
                    ),
                  ),
                ),
              ),
            ),
          ),
        ),
      ),
    ),
  )

  -- each bit before the masks is in a field, a start bit, a bit that has to be 0, or reserved
  abbrev sort : ℕ → Bool
  sort k = covered (head_fields r) k || (leb 17 k && eqb (k % 17) 0 || (within 30 32 k || (eqb k 128 || reserved k)))

  sorted : T (every sort 137)
  unfolding head_fields
  sorted = tt

  module _ (zeros : IgnoredZero s g) where
    head_zero : (k : ℕ) → k < 137 → covered (head_fields r) k ≡ false → f k ≡ false
    unfolding ignored
    head_zero k h e = in_field (or-true _ _ (every_at sort 137 sorted k h))
      where
        last : (eqb k 128 ≡ true) ⊎ T (reserved k) → f k ≡ false
        last (inl q) = ap f (eqb-true k 128 q) ∙ fixed.1.1
        last (inr q) = zeros k (omega arith) (ap (λ (b : Bool). b || leb (289 + gamma g) k) (T→true (reserved k) q))

        fixed_bit : (within 30 32 k ≡ true) ⊎ T (eqb k 128 || reserved k) → f k ≡ false
        fixed_bit (inl q) =
            let p = and_both (leb 30 k) (leb k 32) q in fixed.1.0 k (leb-true 30 k p.0) (omega (arith, leb-true k 32 p.1))
        fixed_bit (inr q) = last (or-true _ _ q)

        start : (leb 17 k && eqb (k % 17) 0 ≡ true) ⊎ T (within 30 32 k || (eqb k 128 || reserved k)) → f k ≡ false
        start (inl q) =
            let p = and_both (leb 17 k) (eqb (k % 17) 0) q in start-zero k (leb-true 17 k p.0) (omega arith) (eqb-true (k % 17) 0 p.1)
        start (inr q) = fixed_bit (or-true _ _ q)

        in_field : (covered (head_fields r) k ≡ true) ⊎ T (leb 17 k && eqb (k % 17) 0 || (within 30 32 k || (eqb k 128 || reserved k)))
            → f k ≡ false
        in_field (inl q) = absurd (let z : ◌≡◌ {A = ℕ} 0 1 = ap weight (sym e ∙ q) in omega arith)
        in_field (inr q) = start (or-true _ _ q)

    -- ---- every bit of the sequence

    -- bit j of run q of all the masks
    run-bit : (q j : ℕ) → q < 8 * (g + 1) → j < 16 → cp_bit r (137 + 17 * q + j) ≡ f (137 + 17 * q + j)
    run-bit q j a b =
        let e : run_place (q / 8) ((16 * (q % 8) + j) / 16) + (16 * (q % 8) + j) % 16 ≡ 137 + 17 * q + j = omega arith in
        ap (cp_bit r) (sym e) ∙ cp-mask r (q / 8) (16 * (q % 8) + j) (omega arith) (omega arith)
        ∙ mask-bit (q / 8) (16 * (q % 8) + j) (omega arith) (omega arith) ∙ ap f e

    body : (k : ℕ) → k ≤ 272 + gamma g → cp_bit r k ≡ f k
    body k h = go (dec_lt k 137) (dec_eq (k % 17) 0)
      where
        go : Dec (k < 137) → Dec (k % 17 ≡ 0) → cp_bit r k ≡ f k
        go (yes l) d = cp_head r k l ∙ agreed f (head_fields r) head_agrees k (head_zero k l)
        go (no l) (yes z) = cp-zero r k (omega arith) (inl z) ∙ sym (start-zero k (omega arith) h z)
        go (no l) (no z) =
            let e : 137 + 17 * ((k - 137) / 17) + (k - 137) % 17 ≡ k = omega arith in
            ap (cp_bit r) (sym e) ∙ run-bit ((k - 137) / 17) ((k - 137) % 17) (omega arith) (omega arith) ∙ ap f e

    bits : (k : ℕ) → k < 8 * cp_byte_count g → cp_bit r k ≡ f k
    unfolding ignored cp_crc
    bits k h = go (dec_le k (272 + gamma g)) (dec_le (289 + gamma g) k)
      where
        go : Dec (k ≤ 272 + gamma g) → Dec (289 + gamma g ≤ k) → cp_bit r k ≡ f k
        go (yes l) d = body k l
        go (no l) (yes d) =
            cp-zero r k (omega arith) (inr d)
            ∙ sym (zeros k (omega arith) (or_right (reserved k) _ (le-leb (289 + gamma g) k d)))
        go (no l) (no d) =
            let e : 273 + gamma g + (k - (273 + gamma g)) ≡ k = omega arith in
            ap (cp_bit r) (sym e) ∙ cp_crc_lem r (k - (273 + gamma g)) (omega arith)
            ∙ ap (λ (x : ℕ). bit x (k - (273 + gamma g)))
            (crc_over_ext start_bit (bit_in (cp_body r)) f 18 (254 + gamma g)
            (λ j b. sym (cp_body_lem r (18 + j) (omega arith)) ∙ body (18 + j) (omega arith))
            ∙ crc_same)
            ∙ field-bit f (273 + gamma g) 16 (k - (273 + gamma g)) (omega arith) ∙ ap f e

    same_bytes : ((i : ℕ) → get_or s i 0 < 256) → cp_bytes r ≡ take (cp_byte_count g) s
    unfolding cp_bytes
    same_bytes b = bytes_of_ext (cp_byte_count g) (cp_bit r) f bits ∙ bytes_back (cp_byte_count g) s b long

  pub write_none : (short : Bool) → short ≡ false → first (write_tests r short) ≡ bare 0
  unfolding write_tests record_tests read_tests
  write_none short e =
      let above = test 12 (mask_above_indices r) ∷ [] in
      first-none (write_tests r short) (
        not-read 3 (lit< tt),
        none-append (rate_tests r ++ above) (test 17 short ∷ []) (none-append (rate_tests r) above rates (zero_half r top high_zero, tt))
            (e, tt),
      )

-- what is to be shown of the record x that was read
abbrev Back : List ℕ → ℕ → Record → Type 0
Back s n x =
    IgnoredZero s (top_index x) → (buffer : List ℕ) → cp_byte_count (top_index x) ≤ length buffer
    → (accepted (write_refusal (record { cp = x; bytes = buffer })) ≡ true)
    × (write_bytes (record { cp = x; bytes = buffer }) ≡ over (take (cp_byte_count (top_index x)) s) buffer)
    × (write_bit_count (record { cp = x; bytes = buffer }) ≡ n)

back : (s : List ℕ) (n : ℕ) → ((i : ℕ) → get_or s i 0 < 256) → (first (read_tests s n)).number ≡ 0 → Back s n (record_in (bit_at s))
unfolding write_refusal write_bytes write_bit_count
back s n bytes ok zeros buffer h =
    let none = ap accepted
    (write_none s n ok (shorter buffer (cp_byte_count (top_index (record_in (bit_at s)))))
    (le-ltb (length buffer) (cp_byte_count (top_index (record_in (bit_at s)))) h)) in
    (none, rw none (ap (λ (x : List ℕ). over x buffer) (same_bytes s n ok zeros bytes)), rw none (sym (count_is s n ok)))

pub read_then_write : ReadThenWrite
unfolding read_refusal read_record
read_then_write c bytes ok = subst (Back c.bytes c.bit_count) (sym (rw ok)) (back c.bytes c.bit_count bytes (eqb-true _ 0 ok))
