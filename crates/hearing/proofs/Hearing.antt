-- Six octets: their labels, their number, their mark and their bits on the line. Assumes nothing.
use mathlib.Core.Path.{◌≡◌, refl, sym, ap, ap₂, ◌∙◌}
use Prim.Native.Nat.{ℕ, suc, ◌+◌, ◌*◌, ◌-◌, ◌%◌, ◌^◌, ◌≤◌, ◌<◌}
use mathlib.Core.Bool.{Bool, false}
use mathlib.Core.List.{List, [], ◌∷◌, ◌++◌}
use native.Mathlib.Nat.{add_comm, mul-le-mul, le_refl, lt_of_lt_of_le}
use native.Mathlib.Omega.{arith}
use borrow.Author.Tests.{le-leb, lt-leb, eq-eqb, ne_eqb, not-false}
use lib.Bits.{bit_or}
use lib.Dec.{eqb, leb}
use lib.ListN.{length, get_or, drop, drop_of_length-le}
use lib.Pow.{pow-add, pow_mono}
use lib.Seq.{drop-cons}
use Rattle.standard.specs.Lists.{list_from}
use Rattle.standard.specs.First.{Test, test, first}
use Rattle.standard.specs.Bits.{number_of, bits_of}
use Rattle.standard.specs.Record.{K, D}
use Rattle.standard.specs.Constellation.{member, label}
use Rattle.standard.specs.Modulus.{number}
use Rattle.standard.specs.Signs.{sign_bits}
use Rattle.standard.specs.Frame.{outside_test, outside_tests, sign_at, ucode_at, received_number, mark_tests, mark, heard_bits}
use Rattle.standard.specs.declared.Law.{Law}
use Rattle.standard.specs.declared.Record.{Record}
use Rattle.standard.proofs.Lists.{length-list_from, get_d_list, list_from_is}
use Rattle.standard.proofs.First.{same_number, first-left, none_first, none-at, first-append, first-lowest, first-none, none-list_from}
use Rattle.standard.proofs.Bits.{number_of-lt}
use Rattle.standard.proofs.Octets.{ucode-lt}
use Rattle.standard.proofs.Signs.{length-sign_bits}
use Rattle.standard.proofs.Words.{one_shifted, above_six, number_append, bits-number, zero_number}
use Rattle.mapping.specs.declared.Mapping.{Mapping}
use Rattle.mapping.specs.Tables.{mapping_of, label_or_none, label_tables}
use Rattle.mapping.proofs.Tables.{number-le, label_in_lem, none-outside, label_inside}
use Rattle.hearing.specs.Legible.{label_in}

-- ---- the number of six labels, from label 5 down to label 0

-- n is the number that the labels cs form from interval i on, where Ms are the sizes
pub record Formed (Ms cs : List ℕ) (n i : ℕ) : Type 0 where
  pub value : n ≡ number (drop i Ms) (drop i cs)
  pub small : n < 2 ^ (8 * (6 - i))

module _ (Ms cs : List ℕ) (six : length Ms ≡ 6) where
  pub formed_none : Formed Ms cs 0 6
  unfolding number
  formed_none = record { value = rw (drop_of_length-le Ms {i = 6} (omega (arith, six))); small = omega arith }

  module _ (few : (i : ℕ) → get_or Ms i 0 ≤ 128) (n i : ℕ) (p : Formed Ms cs n i) (pos : 0 < i) (le : i ≤ 6) (c : ℕ) (lc : c < 256) where
    grown : get_or Ms (i - 1) 0 * n + c < 2 ^ (8 * (6 - (i - 1)))
    grown =
        let e : 8 * (6 - (i - 1)) ≡ 8 + 8 * (6 - i) = omega arith in
        let m : get_or Ms (i - 1) 0 * n ≤ 128 * n = mul-le-mul (few (i - 1)) (le_refl n) in
        rw (e, pow-add 2 8 (8 * (6 - i))) (omega (arith, p.small))

    pub formed_fits : get_or Ms (i - 1) 0 * n + c < 2 ^ 48
    formed_fits = lt_of_lt_of_le grown (pow_mono {i = 8 * (6 - (i - 1))} {j = 48} (omega arith))

    apart : (xs : List ℕ) → length xs ≡ 6 → drop (i - 1) xs ≡ get_or xs (i - 1) 0 ∷ drop i xs
    apart xs e =
        let s : suc (i - 1) ≡ i = omega arith in
        drop-cons xs (i - 1) 0 (omega arith) ∙ ap (λ (k : ℕ). get_or xs (i - 1) 0 ∷ drop k xs) s

    pub formed_more : length cs ≡ 6 → c ≡ get_or cs (i - 1) 0 → Formed Ms cs (get_or Ms (i - 1) 0 * n + c) (i - 1)
    unfolding number
    formed_more long ec =
        record {
          value =
              ap₂ (λ (x y : ℕ). get_or Ms (i - 1) 0 * x + y) p.value ec
              ∙ add_comm (get_or Ms (i - 1) 0 * number (drop i Ms) (drop i cs)) (get_or cs (i - 1) 0)
              ∙ sym (ap₂ number (apart Ms six) (apart cs long));
          small = grown;
        }

module _ (r : Record) (l : Law) (os : List ℕ) where
  -- ---- the labels found in a table by Ucode

  module _ (ls : List (List ℕ)) (el : ls ≡ label_tables r) (found : List ℕ) (ef : found ≡ list_from (label_in l ls os) 0 6) where
    found_at : (i : ℕ) → i < 6 → get_or found i 0 ≡ label_or_none (member r i) (ucode_at l os i)
    unfolding label_in
    found_at i h =
        ap (λ (x : List ℕ). get_or x i 0) ef ∙ get_d_list (label_in l ls os) 0 6 i h
        ∙ label_in_lem r ls i h el (ucode_at l os i) (ucode-lt l (get_or os i 0))

    applies_is : (i : ℕ) → i < 6 → eqb (get_or found i 0) 255 ≡ (outside_test r l os i).applies
    unfolding outside_test
    applies_is i h =
        ap (λ (x : ℕ). eqb x 255) (found_at i h) ∙ none-outside (member r i) (ucode_at l os i) (ucode-lt l (get_or os i 0))

    inside-at : (i : ℕ) → i < 6 → (get_or found i 0 ≡ 255 → ⊥) → (outside_test r l os i).applies ≡ false
    inside-at i h ne = sym (applies_is i h) ∙ ne_eqb (get_or found i 0) 255 ne

    -- interval i is the first that has no label
    pub first_is : (i : ℕ) → i < 6 → get_or found i 0 ≡ 255 → ((k : ℕ) → k < i → get_or found k 0 ≡ 255 → ⊥)
        → i + 1 ≡ (first (outside_tests r l os)).number
    unfolding outside_tests outside_test
    first_is i h e before =
        sym (same_number (first-lowest (outside_test r l os) 6 i h (sym (applies_is i h) ∙ eq-eqb (get_or found i 0) 255 e)
        (λ k b. inside-at k (omega arith) (before k b))))

    -- each has one
    pub none-is : ((k : ℕ) → k < 6 → get_or found k 0 ≡ 255 → ⊥) → (first (outside_tests r l os)).number ≡ 0
    unfolding outside_tests
    none-is all =
        same_number (first-none (outside_tests r l os)
        (none-list_from (outside_test r l os) 0 6 (λ k h. let z : 0 + k ≡ k = omega arith in rw z (inside-at k h (all k h)))))

    -- where none is outside its mask
    pub number_is : (first (outside_tests r l os)).number ≡ 0 → (m : Mapping) → m ≡ mapping_of r
        → number m.sizes found ≡ received_number r l os
    unfolding received_number outside_tests outside_test list_from
    number_is e m em =
        ap₂ (λ (x : Mapping) (cs : List ℕ). number x.sizes cs) em
        (list_from_is (λ i. label r i (ucode_at l os i)) 0 6 found (ap length ef ∙ length-list_from (label_in l ls os) 0 6) inside)
      where
        inside : (i : ℕ) → i < 6 → get_or found i 0 ≡ label r i (ucode_at l os i)
        inside i h =
            let none = none-at (outside_tests r l os) (none_first (outside_tests r l os) tt e) i
            (omega (arith, length-list_from (outside_test r l os) 0 6)) (outside_test r l os 0) in
            found_at i h
            ∙ label_inside (member r i) (ucode_at l os i) (ucode-lt l (get_or os i 0))
            (not-false _ (sym (ap (λ (t : Test). t.applies) (get_d_list (outside_test r l os) (outside_test r l os 0) 6 i h)) ∙ none))

  -- 2 ^ K, as code shifts it
  pub limit_is : (m : Mapping) → m ≡ mapping_of r → r.drn ≤ 28 → 1 * 2 ^ m.k % 2 ^ 64 ≡ 2 ^ K r
  limit_is m em rate = one_shifted m.k (omega (arith, number-le r m em rate)) ∙ ap (λ (x : Mapping). 2 ^ x.k) em

  -- ---- the mark

  abbrev seventh : List Test
  seventh = test 7 (leb (2 ^ K r) (received_number r l os)) ∷ []

  marks : mark r l os ≡ (first (outside_tests r l os ++ seventh)).number
  unfolding mark mark_tests
  marks = refl

  pub mark-outside : (x : ℕ) → x ≡ (first (outside_tests r l os)).number → 0 < x → x ≡ mark r l os
  mark-outside x e h = e ∙ sym (marks ∙ same_number (first-left (outside_tests r l os) seventh (rw e at h)))

  passed : (first (outside_tests r l os)).number ≡ 0 → mark r l os ≡ (first seventh).number
  unfolding outside_tests outside_test list_from
  passed e = marks ∙ same_number (first-append (outside_tests r l os) seventh (none_first (outside_tests r l os) tt e))

  pub mark_seventh : (first (outside_tests r l os)).number ≡ 0 → 2 ^ K r ≤ received_number r l os → mark r l os ≡ 7
  unfolding first
  mark_seventh e h = passed e ∙ rw (le-leb (2 ^ K r) (received_number r l os) h)

  pub mark-good : (first (outside_tests r l os)).number ≡ 0 → received_number r l os < 2 ^ K r → mark r l os ≡ 0
  unfolding first
  mark-good e h = passed e ∙ rw (lt-leb (2 ^ K r) (received_number r l os) h)

  -- ---- the bits on the line, where the last sign was g

  module _ (g : Bool) where
    pub marked_bits : 0 < mark r l os → 0 ≡ number_of (heard_bits r l g os)
    unfolding heard_bits
    marked_bits h = rw (ne_eqb (mark r l os) 0 (λ (e : mark r l os ≡ 0). omega arith)) (sym (zero_number (D r)))

    -- as code joins them: the sign bits s below the number n
    pub good-bits : mark r l os ≡ 0 → (s n : ℕ) → s ≡ number_of (sign_bits g (list_from (sign_at os) 0 6)) → n ≡ received_number r l os
        → received_number r l os < 2 ^ K r → r.drn ≤ 28 → bit_or s (n * 64 % 2 ^ 64) ≡ number_of (heard_bits r l g os)
    unfolding heard_bits
    good-bits e s n es en fits rate =
        let six = sign_bits g (list_from (sign_at os) 0 6) in
        let long : length six ≡ 6 = length-sign_bits g (list_from (sign_at os) 0 6) ∙ length-list_from (sign_at os) 0 6 in
        let low : s < 64 = rw es (rw long at (number_of-lt six)) in
        let high : n < 2 ^ 42 = rw en (lt_of_lt_of_le fits (pow_mono {i = K r} {j = 42} (omega arith))) in
        rw (eq-eqb (mark r l os) 0 e)
        (above_six s n low (omega arith) ∙ ap₂ (λ (x y : ℕ). x + 64 * y) es (en ∙ sym (bits-number (K r) (received_number r l os) fits))
        ∙ sym (number_append six (bits_of (K r) (received_number r l os))
        ∙ ap (λ (k : ℕ). number_of six + 2 ^ k * number_of (bits_of (K r) (received_number r l os))) long))
