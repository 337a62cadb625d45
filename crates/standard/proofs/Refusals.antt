-- What a record and a call that are not refused have passed, and what a record with an empty interval is refused with. Assumes nothing.
use mathlib.Core.Path.{◌≡◌, refl, sym, ap, ap₂, ◌∙◌}
use mathlib.Core.Logic.{◌⊎◌, inl, inr}
use Prim.Native.Nat.{ℕ, zero, suc, ◌+◌, ◌-◌, ◌*◌, ◌^◌, ◌≤◌, ◌<◌, zero-le}
use mathlib.Core.Bool.{Bool, true, false, ◌&&◌, and-eq-true_iff}
use mathlib.Core.List.{List, [], ◌∷◌, ◌++◌}
use native.Mathlib.Nat.{eq-zero-or-pos}
use native.Mathlib.Omega.{arith}
use borrow.Author.Tests.{lt-ltb, le-ltb, ltb-false, le-leb, leb-true, eqb-true, eqb-false}
use lib.Dec.{T, lit<, leb, ltb, eqb}
use lib.ListN.{length, get_or}
use lib.Pow.{pow_pos}
use Rattle.standard.specs.Lists.{list_from}
use Rattle.standard.specs.First.{valued, Test, test, first}
use Rattle.standard.specs.Bits.{weight, positive}
use Rattle.standard.specs.Record.{index_of, top_index, half_of, K}
use Rattle.standard.specs.Cp.{within}
use Rattle.standard.specs.Constellation.{size, sizes}
use Rattle.standard.specs.Modulus.{product}
use Rattle.standard.specs.Refusals.{index_too_large, drn_too_large, granted_below_full_rate, interval_empty, product_too_small}
use Rattle.standard.specs.Refusals.{mask_above_indices, frames_at_cleardown, history_too_large, doubtful_too_large, place_too_large}
use Rattle.standard.specs.Refusals.{too_many_frames, empty_test, empty_tests, rate_tests, record_tests, read_tests, write_tests, state_tests}
use Rattle.standard.specs.Refusals.{line_tests, buffer_tests, frame_tests, send_cp_tests, plan_tests}
use Rattle.standard.specs.Calls.{accepted}
use Rattle.standard.specs.declared.Law.{Law}
use Rattle.standard.specs.declared.LineState.{LineState}
use Rattle.standard.specs.declared.Record.{Record}
use Rattle.standard.proofs.Lists.{any_none, none_any, largest-lt}
use Rattle.standard.proofs.First.{numbered, first_skip, first-left, first_says, none_first, none-at, first-lowest}
use Rattle.standard.proofs.Modulus.{product-zero}
use Rattle.standard.proofs.Frame.{Holds, length-sizes, size-at}

pub and_false_right : (a b : Bool) → a ≡ true → a && b ≡ false → b ≡ false
and_false_right true b e f = f
and_false_right false b e f = cc

-- ---- a record that is not refused

module _ (r : Record) (e : index_too_large r ≡ false) where
  pub index-le : (i : ℕ) → i < 6 → index_of r i ≤ 5
  unfolding index_too_large
  index-le i h = ltb-false 5 (index_of r i) (any_none (λ i. ltb 5 (index_of r i)) 0 6 e i zero-le (omega arith))

  pub top_lt : top_index r < 6
  unfolding top_index
  top_lt = largest-lt (index_of r) 6 6 (lit< tt) (λ i h. omega (arith, index-le i h))

positive_false : (n : ℕ) → positive n ≡ false → n ≡ 0
positive_false zero e = refl
positive_false (suc n) e = absurd (let z : ◌≡◌ {A = ℕ} 1 0 = ap weight e in omega arith)

-- the halves above the masks that indices reach are 0, and where they are 12 does not apply
module _ (r : Record) (top : top_index r < 6) where
  pub half_zero : mask_above_indices r ≡ false → (h : ℕ) → 2 * (top_index r + 1) ≤ h → h < 12 → half_of r h ≡ 0
  unfolding mask_above_indices
  half_zero e h a b =
      positive_false (half_of r h)
      (any_none (λ h. positive (half_of r h)) (2 * (top_index r + 1)) (12 - 2 * (top_index r + 1)) e h a (omega arith))

  pub zero_half : ((h : ℕ) → 2 * (top_index r + 1) ≤ h → h < 12 → half_of r h ≡ 0) → mask_above_indices r ≡ false
  unfolding mask_above_indices
  zero_half z =
      none_any (λ h. positive (half_of r h)) (2 * (top_index r + 1)) (12 - 2 * (top_index r + 1)) (λ h a b. ap positive (z h a (omega arith)))

-- ---- an interval whose mask is empty

pub within-le : (a b n : ℕ) → within a b n ≡ true → (a ≤ n) × (n ≤ b)
within-le a b n e = let p = (and-eq-true_iff (leb a n) (leb n b)).0 e in (leb-true a n p.0, leb-true n b p.1)

pub le-within : (a b n : ℕ) → a ≤ n → n ≤ b → within a b n ≡ true
le-within a b n h k = (and-eq-true_iff (leb a n) (leb n b)).1 (le-leb a n h, le-leb n b k)

pub rated_le : (r : Record) → within 1 28 r.drn ≡ true → r.drn ≤ 28
rated_le r e = (within-le 1 28 r.drn e).1

module _ (r : Record) (i : ℕ) (h : i < 6) (e : interval_empty r i ≡ true) where
  both : (within 1 28 r.drn ≡ true) × (eqb (size r i) 0 ≡ true)
  unfolding interval_empty
  both = (and-eq-true_iff (within 1 28 r.drn) (eqb (size r i) 0)).0 e

  -- 25 holds only where 11 does
  pub empty_too_small : product_too_small r ≡ true
  unfolding product_too_small
  empty_too_small =
      let z : product (sizes r) ≡ 0 = product-zero (sizes r) i (rw length-sizes h) (size-at r i h ∙ eqb-true (size r i) 0 both.1) in
      ap₂ ◌&&◌ both.0 (lt-ltb (product (sizes r)) (2 ^ K r) (rw z (pow_pos (K r))))

  module _ (lowest : (k : ℕ) → k < i → interval_empty r k ≡ false) where
    empty_first : first (empty_tests r) ≡ valued 25 i
    unfolding empty_tests empty_test
    empty_first = first-lowest (empty_test r) 6 i h e lowest

    -- 25 with the lowest interval is answered where no test before it applies
    pub empty_lowest : index_too_large r ≡ false → granted_below_full_rate r ≡ false → first (record_tests r) ≡ valued 25 i
    unfolding record_tests rate_tests drn_too_large
    empty_lowest index granted =
        let stage = empty_tests r ++ (test 11 (product_too_small r) ∷ []) in
        let one : first stage ≡ valued 25 i = first-left (empty_tests r) _ (rw empty_first (lit< tt)) ∙ empty_first in
        let two : first (stage ++ (test 12 (mask_above_indices r) ∷ [])) ≡ valued 25 i = first-left stage _ (rw one (lit< tt)) ∙ one in
        sym (first_skip _ _ index (first_skip _ _ (le-ltb 28 r.drn (rated_le r both.0)) (first_skip _ _ granted (sym two))))

-- ---- no test has the number 0

module _ (r : Record) where
  pub empty_numbered : T (numbered (empty_tests r))
  unfolding empty_tests empty_test list_from
  empty_numbered = tt

  pub rate_numbered : T (numbered (rate_tests r))
  unfolding rate_tests empty_tests empty_test list_from
  rate_numbered = tt

  pub record_numbered : T (numbered (record_tests r))
  unfolding record_tests rate_tests empty_tests empty_test list_from
  record_numbered = tt

  pub write_numbered : (writeShort : Bool) → T (numbered (write_tests r writeShort))
  unfolding write_tests record_tests rate_tests empty_tests empty_test list_from
  write_numbered writeShort = tt

  pub line_numbered : (st : LineState) (n : ℕ) → T (numbered (record_tests r ++ line_tests r st n))
  unfolding line_tests state_tests record_tests rate_tests empty_tests empty_test list_from
  line_numbered st n = tt

pub state_numbered : (st : LineState) → T (numbered (state_tests st))
unfolding state_tests
state_numbered st = tt

pub send_cp_numbered : (r : Record) (st : LineState) (writeShort : Bool) → T (numbered (send_cp_tests r st writeShort))
unfolding send_cp_tests state_tests record_tests rate_tests empty_tests empty_test list_from
send_cp_numbered r st writeShort = tt

pub read_numbered : (s : List ℕ) (n : ℕ) → T (numbered (read_tests s n))
unfolding read_tests rate_tests empty_tests empty_test list_from
read_numbered s n = tt

pub plan_numbered : (k : ℕ) (l : Law) (d ceiling : ℕ) → T (numbered (plan_tests k l d ceiling))
unfolding plan_tests
plan_numbered k l d ceiling = tt

-- ---- a call that is not refused

-- whether test k of a list applies
abbrev pub applied : List Test → ℕ → Bool
applied ts k = (get_or ts k (test 0 true)).applies

pub not_applied : (ts : List Test) → T (numbered ts) → (first ts).number ≡ 0 → (k : ℕ) → k < length ts → applied ts k ≡ false
not_applied ts t e k h = none-at ts (none_first ts t e) k h (test 0 true)

-- a call of the sender or the receiver that is not refused
pub record Passed (r : Record) (st : LineState) (n : ℕ) (readShort writeShort : Bool) : Type 0 where
  pub index : index_too_large r ≡ false
  pub rate : drn_too_large r ≡ false
  pub granted : granted_below_full_rate r ≡ false
  pub carries : product_too_small r ≡ false
  pub masks : mask_above_indices r ≡ false
  pub rated : frames_at_cleardown r n ≡ false
  pub history : history_too_large st ≡ false
  pub doubtful : doubtful_too_large st ≡ false
  pub places : place_too_large st ≡ false
  pub few : too_many_frames n ≡ false
  pub enough : readShort ≡ false
  pub room : writeShort ≡ false

pub passed : (r : Record) (st : LineState) (n : ℕ) (readShort writeShort : Bool)
    → accepted (first (frame_tests r st n readShort writeShort)) ≡ true → Passed r st n readShort writeShort
unfolding frame_tests line_tests state_tests buffer_tests record_tests rate_tests empty_tests empty_test list_from
passed r st n readShort writeShort e =
    let at = not_applied (frame_tests r st n readShort writeShort) tt
    (eqb-true (first (frame_tests r st n readShort writeShort)).number 0 e) in
    record {
      index = at 0 (lit< tt);
      rate = at 1 (lit< tt);
      granted = at 2 (lit< tt);
      carries = at 9 (lit< tt);
      masks = at 10 (lit< tt);
      rated = at 11 (lit< tt);
      history = at 12 (lit< tt);
      doubtful = at 13 (lit< tt);
      places = at 14 (lit< tt);
      few = at 15 (lit< tt);
      enough = at 16 (lit< tt);
      room = at 17 (lit< tt);
    }

-- A.1: a call in a state whose count is 24 at most does not get 18
pub not_eighteen : (r : Record) (st : LineState) (n : ℕ) (readShort writeShort : Bool) → st.doubtful ≤ 24
    → (first (frame_tests r st n readShort writeShort)).number ≡ 18 → ⊥
unfolding frame_tests line_tests state_tests buffer_tests record_tests rate_tests empty_tests empty_test list_from doubtful_too_large
not_eighteen r st n readShort writeShort h =
    first_says 18 (frame_tests r st n readShort writeShort) (lit< tt) (rw (le-ltb 24 st.doubtful h) refl)

-- A.2: one in a state whose places are 63 and 15 at most does not get 19
pub not_nineteen : (r : Record) (st : LineState) (n : ℕ) (readShort writeShort : Bool) → st.place ≤ 63 → st.done ≤ 15
    → (first (frame_tests r st n readShort writeShort)).number ≡ 19 → ⊥
unfolding frame_tests line_tests state_tests buffer_tests record_tests rate_tests empty_tests empty_test list_from place_too_large
not_nineteen r st n readShort writeShort p d =
    first_says 19 (frame_tests r st n readShort writeShort) (lit< tt) (rw (le-ltb 63 st.place p, le-ltb 15 st.done d) refl)

pub few_passed : (r : Record) (st : LineState) (n : ℕ) (readShort writeShort : Bool) → Passed r st n readShort writeShort → n ≤ 1024
unfolding too_many_frames
few_passed r st n readShort writeShort p = ltb-false 1024 n p.few

-- a frame is sent or received only at a rate
pub rated_passed : (r : Record) (st : LineState) (n : ℕ) (readShort writeShort : Bool) → Passed r st n readShort writeShort → 0 < n
    → (0 < r.drn) × (r.drn ≤ 28)
unfolding drn_too_large frames_at_cleardown
rated_passed r st n readShort writeShort p h = (go (eq-zero-or-pos r.drn), ltb-false 28 r.drn p.rate)
  where
    go : (r.drn ≡ 0) ⊎ (0 < r.drn) → 0 < r.drn
    go (inl e) = absurd (eqb-false r.drn 0 (and_false_right (leb 1 n) (eqb r.drn 0) (le-leb 1 n h) p.rated) e)
    go (inr k) = k

-- and where the record can carry its K bits
pub holds_passed : (r : Record) (st : LineState) (n : ℕ) (readShort writeShort : Bool) → Passed r st n readShort writeShort → 0 < n
    → Holds r
unfolding product_too_small
holds_passed r st n readShort writeShort p h =
    let k = rated_passed r st n readShort writeShort p h in
    ltb-false (product (sizes r)) (2 ^ K r)
    (and_false_right (within 1 28 r.drn) (ltb (product (sizes r)) (2 ^ K r))
    (ap₂ ◌&&◌ (le-leb 1 r.drn k.0) (le-leb r.drn 28 k.1)) p.carries)
