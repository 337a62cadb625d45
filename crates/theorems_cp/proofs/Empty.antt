-- 25 tells the lowest empty interval, and stands only in place of 11. Assumes nothing.
use mathlib.Core.Path.{◌≡◌, refl}
use mathlib.Core.Logic.{◌⊎◌, inl, inr}
use Prim.Native.Nat.{ℕ, zero, suc, ◌+◌, ◌≤◌, ◌<◌}
use mathlib.Core.Bool.{Bool, true, false}
use mathlib.Core.List.{List, [], ◌∷◌, ◌++◌}
use native.Mathlib.Omega.{arith}
use lib.Dec.{lit<, lit≤}
use Rattle.standard.specs.Lists.{list_from, any}
use Rattle.standard.specs.First.{bare, valued, Test, test, first}
use Rattle.standard.specs.Bits.{bit_at}
use Rattle.standard.specs.Record.{in_mask}
use Rattle.standard.specs.Cp.{record_in}
use Rattle.standard.specs.Constellation.{size_of, member}
use Rattle.standard.specs.Refusals.{index_too_large, granted_below_full_rate, interval_empty, product_too_small, mask_above_indices, empty_test}
use Rattle.standard.specs.Refusals.{empty_tests, rate_tests, record_tests, read_tests, write_tests, state_tests, line_tests, buffer_tests, frame_tests}
use Rattle.standard.specs.declared.LineState.{LineState}
use Rattle.standard.specs.declared.Record.{Record}
use Rattle.standard.proofs.Refusals.{empty_too_small, empty_lowest}
use Rattle.theorems_cp.specs.Examples.{empty_twice}
use Rattle.theorems_cp.specs.Empty.{without, InPlaceOf11, EmptyTold}

-- ts answers as us, or 25 where us answers 11
abbrev Told : List Test → List Test → Type 0
Told ts us = (first ts ≡ first us) ⊎ (((first ts).number ≡ 25) × (first us ≡ bare 11))

-- a test in front of both
kept : (t : Test) (ts us : List Test) → Told ts us → Told (t ∷ ts) (t ∷ us)
unfolding first
kept t ts us told = go t.applies refl told
  where
    go : (b : Bool) → t.applies ≡ b → Told ts us → Told (t ∷ ts) (t ∷ us)
    go true e d = inl (rw e)
    go false e (inl d) = inl (rw e d)
    go false e (inr d) = inr (rw e d)

module _ (r : Record) (after : List Test) where
  abbrev tail : List Test
  tail = test 11 (product_too_small r) ∷ after

  -- n tests of 25 in front of 11's
  empty_kept : (i n : ℕ) → i + n ≤ 6 → Told (list_from (empty_test r) i n ++ tail) tail
  unfolding first list_from empty_test
  empty_kept i zero h = inl refl
  empty_kept i (suc n) h = go (interval_empty r i) refl (empty_kept (suc i) n (omega arith))
    where
      go : (b : Bool) → interval_empty r i ≡ b → Told (list_from (empty_test r) (suc i) n ++ tail) tail
          → Told (list_from (empty_test r) i (suc n) ++ tail) tail
      go true e d = inr (rw e, rw (empty_too_small r i (omega arith) e))
      go false e d = rw e d

  -- those of the rate, and what follows
  rates_kept : Told (rate_tests r ++ after) (without 25 (rate_tests r) ++ after)
  unfolding rate_tests empty_tests empty_test without list_from
  rates_kept = kept _ _ _ (kept _ _ _ (empty_kept 0 6 (lit≤ tt)))

-- those of the record, and what follows
record_kept : (r : Record) (after : List Test) → Told (record_tests r ++ after) (without 25 (record_tests r) ++ after)
unfolding record_tests rate_tests empty_tests empty_test without list_from
record_kept r after = kept _ _ _ (rates_kept r (test 12 (mask_above_indices r) ∷ after))

reads : (s : List ℕ) (n : ℕ) → InPlaceOf11 (read_tests s n)
unfolding read_tests rate_tests empty_tests empty_test without list_from
reads s n = kept _ _ _
    (kept _ _ _ (kept _ _ _ (kept _ _ _ (kept _ _ _ (kept _ _ _ (kept _ _ _ (kept _ _ _ (rates_kept (record_in (bit_at s)) []))))))))

writes : (r : Record) (writeShort : Bool) → InPlaceOf11 (write_tests r writeShort)
unfolding write_tests record_tests rate_tests empty_tests empty_test without list_from
writes r writeShort = record_kept r (test 17 writeShort ∷ [])

frames-kept : (r : Record) (st : LineState) (n : ℕ) (readShort writeShort : Bool) → InPlaceOf11 (frame_tests r st n readShort writeShort)
unfolding frame_tests line_tests state_tests buffer_tests record_tests rate_tests empty_tests empty_test without list_from
frames-kept r st n readShort writeShort = record_kept r (line_tests r st n ++ buffer_tests readShort writeShort)

pub empty_told : EmptyTold
empty_told = record { lowest = empty_lowest; both = empty_too_small; reader = reads; writer = writes; frames = frames-kept }

-- a worked instance of the premises of `lowest`: intervals 2 and 4 are empty, 0 and 1 are not
pub instance_told : first (record_tests empty_twice) ≡ valued 25 2
unfolding index_too_large granted_below_full_rate interval_empty any list_from size_of member in_mask
instance_told = empty_told.lowest empty_twice 2 (lit< tt) refl below refl refl
  where
    below : (k : ℕ) → k < 2 → interval_empty empty_twice k ≡ false
    below zero h = refl
    below (suc zero) h = refl
    below (suc (suc k)) h = absurd (omega arith)
