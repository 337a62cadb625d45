-- Document 02, A.8, 'Empty interval told by place': what 25 tells, and that no other answer changes. Assumes nothing.
use Rattle.std.specs.Prelude.{◌≡◌, ◌⊎◌, ℕ, ◌<◌, Bool, true, false, cond, List, [], ◌∷◌, eqb}
use Rattle.standard.specs.First.{bare, valued, Test, first}
use Rattle.standard.specs.Refusals.{index_too_large, granted_below_full_rate, interval_empty, product_too_small, record_tests, read_tests, write_tests}
use Rattle.standard.specs.Refusals.{frame_tests}
use Rattle.standard.specs.declared.LineState.{LineState}
use Rattle.standard.specs.declared.Record.{Record}

-- the tests whose number is not n
unfoldable pub without : ℕ → List Test → List Test
without n [] = []
without n (t ∷ ts) = cond (eqb t.answer.number n) (without n ts) (t ∷ without n ts)

-- with 25 among the tests the answer is what it is without, or 25 stands in place of 11
abbrev pub InPlaceOf11 : List Test → Type 0
InPlaceOf11 ts = (first ts ≡ first (without 25 ts)) ⊎ (((first ts).number ≡ 25) × (first (without 25 ts) ≡ bare 11))

pub record EmptyTold : Type 0 where
  -- 'An interval whose mask is empty gets its own number with the lowest such interval', where neither 4 nor 10 applies (9 cannot)
  pub lowest : (r : Record) (i : ℕ) → i < 6 → interval_empty r i ≡ true → ((k : ℕ) → k < i → interval_empty r k ≡ false)
      → index_too_large r ≡ false → granted_below_full_rate r ≡ false → first (record_tests r) ≡ valued 25 i
  -- an empty interval has 11 as well
  pub both : (r : Record) (i : ℕ) → i < 6 → interval_empty r i ≡ true → product_too_small r ≡ true
  -- so the reader, the writer, and the sender and the receiver accept what they accept without 25, and answer as without it but for 11
  pub reader : (s : List ℕ) (n : ℕ) → InPlaceOf11 (read_tests s n)
  pub writer : (r : Record) (writeShort : Bool) → InPlaceOf11 (write_tests r writeShort)
  pub frames : (r : Record) (st : LineState) (n : ℕ) (readShort writeShort : Bool) → InPlaceOf11 (frame_tests r st n readShort writeShort)
