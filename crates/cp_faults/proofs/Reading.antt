-- Laws of tests as the reader's code goes through them. Assumes nothing.
use mathlib.Core.Path.{◌≡◌, refl, sym, ap, ◌∙◌}
use Prim.Native.Nat.{ℕ, ◌+◌, ◌<◌}
use mathlib.Core.Bool.{Bool, true, false, not}
use mathlib.Core.List.{List, ◌++◌}
use native.Mathlib.Nat.{zero-add}
use native.Mathlib.Omega.{arith}
use native.Mathlib.Decide.{ℕ_discrete}
use borrow.Author.Tests.{eq-eqb, ne_eqb, not-false}
use lib.Dec.{eqb, lit<}
use Rattle.std.specs.Prelude.{Result, Ok}
use Rattle.std.specs.Result.{IsErrAnd}
use Rattle.standard.specs.Bits.{bit, bit_at, field}
use Rattle.standard.specs.First.{Answer, bare, first}
use Rattle.standard.specs.Lists.{any}
use Rattle.standard.specs.Cp.{record_in}
use Rattle.standard.specs.Refusals.{refusal_answer, outcome_answer, read_tests}
use Rattle.standard.specs.Calls.{accepted, read_call, read_refusal, read_record}
use Rattle.standard.specs.declared.Refusal.{Refusal}
use Rattle.standard.proofs.Bits.{field-bit, field_is}
use Rattle.standard.proofs.Lists.{any_none, none_any, every_at, T→true}
use Rattle.standard.proofs.Stages.{stage_past}
use Rattle.faults.proofs.Faults.{stage_hands_on}
use Rattle.cp_faults.specs.Stages.{shape_tests, sequence_tests, content_tests}

-- ---- tests

ones_bit : (j : ℕ) → j < 17 → bit 0x1ffff j ≡ true
ones_bit j h = T→true (bit 0x1ffff j) (every_at (bit 0x1ffff) 17 tt j h)

-- one of 17 bits is 0 where they are not the number of 17 ones
pub ones-test : (f : ℕ → Bool) → not (eqb (field f 0 17) 0x1ffff) ≡ any (λ n. not (f n)) 0 17
ones-test f = go (ℕ_discrete (field f 0 17) 0x1ffff) (any zero 0 17) refl
  where
    zero : ℕ → Bool
    zero n = not (f n)

    go : Dec (field f 0 17 ≡ 0x1ffff) → (b : Bool) → any zero 0 17 ≡ b → not (eqb (field f 0 17) 0x1ffff) ≡ any zero 0 17
    go (yes e) b q =
        ap not (eq-eqb (field f 0 17) 0x1ffff e)
        ∙ sym (none_any zero 0 17
        (λ k l h. ap not (ap f (sym (zero-add k)) ∙ sym (field-bit f 0 17 k (omega arith)) ∙ ap (λ (x : ℕ). bit x k) e
        ∙ ones_bit k (omega arith))))
    go (no n) true q = ap not (ne_eqb (field f 0 17) 0x1ffff n) ∙ sym q
    go (no n) false q =
        absurd (n
        (field_is f 0 17 0x1ffff (λ j l. not-false (f (0 + j)) (any_none zero 0 17 q (0 + j) (omega arith) (omega arith))
        ∙ sym (ones_bit j l)) (lit< tt)))

-- ---- the answer

-- refusals 1 to 3, then 4 on
pub read_stages : (s : List ℕ) (n : ℕ) → read_tests s n ≡ shape_tests s n ++ content_tests (bit_at s) n (record_in (bit_at s))
unfolding read_tests shape_tests content_tests sequence_tests
read_stages s n = refl

module _ (s : List ℕ) (n : ℕ) where
  pub read-accepted : bare 0 ≡ read_refusal (read_call s n) → read_record (read_call s n) ≡ record_in (bit_at s)
  unfolding read_record
  read-accepted e = rw (sym (ap accepted e))

  -- the refusal, from either stage
  pub refused_shape : {X : Type 0} (o : Result X Refusal) (x : Refusal) → IsErrAnd o (λ y. y ≡ x) → refusal_answer x ≡ first (shape_tests s n)
      → outcome_answer o ≡ read_refusal (read_call s n)
  unfolding read_refusal
  refused_shape o x h e = rw (read_stages s n) (stage_hands_on o x (shape_tests s n) (content_tests (bit_at s) n (record_in (bit_at s))) h e)

  pub past_shape : bare 0 ≡ first (shape_tests s n) → {a : Answer} → a ≡ first (content_tests (bit_at s) n (record_in (bit_at s)))
      → a ≡ read_refusal (read_call s n)
  unfolding read_refusal shape_tests
  past_shape e k =
      let o : Result (Unit {0}) Refusal = Ok tt in
      rw (read_stages s n) (stage_past o (shape_tests s n) (content_tests (bit_at s) n (record_in (bit_at s))) tt refl e k)
