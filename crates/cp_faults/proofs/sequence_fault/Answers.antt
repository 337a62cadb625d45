-- The tests 5 to 8 are made in their order. Assumes nothing.
use mathlib.Core.Path.{◌≡◌, refl, sym, ap, ◌∙◌}
use Prim.Native.Nat.{ℕ}
use mathlib.Core.Bool.{Bool, true, false, not}
use mathlib.Core.List.{[]}
use native.Mathlib.Omega.{arith}
use borrow.Author.Tests.{eq-eqb, ne_eqb}
use lib.ListN.{drop}
use Rattle.standard.specs.Bits.{bit_at}
use Rattle.standard.specs.First.{Answer, first}
use Rattle.standard.specs.Cp.{cp_length, start_bit_set, crc_matches}
use Rattle.standard.specs.Refusals.{length_wrong}
use Rattle.standard.proofs.First.{first_hit, first_skip}
use Rattle.cp_faults.specs.Stages.{sequence_tests}
use Rattle.cp_faults.proofs.sequence_fault.Goals as goal

module _ (f : ℕ → Bool) (n g : ℕ) where
  -- past test 5
  past1 : n ≡ cp_length g → {a : Answer} → a ≡ first (drop 1 (sequence_tests f n g)) → a ≡ first (sequence_tests f n g)
  unfolding sequence_tests length_wrong
  past1 l e = first_skip _ _ (ap not (eq-eqb _ _ l)) e

  -- and past test 6
  past2 : n ≡ cp_length g → start_bit_set f g ≡ false → {a : Answer} → a ≡ first (drop 2 (sequence_tests f n g))
      → a ≡ first (sequence_tests f n g)
  unfolding sequence_tests
  past2 l s e = past1 l (first_skip _ _ s e)

  -- and past test 7
  past3 : n ≡ cp_length g → start_bit_set f g ≡ false → crc_matches f g ≡ true → {a : Answer} → a ≡ first (drop 3 (sequence_tests f n g))
      → a ≡ first (sequence_tests f n g)
  unfolding sequence_tests
  past3 l s m e = past2 l s (first_skip _ _ (ap not m) e)

pub returns-then-bit_count-cp_length : goal.returns-then-bit_count-cp_length
unfolding sequence_tests length_wrong
returns-then-bit_count-cp_length c =
    let a = c.args in
    let l : a.bit_count ≡ cp_length a.g → ⊥ = λ e. omega arith in
    first_hit 5 _ _ (ap not (ne_eqb _ _ l))

pub returns-then-start_bit_set : goal.returns-then-start_bit_set
unfolding sequence_tests
returns-then-start_bit_set c =
    let a = c.args in
    let l : a.bit_count ≡ cp_length a.g = omega arith in
    past1 (bit_at a.cp.now) a.bit_count a.g l (first_hit 6 _ _ (sym c.start_bit_set.ensures ∙ c.if-start_bit_set.true))

pub returns-then-not-crc_matches : goal.returns-then-not-crc_matches
unfolding sequence_tests
returns-then-not-crc_matches c =
    let a = c.args in
    let l : a.bit_count ≡ cp_length a.g = omega arith in
    past2 (bit_at a.cp.now) a.bit_count a.g l (sym c.start_bit_set.ensures ∙ c.if-start_bit_set.false)
    (first_hit 7 _ _ (ap not (sym c.crc_matches.ensures ∙ c.if-not-crc_matches.true)))

pub returns-then-fixed_bit_wrong : goal.returns-then-fixed_bit_wrong
unfolding sequence_tests
returns-then-fixed_bit_wrong c =
    let a = c.args in
    let l : a.bit_count ≡ cp_length a.g = omega arith in
    past3 (bit_at a.cp.now) a.bit_count a.g l (sym c.start_bit_set.ensures ∙ c.if-start_bit_set.false)
    (sym c.crc_matches.ensures ∙ c.if-not-crc_matches.false)
    (first_hit 8 _ _ (sym c.fixed_bit_wrong.ensures ∙ c.if-fixed_bit_wrong.true))

pub returns : goal.returns
unfolding sequence_tests first
returns c =
    let a = c.args in
    let l : a.bit_count ≡ cp_length a.g = omega arith in
    past3 (bit_at a.cp.now) a.bit_count a.g l (sym c.start_bit_set.ensures ∙ c.if-start_bit_set.false)
    (sym c.crc_matches.ensures ∙ c.if-not-crc_matches.false)
    (first_skip _ [] (sym c.fixed_bit_wrong.ensures ∙ c.if-fixed_bit_wrong.false) refl)
