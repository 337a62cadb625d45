-- What the writer answers and leaves, of its first refusal. Assumes nothing.
use mathlib.Core.Path.{◌≡◌, refl, sym, ap}
use Prim.Native.Nat.{ℕ}
use mathlib.Core.Bool.{Bool, true, false}
use mathlib.Core.List.{List, [], ◌∷◌, ◌++◌}
use lib.ListN.{length, drop}
use Rattle.standard.specs.First.{bare, test, first}
use Rattle.standard.specs.Record.{top_index}
use Rattle.standard.specs.Cp.{cp_length, cp_byte_count, cp_bit, cp_bytes}
use Rattle.standard.specs.Refusals.{index_too_large, refusal_answer, outcome_answer, record_tests, write_tests}
use Rattle.standard.specs.Calls.{accepted, write_call, write_refusal, write_bit_count, write_bytes}
use Rattle.std.specs.Prelude.{Result, Ok, Err}
use Rattle.standard.specs.declared.Record.{Record}
use Rattle.standard.specs.declared.Refusal.{Refusal}
use Rattle.standard.proofs.Bits.{length-bytes_of}
use Rattle.standard.proofs.First.{none_split}
use Rattle.standard.proofs.Refusals.{record_numbered, write_numbered}
use Rattle.standard.proofs.Stages.{refused_not, done_none}

-- ---- a record that is not refused

pub index_passed : (r : Record) (o : Result (Unit {0}) Refusal) → o ≡ Ok tt → outcome_answer o ≡ first (record_tests r) → index_too_large r ≡ false
unfolding record_tests
index_passed r o q e = (done_none o (record_tests r) (record_numbered r) q e).0

-- a call that is not refused: no index is above 5, and the bytes suffice
pub write_passed : (r : Record) (short : Bool) (o : Result (Unit {0}) Refusal) → o ≡ Ok tt → outcome_answer o ≡ first (write_tests r short)
    → (index_too_large r ≡ false) × (short ≡ false)
unfolding write_tests record_tests
write_passed r short o q e =
    let p = none_split (record_tests r) (test 17 short ∷ []) (done_none o (write_tests r short) (write_numbered r short) q e) in
    (p.0.0, p.1.0)

-- ---- the answer

module _ (r : Record) (s : List ℕ) where
  -- a refusal leaves the bytes
  pub write_refused : (x : Refusal) → refusal_answer x ≡ write_refusal (write_call r s) → s ≡ write_bytes (write_call r s)
  unfolding write_bytes
  write_refused x e = let o : Result (Unit {0}) Refusal = Err x in rw (refused_not o x (write_refusal (write_call r s)) refl e)

  module _ (e : bare 0 ≡ write_refusal (write_call r s)) where
    accepting : accepted (write_refusal (write_call r s)) ≡ true
    accepting = sym (ap accepted e)

    pub write-counted : (n : ℕ) → n ≡ cp_length (top_index r) → n ≡ write_bit_count (write_call r s)
    unfolding write_bit_count
    write-counted n a = rw accepting a

    pub write-written : (k : ℕ) (t : List ℕ) → k ≡ cp_byte_count (top_index r) → t ≡ cp_bytes r → t ++ drop k s ≡ write_bytes (write_call r s)
    unfolding write_bytes cp_bytes
    write-written k t b d =
        let l : length (cp_bytes r) ≡ cp_byte_count (top_index r) = length-bytes_of (cp_byte_count (top_index r)) (cp_bit r) in
        rw (accepting, d, b, l)
