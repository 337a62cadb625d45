-- What the entries answer. Assumes nothing.
use mathlib.Core.Path.{◌≡◌, refl, sym, ap, ap₂, ◌∙◌}
use Prim.Native.Nat.{ℕ, ◌-◌, ◌^◌, ◌≤◌, ◌<◌}
use mathlib.Core.Bool.{Bool}
use mathlib.Core.List.{List, ◌++◌}
use native.Mathlib.Omega.{arith}
use borrow.Author.Tests.{lt-ltb, le-ltb, ltb-false, leb-false}
use lib.ListN.{length, drop}
use Rattle.standard.specs.Lists.{list_from, last_of}
use Rattle.standard.specs.Bits.{bit_at, bits_in}
use Rattle.standard.specs.First.{bare, first}
use Rattle.standard.specs.Record.{top_index}
use Rattle.standard.specs.Cp.{cp_length, cp_byte_count, cp_bit, cp_bytes}
use Rattle.standard.specs.Start.{with_line, end_of_cp, cp_and_end, octets_for, left_by, found_history, found_sign, found_in}
use Rattle.standard.specs.Refusals.{refusal_answer, history_too_large, shorter, record_tests, state_tests, send_cp_tests}
use Rattle.standard.specs.Calls.{cp_call, send_cp_refusal, send_cp_count, send_cp_octets, send_cp_left, find_refusal, find_left}
use Rattle.standard.specs.declared.Law.{Law}
use Rattle.standard.specs.declared.LineState.{LineState}
use Rattle.std.specs.Array.{IsWholeChunk}
use Rattle.std.specs.Prelude.{Result, Ok, Err}
use Rattle.standard.specs.declared.Record.{Record}
use Rattle.standard.specs.declared.Refusal.{Refusal}
use Rattle.standard.proofs.Lists.{list_from_ext}
use Rattle.standard.proofs.Bits.{bit_at-bytes}
use Rattle.standard.proofs.First.{None, none_split}
use Rattle.standard.proofs.Start.{length-octets_for}
use Rattle.standard.proofs.Stages.{refused_not, done_none}
use Rattle.standard.proofs.Refusals.{top_lt, send_cp_numbered}

-- ---- a CP and E_s

module _ (r : Record) (l : Law) (st : LineState) (os : List ℕ) where
  -- the bits of the CP in its bytes, whatever follows them, and E_s
  pub cp-bits : {g n : ℕ} {cp : List ℕ} (later : List ℕ) → g ≡ top_index r → n ≡ cp_length g → cp ≡ cp_bytes r
      → bits_in n (cp ++ later) ++ end_of_cp ≡ cp_and_end r
  unfolding cp_and_end cp_bytes bits_in
  cp-bits {g} {n} {cp} later eg en ec =
      ap (λ (bits : List Bool). bits ++ end_of_cp)
      (ap₂ (λ (s : List ℕ) (k : ℕ). list_from (bit_at (s ++ later)) 0 k) ec (en ∙ ap (λ (k : ℕ). cp_length k) eg)
      ∙ list_from_ext _ (cp_bit r) (cp_length (top_index r)) (λ k h. bit_at-bytes (cp_byte_count (top_index r)) (cp_bit r) later k (omega arith)))

  pub cp-refused : (x : Refusal) → refusal_answer x ≡ send_cp_refusal st (cp_call r l os)
      → (st ≡ send_cp_left st (cp_call r l os)) × (os ≡ send_cp_octets st (cp_call r l os))
  unfolding send_cp_left send_cp_octets
  cp-refused x e = let o : Result (Unit {0}) Refusal = Err x in rw (refused_not o x _ refl e) (refl, refl)

  module _ (e : bare 0 ≡ send_cp_refusal st (cp_call r l os)) where
    pub cp-counted : {n : ℕ} → n ≡ length (cp_and_end r) → n ≡ send_cp_count st (cp_call r l os)
    unfolding send_cp_count
    cp-counted k = rw (← e) k

    pub cp-left : {left : LineState} → left ≡ left_by st (cp_and_end r) → left ≡ send_cp_left st (cp_call r l os)
    unfolding send_cp_left
    cp-left k = rw (← e) k

    pub cp-sent : {n : ℕ} {part : List ℕ} → n ≡ length (cp_and_end r) → part ≡ octets_for l st (cp_and_end r)
        → part ++ drop n os ≡ send_cp_octets st (cp_call r l os)
    unfolding send_cp_octets
    cp-sent en ep = rw (← e) (ap₂ (λ (a : List ℕ) (k : ℕ). a ++ drop k os) ep (en ∙ sym (length-octets_for l st (cp_and_end r))))

  -- what an accepted call has passed
  module _ (e : bare 0 ≡ first (send_cp_tests r st (shorter os (length (cp_and_end r))))) where
    none : None (send_cp_tests r st (shorter os (length (cp_and_end r))))
    none = let o : Result (Unit {0}) Refusal = Ok tt in done_none o _ (send_cp_numbered r st (shorter os (length (cp_and_end r)))) refl e

    pub top-passed : top_index r < 6
    unfolding send_cp_tests record_tests
    top-passed = top_lt r none.0

    pub history-passed : st.history < 2 ^ 23
    unfolding send_cp_tests state_tests history_too_large
    history-passed = leb-false _ _ (none_split (record_tests r) _ none).1.0

    pub room-passed : length (cp_and_end r) ≤ length os
    unfolding send_cp_tests state_tests
    room-passed = ltb-false _ _ (none_split (record_tests r) _ none).1.1.1.1.0

-- ---- a line state found

module _ (st : LineState) (os : List ℕ) where
  pub find-refused : length os < 24 → (bare 16 ≡ find_refusal os) × (st ≡ find_left st os)
  unfolding find_refusal find_left first
  find-refused h = rw (lt-ltb (length os) 24 h) (refl, refl)

  pub find-done : 24 ≤ length os → {part : List ℕ} → part ≡ last_of 24 os
      → (bare 0 ≡ find_refusal os) × (with_line st (found_history part) (found_sign part) ≡ find_left st os)
  unfolding find_refusal find_left found_in first
  find-done h e = rw (le-ltb (length os) 24 h, e) (refl, refl)

-- the last 24 as they are found
pub last-found : (xs : List ℕ) {part : List ℕ} → IsWholeChunk (drop (length xs - 24) xs) part 24 → part ≡ last_of 24 xs
unfolding last_of
last-found xs h = h.same
