-- What each function answers, from what its callees ensure. Assumes nothing.
use mathlib.Core.Path.{◌≡◌, refl}
use Prim.Native.Nat.{ℕ, ◌^◌, ◌≤◌, ◌<◌}
use mathlib.Core.Bool.{Bool, true, false, cond, ◌||◌}
use mathlib.Core.List.{List, [], ◌∷◌, ◌++◌}
use native.Mathlib.Omega.{arith}
use borrow.Author.Tests.{lt-ltb, le-ltb, eqb-true}
use lib.Dec.{ltb, lit<}
use lib.ListN.{length}
use Rattle.std.specs.Prelude.{Result, Ok, Err, IfOk, OnErr}
use Rattle.std.specs.Result.{is_ok}
use Rattle.standard.specs.First.{test, first}
use Rattle.standard.specs.Record.{top_index}
use Rattle.standard.specs.Cp.{cp_byte_count}
use Rattle.standard.specs.Start.{cp_and_end}
use Rattle.standard.specs.Refusals.{outcome_answer, shorter, record_tests, read_tests, write_tests, send_cp_tests}
use Rattle.standard.specs.Calls.{accepted, over, read_call, read_refusal, read_record, WriteCall, write_call, write_refusal, write_bit_count}
use Rattle.standard.specs.Calls.{write_bytes, CpCall, cp_call, send_cp_refusal, send_cp_count, send_cp_octets, send_cp_left, find_refusal, find_left}
use Rattle.standard.specs.declared.Law.{Law}
use Rattle.standard.specs.declared.LineState.{LineState}
use Rattle.standard.specs.declared.Record.{Record}
use Rattle.standard.specs.declared.Refusal.{Refusal}
use Rattle.standard.proofs.First.{none_first}
use Rattle.standard.proofs.Stages.{refused_not}
use Rattle.standard.proofs.Start.{length-cp_and_end}
use Rattle.standard.proofs.Refusals.{top_lt, read_numbered, write_numbered, send_cp_numbered}
use Rattle.codes.specs.Coded.{coded}
use Rattle.forms.specs.RecordBytes.{record_length, record_bytes, record_at}
use Rattle.states.specs.StateBytes.{state_length, line_bytes, state_at}
use Rattle.c_calls.specs.Answered.{law_of, answered, then_short}
use Rattle.c_calls.proofs.Ends.{then_refused, then_own, frame-short, frame-long}
use Rattle.cp_c.specs.Interface.{v91_read_cp, v91_write_cp, v91_send_cp, v91_find_state}

-- ---- v91_write_cp

-- the bit count of a CP is that of six masks at most
pub count_fits : (c : WriteCall) → write_bit_count c < 2 ^ 32
unfolding write_refusal write_bit_count write_tests record_tests
count_fits c = go (accepted (write_refusal c)) refl
  where
    go : (b : Bool) → accepted (write_refusal c) ≡ b → write_bit_count c < 2 ^ 32
    go true e =
        let short = shorter c.bytes (cp_byte_count (top_index c.cp)) in
        rw e (omega (
          arith,
          top_lt c.cp
              (none_first (write_tests c.cp short) (write_numbered c.cp short) (eqb-true (write_refusal c).number 0 e)).0,
        ))
    go false e = rw e (lit< tt)

module _ (rec cp : List ℕ) where
  pub write-short : length rec < record_length → v91_write_cp rec cp ≡ record { answer = 16; cp = cp }
  unfolding v91_write_cp answered first
  write-short h = rw (lt-ltb _ _ h)

  module _ (long : record_length ≤ length rec) (r : Record) (er : r ≡ record_at rec) where
    pub write-ends : (o : Result ℕ Refusal) → outcome_answer o ≡ write_refusal (write_call r cp) → IfOk o (λ n. n ≡ write_bit_count (write_call r cp))
        → (left : List ℕ) → left ≡ write_bytes (write_call r cp) → (k : ℕ) → IfOk o (λ n. k ≡ n) → OnErr o (k ≡ coded (outcome_answer o))
        → v91_write_cp rec cp ≡ record { answer = k; cp = left }
    unfolding v91_write_cp answered first write_bytes
    write-ends (Ok n) eo en left el k kn ke = rw (le-ltb _ _ long, el, kn, en, ← er, ← eo)
    write-ends (Err x) eo en left el k kn ke =
        rw (le-ltb _ _ long, el, ← er, ← eo, refused_not {X = ℕ} (Err x) x _ refl refl, ke)

-- ---- v91_read_cp

-- the entry's own refusal, then a short record
pub read-ends : (cp : List ℕ) (n : ℕ) (rec : List ℕ) (o : Result Record Refusal) → outcome_answer o ≡ read_refusal (read_call cp n)
    → IfOk o (λ r. r ≡ read_record (read_call cp n)) → (k : ℕ) → k ≡ coded (then_short (shorter rec record_length) (outcome_answer o)) → (left : List ℕ)
    → IfOk o (λ r. left ≡ cond (shorter rec record_length) rec (over (record_bytes r) rec)) → OnErr o (left ≡ rec)
    → v91_read_cp cp n rec ≡ record { answer = k; rec = left }
unfolding v91_read_cp answered read_refusal then_short first
read-ends cp n rec (Ok r) eo er k ek left el ll = go (shorter rec record_length) refl
  where
    own : first (read_tests cp n ++ (test 17 (shorter rec record_length) ∷ [])) ≡ first (test 17 (shorter rec record_length) ∷ [])
    own = then_own {X = Record} (read_tests cp n) (read_numbered cp n) (shorter rec record_length) (Ok r) eo refl

    go : (b : Bool) → shorter rec record_length ≡ b → v91_read_cp cp n rec ≡ record { answer = k; rec = left }
    go true e = rw (own, el, ek, e)
    go false e = rw (own, el, ek, e, er)
read-ends cp n rec (Err x) eo er k ek left el ll =
    let not = refused_not {X = Record} (Err x) x _ refl refl in
    rw (then_refused {X = Record} (read_tests cp n) (read_numbered cp n) (shorter rec record_length) (Err x) eo refl, not, ll, rw not at ek)

-- ---- v91_send_cp

-- the octet count is that of six masks at most
pub octets-fit : (st : LineState) (c : CpCall) → send_cp_count st c < 2 ^ 32
unfolding send_cp_refusal send_cp_count send_cp_tests record_tests
octets-fit st c = go (accepted (send_cp_refusal st c)) refl
  where
    go : (b : Bool) → accepted (send_cp_refusal st c) ≡ b → send_cp_count st c < 2 ^ 32
    go true e =
        let short = shorter c.octets (length (cp_and_end c.cp)) in
        rw e (omega (
          arith,
          length-cp_and_end c.cp,
          top_lt c.cp
              (none_first (send_cp_tests c.cp st short) (send_cp_numbered c.cp st short) (eqb-true (send_cp_refusal st c).number 0 e)).0,
        ))
    go false e = rw e (lit< tt)

module _ (rec : List ℕ) (a : Bool) (octets state : List ℕ) where
  pub send-cp-short : (ltb (length rec) record_length || ltb (length state) state_length) ≡ true
      → v91_send_cp rec a octets state ≡ record { answer = 16; octets = octets; state = state }
  unfolding v91_send_cp answered
  send-cp-short h = rw (frame-short rec state _ h)

  module _ (h : (ltb (length rec) record_length || ltb (length state) state_length) ≡ false) {r : Record} (er : r ≡ record_at rec)
      {st : LineState} (es : st ≡ state_at state) {l : Law} (el : l ≡ law_of a) where
    abbrev call : CpCall
    call = cp_call r l octets

    pub send-cp-done : (o : Result ℕ Refusal) → outcome_answer o ≡ send_cp_refusal st call → is_ok o ≡ true → IfOk o (λ n. n ≡ send_cp_count st call)
        → {os : List ℕ} → os ≡ send_cp_octets st call → (left : LineState) → left ≡ send_cp_left st call → (s : List ℕ)
        → s ≡ over (line_bytes left) state → (k : ℕ) → IfOk o (λ n. k ≡ n)
        → v91_send_cp rec a octets state ≡ record { answer = k; octets = os; state = s }
    unfolding v91_send_cp answered
    send-cp-done (Ok n) eo t en eos left e s q k kn = rw (frame-long rec state _ h, eos, q, e, kn, en, ← er, ← es, ← el, ← eo)
    send-cp-done (Err x) eo t en eos left e s q k kn = cc

    pub send-cp-refused : (o : Result ℕ Refusal) → outcome_answer o ≡ send_cp_refusal st call → is_ok o ≡ false → {os : List ℕ}
        → os ≡ send_cp_octets st call → (s : List ℕ) → s ≡ state → (k : ℕ) → OnErr o (k ≡ coded (outcome_answer o))
        → v91_send_cp rec a octets state ≡ record { answer = k; octets = os; state = s }
    unfolding v91_send_cp answered send_cp_octets
    send-cp-refused (Ok n) eo t eos s q k ke = cc
    send-cp-refused (Err x) eo t eos s q k ke =
        rw (frame-long rec state _ h, eos, q, ← er, ← es, ← el, ← eo, refused_not {X = ℕ} (Err x) x _ refl refl, ke)

-- ---- v91_find_state

module _ (octets state : List ℕ) where
  pub find-short : length state < state_length → v91_find_state octets state ≡ record { answer = 16; state = state }
  unfolding v91_find_state answered first
  find-short h = rw (lt-ltb _ _ h)

  module _ (long : state_length ≤ length state) {st : LineState} (es : st ≡ state_at state) where
    pub find-done : {X : Type 0} (o : Result X Refusal) → outcome_answer o ≡ find_refusal octets → is_ok o ≡ true → (left : LineState)
        → left ≡ find_left st octets → (s : List ℕ) → s ≡ over (line_bytes left) state → (k : ℕ) → k ≡ coded (outcome_answer o)
        → v91_find_state octets state ≡ record { answer = k; state = s }
    unfolding v91_find_state answered first
    find-done (Ok y) eo t left e s q k ek = rw (le-ltb _ _ long, q, e, ek, ← es, ← eo)
    find-done (Err x) eo t left e s q k ek = cc

    pub find-refused : {X : Type 0} (o : Result X Refusal) → outcome_answer o ≡ find_refusal octets → is_ok o ≡ false → (s : List ℕ)
        → s ≡ state → (k : ℕ) → k ≡ coded (outcome_answer o) → v91_find_state octets state ≡ record { answer = k; state = s }
    unfolding v91_find_state answered first
    find-refused (Ok y) eo t s q k ek = cc
    find-refused {X} (Err x) eo t s q k ek = rw (le-ltb _ _ long, q, ← eo, refused_not {X = X} (Err x) x _ refl refl, ek)
