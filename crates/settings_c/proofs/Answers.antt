-- What each function answers, from what its callees ensure. Assumes nothing.
use mathlib.Core.Path.{◌≡◌, refl, sym, subst}
use Prim.Native.Nat.{ℕ, ◌+◌, ◌*◌, ◌^◌, ◌≤◌, ◌<◌}
use mathlib.Core.Bool.{Bool, true, false, cond}
use mathlib.Core.List.{List, [], ◌∷◌, ◌++◌}
use native.Mathlib.Omega.{arith}
use borrow.Author.Tests.{lt-ltb, le-ltb}
use lib.Dec.{T, lit<}
use lib.ListN.{length}
use Rattle.std.specs.Prelude.{Result, Ok, Err, IfOk, OnErr}
use Rattle.standard.specs.First.{test, first}
use Rattle.standard.specs.Bits.{bit_at}
use Rattle.standard.specs.Refusals.{shorter, outcome_answer}
use Rattle.standard.specs.Settings.{look_tests}
use Rattle.standard.specs.Calls.{over, put_call, put_refusal, put_length, put_out, back_call, back_refusal, back_length, back_out}
use Rattle.standard.specs.Calls.{look_refusal, look_record}
use Rattle.standard.specs.declared.Record.{Record}
use Rattle.standard.specs.declared.Refusal.{Refusal}
use Rattle.standard.proofs.Lists.{length-list_from, list_below}
use Rattle.standard.proofs.Bits.{field_lt}
use Rattle.standard.proofs.First.{numbered}
use Rattle.standard.proofs.Stages.{refused_not}
use Rattle.theorems_cp.specs.RoundTrip.{Shaped}
use Rattle.theorems_settings.proofs.Lengths.{put-length, back-length}
use Rattle.codes.specs.Coded.{coded}
use Rattle.forms.specs.RecordBytes.{record_length, record_bytes, index_at, half_at, record_at}
use Rattle.c_calls.specs.Answered.{answered, then_short}
use Rattle.c_calls.proofs.Ends.{then_refused, then_own}
use Rattle.settings_c.specs.Interface.{v91_put, v91_go_back, v91_look_up}

-- ---- v91_put

-- what the bytes of a record give has the shape of its type
shaped : (rec : List ℕ) → Shaped (record_at rec)
unfolding record_at
shaped rec =
    record {
      indices = length-list_from (index_at rec) 0 6;
      halves = length-list_from (half_at rec) 0 12;
      words = λ h. list_below (half_at rec) (2 ^ 64) (lit< tt) 12 h (λ k. field_lt (bit_at rec) (72 + 64 * k) 64);
    }

module _ (file : List ℕ) (j : ℕ) (rec out : List ℕ) where
  pub put-short : length rec < record_length → v91_put file j rec out ≡ record { answer = 16; out = out }
  unfolding v91_put answered first
  put-short h = rw (lt-ltb _ _ h)

  module _ (long : record_length ≤ length rec) (r : Record) (er : r ≡ record_at rec) where
    pub put-ends : (o : Result ℕ Refusal) → outcome_answer o ≡ put_refusal file (put_call j r out)
        → IfOk o (λ n. n ≡ put_length file (put_call j r out)) → (left : List ℕ) → left ≡ put_out file (put_call j r out)
        → (k : ℕ) → IfOk o (λ n. k ≡ n) → OnErr o (k ≡ coded (outcome_answer o)) → v91_put file j rec out ≡ record { answer = k; out = left }
    unfolding v91_put answered first put_out
    put-ends (Ok n) eo en left el k kn ke = rw (le-ltb _ _ long, el, kn, en, ← er, ← eo)
    put-ends (Err x) eo en left el k kn ke =
        rw (le-ltb _ _ long, el, ← er, ← eo, refused_not {X = ℕ} (Err x) x _ refl refl, ke)

  pub put-fits : (r : Record) → r ≡ record_at rec → put_length file (put_call j r out) < 2 ^ 32
  put-fits r er = omega (arith, put-length file (put_call j r out) (subst Shaped (sym er) (shaped rec)))

-- ---- v91_go_back

module _ (file : List ℕ) (j : ℕ) (out : List ℕ) where
  pub back-ends : (o : Result ℕ Refusal) → outcome_answer o ≡ back_refusal file (back_call j out)
      → IfOk o (λ n. n ≡ back_length file (back_call j out)) → (left : List ℕ) → left ≡ back_out file (back_call j out)
      → (k : ℕ) → IfOk o (λ n. k ≡ n) → OnErr o (k ≡ coded (outcome_answer o)) → v91_go_back file j out ≡ record { answer = k; out = left }
  unfolding v91_go_back answered back_out
  back-ends (Ok n) eo en left el k kn ke = rw (el, kn, en, ← eo)
  back-ends (Err x) eo en left el k kn ke = rw (el, ← eo, refused_not {X = ℕ} (Err x) x _ refl refl, ke)

  pub back_fits : back_length file (back_call j out) < 2 ^ 32
  back_fits = omega (arith, back-length file (back_call j out))

-- ---- v91_look_up

look-numbered : (file : List ℕ) (j : ℕ) → T (numbered (look_tests file j))
unfolding look_tests
look-numbered file j = tt

-- the entry's own refusal, then a short record
pub look-ends : (file : List ℕ) (j : ℕ) (rec : List ℕ) (o : Result Record Refusal) → outcome_answer o ≡ look_refusal file j
    → IfOk o (λ r. r ≡ look_record file j) → (k : ℕ) → k ≡ coded (then_short (shorter rec record_length) (outcome_answer o)) → (left : List ℕ)
    → IfOk o (λ r. left ≡ cond (shorter rec record_length) rec (over (record_bytes r) rec)) → OnErr o (left ≡ rec)
    → v91_look_up file j rec ≡ record { answer = k; rec = left }
unfolding v91_look_up answered look_refusal then_short first
look-ends file j rec (Ok r) eo er k ek left el ll = go (shorter rec record_length) refl
  where
    own : first (look_tests file j ++ (test 17 (shorter rec record_length) ∷ [])) ≡ first (test 17 (shorter rec record_length) ∷ [])
    own = then_own {X = Record} (look_tests file j) (look-numbered file j) (shorter rec record_length) (Ok r) eo refl

    go : (b : Bool) → shorter rec record_length ≡ b → v91_look_up file j rec ≡ record { answer = k; rec = left }
    go true e = rw (own, el, ek, e)
    go false e = rw (own, el, ek, e, er)
look-ends file j rec (Err x) eo er k ek left el ll =
    let not = refused_not {X = Record} (Err x) x _ refl refl in
    rw (then_refused {X = Record} (look_tests file j) (look-numbered file j) (shorter rec record_length) (Err x) eo refl, not, ll, rw not at ek)
