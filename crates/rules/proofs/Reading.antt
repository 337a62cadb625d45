-- A CP in a file, by what the reader answers. Assumes nothing.
use mathlib.Core.Path.{◌≡◌, refl, sym, ap, ◌∙◌}
use Prim.Native.Nat.{ℕ}
use mathlib.Core.Bool.{false}
use mathlib.Core.List.{List}
use borrow.Author.Tests.{eq-eqb, ne_eqb}
use native.Mathlib.Omega.{arith}
use lib.ListN.{length}
use Rattle.std.specs.Int.{div_ceil}
use Rattle.std.specs.Prelude.{Result, Ok, Err, is_ok}
use Rattle.standard.specs.Bits.{bytes_for}
use Rattle.standard.specs.Refusals.{outcome_answer}
use Rattle.standard.specs.Settings.{bit_count_of, readable}
use Rattle.standard.specs.Calls.{accepted, read_call, read_refusal}
use Rattle.standard.specs.declared.Record.{Record}
use Rattle.standard.specs.declared.Refusal.{Refusal}
use Rattle.standard.proofs.Stages.{refused_not}
use Rattle.theorems_settings.proofs.Logic.{and_no, and_yes}

eighths : (n : ℕ) → div_ceil n 8 ≡ bytes_for n
eighths n = omega arith

ok_accepted : (o : Result Record Refusal) → is_ok o ≡ accepted (outcome_answer o)
ok_accepted (Ok r) = refl
ok_accepted (Err x) = sym (refused_not {X = Record} (Err x) x (outcome_answer {X = Record} (Err x)) refl refl)

module _ (cp : List ℕ) (n m : ℕ) (en : n ≡ bit_count_of (length cp)) (em : m ≡ div_ceil n 8) where
  bytes : m ≡ bytes_for (bit_count_of (length cp))
  bytes = em ∙ eighths n ∙ ap (λ (k : ℕ). bytes_for k) en

  pub readable_no : (length cp ≡ m → ⊥) → false ≡ readable cp
  unfolding readable
  readable_no h = and_no _ _ (ne_eqb (length cp) (bytes_for (bit_count_of (length cp))) (λ q. h (q ∙ sym bytes)))

  pub readable_by : length cp ≡ m → (o : Result Record Refusal) → outcome_answer o ≡ read_refusal (read_call cp n) → is_ok o ≡ readable cp
  unfolding readable read_refusal
  readable_by h o e =
      ok_accepted o ∙ ap accepted e
      ∙ sym (and_yes _ _ (eq-eqb (length cp) (bytes_for (bit_count_of (length cp))) (h ∙ bytes))
      ∙ ap (λ (k : ℕ). accepted (read_refusal (read_call cp k))) (sym en))
