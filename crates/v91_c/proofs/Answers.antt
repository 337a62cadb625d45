-- What each function answers, from what its callees ensure. Assumes nothing.
use mathlib.Core.Path.{◌≡◌, refl}
use Prim.Native.Nat.{ℕ, ◌≤◌, ◌<◌}
use mathlib.Core.Bool.{Bool}
use mathlib.Core.List.{List}
use borrow.Author.Tests.{lt-ltb, le-ltb}
use lib.ListN.{length}
use Rattle.std.specs.Prelude.{Result, Ok, Err}
use Rattle.standard.specs.First.{first}
use Rattle.standard.specs.Refusals.{outcome_answer, plan_tests}
use Rattle.standard.specs.Calls.{over, dil_call, dil_refusal, dil_octets, plan_call, plan_refusal, plan_halves, plan_sum}
use Rattle.standard.specs.declared.Law.{Law}
use Rattle.standard.specs.declared.Planned.{Planned}
use Rattle.standard.specs.declared.Refusal.{Refusal}
use Rattle.standard.proofs.Dil.{length-default_dil}
use Rattle.standard.proofs.Refusals.{plan_numbered}
use Rattle.standard.proofs.Stages.{refused_not, done-accepted}
use Rattle.codes.specs.Coded.{coded}
use Rattle.forms.specs.PlanBytes.{plan_length, plan_bytes}
use Rattle.c_calls.specs.Answered.{law_of, answered}
use Rattle.c_calls.proofs.Ends.{then_refused, then_own}
use Rattle.v91_c.specs.Interface.{v91_send_dil, v91_plan}

-- ---- v91_send_dil

module _ (a : Bool) (octets : List ℕ) {l : Law} (el : l ≡ law_of a) {X : Type 0} (o : Result X Refusal)
    (eo : outcome_answer o ≡ dil_refusal (dil_call l octets)) {os : List ℕ} (eos : os ≡ dil_octets (dil_call l octets)) where
  pub dil_refused : {x : Refusal} → o ≡ Err x → {k : ℕ} → k ≡ coded (outcome_answer o) → v91_send_dil a octets ≡ record { answer = k; octets = os }
  unfolding v91_send_dil answered dil_octets
  dil_refused p ek = rw (eos, ← el, ← eo, refused_not o _ (outcome_answer o) p refl, ek)

  pub dil-done : {y : X} → o ≡ Ok y → v91_send_dil a octets ≡ record { answer = 1500; octets = os }
  unfolding v91_send_dil answered
  dil-done p = rw (eos, ← el, ← eo, done-accepted o (outcome_answer o) p refl, length-default_dil)

-- ---- v91_plan

module _ (k : ℕ) (a : Bool) (d ceiling : ℕ) (bytes : List ℕ) {l : Law} (el : l ≡ law_of a) (o : Result Planned Refusal)
    (eo : outcome_answer o ≡ plan_refusal (plan_call k l d ceiling)) where
  pub plan-refused : {x : Refusal} → o ≡ Err x → {n : ℕ} → n ≡ coded (outcome_answer o)
      → v91_plan k a d ceiling bytes ≡ record { answer = n; bytes = bytes }
  unfolding v91_plan answered plan_refusal
  plan-refused p en =
      rw (← el, then_refused (plan_tests k l d ceiling) (plan_numbered k l d ceiling) _ o eo p, refused_not o _ (outcome_answer o) p refl, en)

  module _ {p : Planned} (z : o ≡ Ok p) where
    pub plan-short : length bytes < plan_length → v91_plan k a d ceiling bytes ≡ record { answer = 17; bytes = bytes }
    unfolding v91_plan answered plan_refusal first
    plan-short h = rw (← el, then_own (plan_tests k l d ceiling) (plan_numbered k l d ceiling) _ o eo z, lt-ltb _ _ h)

    pub plan-done : plan_length ≤ length bytes → (halves : List ℕ) → halves ≡ plan_halves (plan_call k l d ceiling) → (sum : ℕ)
        → sum ≡ plan_sum (plan_call k l d ceiling) → (left : List ℕ) → left ≡ over (plan_bytes halves sum) bytes
        → v91_plan k a d ceiling bytes ≡ record { answer = 0; bytes = left }
    unfolding v91_plan answered plan_refusal first
    plan-done long halves eh sum es left e =
        rw (← el, then_own (plan_tests k l d ceiling) (plan_numbered k l d ceiling) _ o eo z, le-ltb _ _ long, e, eh, es)
