-- What v91_send_dil and v91_plan answer, and their buffers afterwards, as interop/v91.h has them. Assumes nothing.
use Rattle.std.specs.Prelude.{ℕ, Bool, List, [], ◌∷◌, ◌++◌, length}
use Rattle.standard.specs.First.{test, first}
use Rattle.standard.specs.Refusals.{shorter, plan_tests}
use Rattle.standard.specs.Dil.{default_dil}
use Rattle.standard.specs.Calls.{over, dil_call, dil_refusal, dil_octets, plan_call, plan_halves, plan_sum}
use Rattle.c_calls.specs.Answered.{law_of, answered}
use Rattle.forms.specs.PlanBytes.{plan_length, plan_bytes}

-- ---- v91_send_dil: it answers the length of the sequence

pub record AfterDil : Type 0 where
  pub answer : ℕ
  pub octets : List ℕ

unfoldable pub v91_send_dil : Bool → List ℕ → AfterDil
v91_send_dil a_law octets =
    let call = dil_call (law_of a_law) octets in
    answered (dil_refusal call)
    (record { answer = length (default_dil (law_of a_law)); octets = dil_octets call })
    (λ n. record { answer = n; octets = octets })

-- ---- v91_plan: 26, 27 and 28, then 17 for the buffer to be written

pub record AfterPlan : Type 0 where
  pub answer : ℕ
  pub bytes : List ℕ

unfoldable pub v91_plan : ℕ → Bool → ℕ → ℕ → List ℕ → AfterPlan
v91_plan k a_law spacing ceiling bytes =
    let call = plan_call k (law_of a_law) spacing ceiling in
    answered (first (plan_tests k (law_of a_law) spacing ceiling ++ (test 17 (shorter bytes plan_length) ∷ [])))
    (record { answer = 0; bytes = over (plan_bytes (plan_halves call) (plan_sum call)) bytes })
    (λ n. record { answer = n; bytes = bytes })
