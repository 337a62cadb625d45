-- What the functions of the C interface for the settings file answer, and their buffers afterwards, as interop/v91.h has them. Assumes
-- nothing.
use Rattle.std.specs.Prelude.{ℕ, List, [], ◌∷◌, ◌++◌}
use Rattle.standard.specs.First.{test, first}
use Rattle.standard.specs.Refusals.{shorter}
use Rattle.standard.specs.Settings.{look_tests}
use Rattle.standard.specs.Calls.{over, put_call, put_refusal, put_length, put_out, back_call, back_refusal, back_length, back_out, look_record}
use Rattle.c_calls.specs.Answered.{otherwise, answered}
use Rattle.forms.specs.RecordBytes.{record_length, record_bytes, record_at}

-- ---- v91_put and v91_go_back: the length of the file written

pub record AfterFile : Type 0 where
  pub answer : ℕ
  pub out : List ℕ

unfoldable pub v91_put : List ℕ → ℕ → List ℕ → List ℕ → AfterFile
v91_put file junction rec out =
    let call = put_call junction (record_at rec) out in
    answered (first (test 16 (shorter rec record_length) ∷ otherwise (put_refusal file call) ∷ []))
    (record { answer = put_length file call; out = put_out file call })
    (λ n. record { answer = n; out = out })

unfoldable pub v91_go_back : List ℕ → ℕ → List ℕ → AfterFile
v91_go_back file junction out =
    let call = back_call junction out in
    answered (back_refusal file call)
    (record { answer = back_length file call; out = back_out file call })
    (λ n. record { answer = n; out = out })

-- ---- v91_look_up: the record is a buffer to be written, so 17 comes last

pub record AfterLook : Type 0 where
  pub answer : ℕ
  pub rec : List ℕ

unfoldable pub v91_look_up : List ℕ → ℕ → List ℕ → AfterLook
v91_look_up file junction rec =
    answered (first (look_tests file junction ++ (test 17 (shorter rec record_length) ∷ [])))
    (record { answer = 0; rec = over (record_bytes (look_record file junction)) rec })
    (λ n. record { answer = n; rec = rec })
