-- What the functions of the C interface for frames answer, and their buffers afterwards, as interop/v91.h has them. Assumes nothing.
use Rattle.std.specs.Prelude.{ℕ, Bool, List}
use Rattle.standard.specs.Refusals.{shorter}
use Rattle.standard.specs.Calls.{over, send_call, send_refusal, send_left, send_octets, receive_call, receive_refusal, receive_left, receive_bytes}
use Rattle.standard.specs.Calls.{receive_marked, receive_says}
use Rattle.c_calls.specs.Answered.{law_of, answered, frame_answer, state_left, then_short}
use Rattle.forms.specs.RecordBytes.{record_at}
use Rattle.states.specs.StateBytes.{state_at}
use Rattle.forms.specs.HeardBytes.{heard_length, heard_bytes}

-- ---- v91_send

pub record AfterSend : Type 0 where
  pub answer : ℕ
  pub octets : List ℕ
  pub state : List ℕ

unfoldable pub v91_send : List ℕ → Bool → ℕ → Bool → ℕ → List ℕ → List ℕ → List ℕ → AfterSend
v91_send rec a_law frames control word bits octets state =
    let st = state_at state in
    let call = send_call (record_at rec) (law_of a_law) frames control word bits octets in
    answered (frame_answer rec state (send_refusal st call))
    (record { answer = 0; octets = send_octets st call; state = state_left frames (send_left st call) state })
    (λ n. record { answer = n; octets = octets; state = state })

-- ---- v91_receive

pub record AfterReceive : Type 0 where
  pub answer : ℕ
  pub bits : List ℕ
  pub marks : List ℕ
  pub heard : List ℕ
  pub state : List ℕ

unfoldable pub v91_receive : List ℕ → Bool → ℕ → Bool → List ℕ → List ℕ → List ℕ → List ℕ → List ℕ → AfterReceive
v91_receive rec a_law frames control octets bits marks heard state =
    let st = state_at state in
    let call = receive_call (record_at rec) (law_of a_law) frames control octets bits marks in
    answered (then_short (shorter heard heard_length) (frame_answer rec state (receive_refusal st call)))
    (record {
      answer = 0;
      bits = receive_bytes st call;
      marks = receive_marked st call;
      heard = over (heard_bytes (receive_says st call)) heard;
      state = state_left frames (receive_left st call) state;
    })
    (λ n. record { answer = n; bits = bits; marks = marks; heard = heard; state = state })
