-- What the functions of the C interface for the CP answer, and their buffers afterwards, as interop/v91.h has them. Assumes nothing.
use Rattle.std.specs.Prelude.{ℕ, Bool, List, [], ◌∷◌, ◌++◌}
use Rattle.standard.specs.First.{test, first}
use Rattle.standard.specs.Refusals.{shorter, read_tests}
use Rattle.standard.specs.Calls.{over, read_call, read_record, write_call, write_refusal, write_bit_count, write_bytes, cp_call, send_cp_refusal}
use Rattle.standard.specs.Calls.{send_cp_count, send_cp_octets, send_cp_left, find_refusal, find_left}
use Rattle.c_calls.specs.Answered.{law_of, otherwise, answered, frame_answer}
use Rattle.forms.specs.RecordBytes.{record_length, record_bytes, record_at}
use Rattle.states.specs.StateBytes.{state_length, line_bytes, state_at}

-- ---- v91_read_cp: the record is a buffer to be written, so 17 comes last

pub record AfterRead : Type 0 where
  pub answer : ℕ
  pub rec : List ℕ

unfoldable pub v91_read_cp : List ℕ → ℕ → List ℕ → AfterRead
v91_read_cp cp bit_count rec =
    answered (first (read_tests cp bit_count ++ (test 17 (shorter rec record_length) ∷ [])))
    (record { answer = 0; rec = over (record_bytes (read_record (read_call cp bit_count))) rec })
    (λ n. record { answer = n; rec = rec })

-- ---- v91_write_cp. A record or line state that is read or updated and is shorter than its form gets 16 before everything else

pub record AfterWrite : Type 0 where
  pub answer : ℕ
  pub cp : List ℕ

unfoldable pub v91_write_cp : List ℕ → List ℕ → AfterWrite
v91_write_cp rec cp =
    let call = write_call (record_at rec) cp in
    answered (first (test 16 (shorter rec record_length) ∷ otherwise (write_refusal call) ∷ []))
    (record { answer = write_bit_count call; cp = write_bytes call })
    (λ n. record { answer = n; cp = cp })

-- ---- v91_send_cp: it answers the octet count. Of the line state the history and the last sign are written

pub record AfterSendCp : Type 0 where
  pub answer : ℕ
  pub octets : List ℕ
  pub state : List ℕ

unfoldable pub v91_send_cp : List ℕ → Bool → List ℕ → List ℕ → AfterSendCp
v91_send_cp rec a_law octets state =
    let st = state_at state in
    let call = cp_call (record_at rec) (law_of a_law) octets in
    answered (frame_answer rec state (send_cp_refusal st call))
    (record { answer = send_cp_count st call; octets = send_cp_octets st call; state = over (line_bytes (send_cp_left st call)) state })
    (λ n. record { answer = n; octets = octets; state = state })

-- ---- v91_find_state: the same of the line state found

pub record AfterFind : Type 0 where
  pub answer : ℕ
  pub state : List ℕ

unfoldable pub v91_find_state : List ℕ → List ℕ → AfterFind
v91_find_state octets state =
    answered (first (test 16 (shorter state state_length) ∷ otherwise (find_refusal octets) ∷ []))
    (record { answer = 0; state = over (line_bytes (find_left (state_at state) octets)) state })
    (λ n. record { answer = n; state = state })
