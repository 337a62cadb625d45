-- Bytes there and back: what was put into bytes is what is read from them, whatever stands after it. The premises are what the types say:
-- u32, [u8; 6], [u64; 12] and [u8; 12]. Assumes nothing.
use Rattle.std.specs.Prelude.{◌≡◌, ℕ, ◌^◌, ◌<◌, List, ◌++◌, length}
use Rattle.standard.specs.Record.{half_of}
use Rattle.standard.specs.Start.{with_line}
use Rattle.standard.specs.Calls.{over}
use Rattle.standard.specs.declared.Record.{Record}
use Rattle.standard.specs.declared.LineState.{LineState}
use Rattle.forms.specs.RecordBytes.{record_bytes, record_at}
use Rattle.states.specs.StateBytes.{state_bytes, line_bytes, state_at}

abbrev pub StateBack : Type 0
StateBack = (st : LineState) (t : List ℕ) → st.history < 2 ^ 32 → length st.sequence ≡ 12 → state_at (state_bytes st ++ t) ≡ st

-- history and last sign in the first bytes: the others are read as they were
abbrev pub LineBack : Type 0
LineBack =
    (st : LineState) (s : List ℕ) → st.history < 2 ^ 32 → state_at (over (line_bytes st) s) ≡ with_line (state_at s) st.history st.sign

abbrev pub RecordBack : Type 0
RecordBack =
    (r : Record) (t : List ℕ) → length r.index ≡ 6 → length r.mask ≡ 12 → ((h : ℕ) → half_of r h < 2 ^ 64)
    → record_at (record_bytes r ++ t) ≡ r
