-- A line state in 21 bytes: the history in four, low byte first, then the last sign, the count of doubtful bits, the frame place, the
-- sequence place, the sequence's bits in twelve, bit 0 first, and whether a frame of it was lost. Assumes nothing.
use Rattle.std.specs.Prelude.{ℕ, ◌+◌, ◌-◌, ◌*◌, ◌/◌, ◌%◌, ◌^◌, cond, List, ltb, get_or}
use Rattle.standard.specs.Lists.{list_from}
use Rattle.standard.specs.Bits.{weight, positive, bit_at, field}
use Rattle.standard.specs.declared.LineState.{LineState}

-- byte k of a line state
unfoldable pub state_byte : LineState → ℕ → ℕ
state_byte st k =
    cond (ltb k 4) (st.history / 2 ^ (8 * k) % 256)
    (cond (ltb k 5) (weight st.sign)
    (cond (ltb k 6) st.doubtful
    (cond (ltb k 7) st.place
    (cond (ltb k 8) st.done (cond (ltb k 20) (get_or st.sequence (k - 8) 0) (weight st.lost))))))

abbrev pub state_length : ℕ
state_length = 21

unfoldable pub state_bytes : LineState → List ℕ
state_bytes st = list_from (state_byte st) 0 state_length

-- the history and the last sign, which are its first bytes
abbrev pub line_length : ℕ
line_length = 5

unfoldable pub line_bytes : LineState → List ℕ
line_bytes st = list_from (state_byte st) 0 line_length

-- byte i of the sequence's bits
abbrev pub sequence_byte : List ℕ → ℕ → ℕ
sequence_byte s i = get_or s (8 + i) 0

-- the line state in the bytes s: the history is their first 32 bits; a flag is set where its byte is not 0
unfoldable pub state_at : List ℕ → LineState
state_at s =
    record {
      history = field (bit_at s) 0 32;
      sign = positive (get_or s 4 0);
      doubtful = get_or s 5 0;
      place = get_or s 6 0;
      done = get_or s 7 0;
      sequence = list_from (sequence_byte s) 0 12;
      lost = positive (get_or s 20 0);
    }
