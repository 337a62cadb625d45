-- What holds after n of the N frames of a call. Assumes nothing.
use Rattle.std.specs.Prelude.{◌≡◌, ℕ, ◌≤◌, Bool, List, ◌++◌, length, drop}
use Rattle.standard.specs.Lists.{last_or}
use Rattle.standard.specs.Bits.{nth}
use Rattle.standard.specs.Frame.{call_bits, receive_frames, receive_marks, receive_after, receive_said}
use Rattle.standard.specs.declared.Law.{Law}
use Rattle.standard.specs.declared.LineState.{LineState}
use Rattle.standard.specs.declared.Record.{Record}
use Rattle.standard.specs.declared.Said.{Said}
use Rattle.standard.specs.declared.Said.TheVariants.{Nothing}
use Rattle.frames_received.specs.Buffers.{bits_over}

-- the octets os received from the state st, into the data bytes bs₀, up to bit `at`, and the marks ms₀; bs are the bytes with the bits that
-- are held
pub record Receiving (r : Record) (l : Law) (on : Bool) (N : ℕ) (st : LineState) (os bs₀ ms₀ : List ℕ) (n at : ℕ) (state : LineState)
    (answer : Said) (bs ms : List ℕ) : Type 0 where
  pub done : n ≤ N
  pub filled : at ≡ call_bits r on st.place n
  pub left : state ≡ receive_after r l on n st os
  pub said : answer ≡ last_or Nothing (receive_said r l on n st os)
  pub long_bits : length bs ≡ length bs₀
  pub bits : bs ≡ bits_over (call_bits r on st.place n) (nth (receive_frames r l on n st os)) bs₀
  pub long_marks : length ms ≡ length ms₀
  pub marks : ms ≡ receive_marks r l n os ++ drop n ms₀
