-- What holds after n of the N frames of a call. Assumes nothing.
use Rattle.std.specs.Prelude.{◌≡◌, ℕ, ◌*◌, ◌≤◌, Bool, List, ◌++◌, length, drop}
use Rattle.standard.specs.Frame.{call_bits, send_frames, send_after}
use Rattle.standard.specs.declared.Law.{Law}
use Rattle.standard.specs.declared.LineState.{LineState}
use Rattle.standard.specs.declared.Record.{Record}

-- the data bits ds sent from the state st, into the octets os₀, up to bit `at`
pub record Sending (r : Record) (l : Law) (on : Bool) (v N : ℕ) (st : LineState) (ds : List Bool) (os₀ : List ℕ) (n at : ℕ)
    (state : LineState) (os : List ℕ) : Type 0 where
  pub done : n ≤ N
  pub used : at ≡ call_bits r on st.place n
  pub left : state ≡ send_after r on v n st ds
  pub long : length os ≡ length os₀
  pub octets : os ≡ send_frames r l on v n st ds ++ drop (6 * n) os₀
