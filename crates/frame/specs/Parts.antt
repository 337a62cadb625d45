-- What a call carries from frame to frame, as code has it. Assumes nothing.
--
-- The functions of a frame (sending, receiving) have no record. Their contracts ask that K, D, sizes and table are drawn up of some record,
-- and speak of each such record.
use Rattle.std.specs.Prelude.{ℕ, ◌<◌, ◌^◌, List}
use Rattle.standard.specs.declared.LineState.{LineState}
use Rattle.frame.specs.declared.Carried.{Carried}
use Rattle.coding.specs.Past.{turned}

-- the line state that is carried, where bs has the sequence's bits
abbrev pub state_of : Carried → List ℕ → LineState
state_of x bs =
    record {
      history = turned x.past;
      sign = x.sign;
      doubtful = x.doubtful;
      place = x.place;
      done = x.done;
      sequence = bs;
      lost = x.lost;
    }

-- what is carried is within its limits
pub record Bounded (x : Carried) : Type 0 where
  pub past : x.past < 2 ^ 23
  pub place : x.place < 64
  pub done : x.done < 16
