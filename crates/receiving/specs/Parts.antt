-- The parts of a frame as code receives it, and what it asks of its caller. Assumes nothing.
use Rattle.std.specs.Prelude.{◌≡◌, ℕ, List}
use Rattle.standard.specs.Bits.{number_of}
use Rattle.standard.specs.Frame.{mark as mark_of, Incoming, receive_frame, receive_next}
use Rattle.standard.specs.declared.Law.{Law}
use Rattle.standard.specs.declared.Record.{Record}
use Rattle.mapping.specs.declared.Mapping.{Mapping}
use Rattle.frame.specs.declared.Carried.{Carried}
use Rattle.frame.specs.Parts.{state_of, Bounded}
use Rattle.receiving.specs.declared.FrameReceived.{FrameReceived}
use Rattle.hearing.specs.Legible.{Legible}

-- six octets can be received with the record r in the carried state x
pub record Receivable (r : Record) (m : Mapping) (ls : List (List ℕ)) (x : Carried) : Type 0 where
  pub legible : Legible r m ls
  pub bounded : Bounded x

-- the frame f was received in the carried state x with the sequence's bits bs, which left those of y and cs
pub record ReceivedAs (r : Record) (l : Law) (f : Incoming) (x : Carried) (bs : List ℕ) (y : FrameReceived) (cs : List ℕ) : Type 0 where
  pub mark : y.mark ≡ mark_of r l f.octets
  pub state : state_of y.line cs ≡ receive_next r l (state_of x bs) f
  pub bounded : Bounded y.line
  pub bits : y.bits ≡ number_of (receive_frame r l (state_of x bs) f)
