-- Document 02, A.1 and A.2: what makes no two line states differ. Assumes nothing.
use Rattle.std.specs.Prelude.{◌≡◌, ◌⊎◌, ◌*◌, ◌≤◌, List}
use Rattle.standard.specs.Bits.{bits_in}
use Rattle.standard.specs.Calls.{SendCall, ReceiveCall}
use Rattle.standard.specs.declared.LineState.{LineState}
use Rattle.theorems.specs.Runs.{message, sent, handed_over, marks_given, Same}
use Rattle.theorems.specs.Channel.{said_given}

-- states of either end that differ in the count alone (A.1), or else in the sequence's bits and whether a frame of it was lost
pub record Alike (s t : LineState) : Type 0 where
  pub same : Same s t
  pub countˢ : s.doubtful ≤ 24
  pub countᵗ : t.doubtful ≤ 24
  pub place : s.place ≡ t.place
  pub done : s.done ≡ t.done

-- two senders': within a sequence its bits count, since they are yet to be sent; 'lost' is only carried
pub record AlikeSenders (s t : LineState) : Type 0 where
  pub alike : Alike s t
  pub bits : (s.done ≡ 0) ⊎ (s.sequence ≡ t.sequence)

-- two receivers': 'bits to come, and at sequence place 0 that last field, make no two states differ'
pub record AlikeReceivers (s t : LineState) : Type 0 where
  pub alike : Alike s t
  pub bits : bits_in (6 * s.done) s.sequence ≡ bits_in (6 * s.done) t.sequence
  pub lost : (s.done ≡ 0) ⊎ (s.lost ≡ t.lost)

-- begun in either, a list of calls reads, writes and says the same
pub record StatesAlike : Type 0 where
  pub given : (s t : LineState) (cs : List SendCall) → AlikeSenders s t → message s cs ≡ message t cs
  pub octets : (s t : LineState) (cs : List SendCall) → AlikeSenders s t → sent s cs ≡ sent t cs
  pub out : (s t : LineState) (cs : List ReceiveCall) → AlikeReceivers s t → handed_over s cs ≡ handed_over t cs
  pub marks : (s t : LineState) (cs : List ReceiveCall) → AlikeReceivers s t → marks_given s cs ≡ marks_given t cs
  pub said : (s t : LineState) (cs : List ReceiveCall) → AlikeReceivers s t → said_given s cs ≡ said_given t cs
