-- After n turns the first n frames are received, and fewer than 64 of their bits are held. Assumes nothing.
use Prim.Native.Nat.{◌+◌, ◌*◌}
use lib.ListN.{take}
use Rattle.standard.specs.declared.Record.{Record}
use Rattle.bits.specs.PutField.{Holds, poured}
use Rattle.mapping.specs.Tables.{label_tables}
use Rattle.frame.specs.Parts.{state_of, Bounded}
use Rattle.frame.specs.Allowed.{Drawn}
use Rattle.frames_received.specs.Loops.{Receiving}
use Rattle.frames_received.proofs.receive_frames.Given as goal

abbrev pub invariant-loop-n : goal.invariant-loop-n
invariant-loop-n l =
    Bounded l.line × Holds l.pouring
    × ((r : Record) → let st = state_of l.initial.line l.initial.sequence in Drawn label_tables r st l.frames l.mapping l.receiver.labels.now
    → Receiving r l.receiver.law l.control l.frames st (take (6 * l.frames) l.octets) l.initial.bytes l.initial.marks l.n (8 * l.pouring.to + l.pouring.count)
    (state_of l.line l.sequence)
    l.said (poured l.bytes l.pouring) l.marks)
