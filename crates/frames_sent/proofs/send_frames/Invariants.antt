-- After n turns the first n frames are sent. Assumes nothing.
use Rattle.standard.specs.Bits.{bits_in}
use Rattle.standard.specs.Frame.{call_bits}
use Rattle.standard.specs.declared.Record.{Record}
use Rattle.mapping.specs.Tables.{point_tables}
use Rattle.frame.specs.Parts.{state_of, Bounded}
use Rattle.frame.specs.Allowed.{Drawn}
use Rattle.frames_sent.specs.Loops.{Sending}
use Rattle.frames_sent.proofs.send_frames.Given as goal

abbrev pub invariant-loop-n : goal.invariant-loop-n
invariant-loop-n l =
    Bounded l.line
    × ((r : Record) → let st = state_of l.initial.line l.initial.sequence in Drawn point_tables r st l.frames l.mapping l.sender.points.now
    → Sending r l.sender.law l.control l.word l.frames st (bits_in (call_bits r l.control st.place l.frames) l.bytes) l.initial.octets l.n l.used (state_of l.line l.sequence)
    l.octets)
