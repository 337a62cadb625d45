-- After n turns the first n frames are cut. Assumes nothing.
use Rattle.standard.specs.Frame.{call_bits}
use Rattle.streams.proofs.Widths.{Cutting}
use Rattle.streams.proofs.cut_into.Given as goal

abbrev pub invariant-loop-frames : goal.invariant-loop-frames
invariant-loop-frames l = Cutting (call_bits l.r l.control l.place) l.bits l.left l.frames
