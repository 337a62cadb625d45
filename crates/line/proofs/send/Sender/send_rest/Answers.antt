-- Fewer bits than 48 fit a call. Assumes nothing.
use Rattle.std.proofs.Common.{arith}
use Rattle.streams.proofs.Widths.{call_bits-least}
use Rattle.line.proofs.send.Sender.send_rest.Goals as goal

pub cut_into-cut-requires : goal.cut_into-cut-requires
cut_into-cut-requires c =
    let s = c.args.self.now in
    let rate = s.rate in
    let few = s.few in
    let least = call_bits-least s.r c.is_some.result c.place_of-place.result 1024 in
    (omega arith, omega arith, omega arith)
