-- The masks are read up to the largest index of the head. Assumes nothing.
use Rattle.standard.specs.Bits.{bit_at}
use Rattle.layout.proofs.Reading.{record_read}
use Rattle.layout.proofs.record_in.Goals as goal

pub returns : goal.returns
returns c = record_read (bit_at c.args.cp.now) _ _ _ c.head_in-r.ensures
    c.largest_index-g.ensures c.masks_in-mask.ensures
