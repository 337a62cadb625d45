-- The lowest byte of a number in place of byte i. Assumes nothing.
use Rattle.bits.proofs.PutField.{put_field_byte}
use Rattle.bits.proofs.put_byte.Goals as goal

pub returns : goal.returns
returns c =
    let a = c.args in
    rw c.low_byte.ensures
    (put_field_byte a.bytes.now a.i a.word (λ i. (c.slice_known-1.given i).fits) c.requires)
