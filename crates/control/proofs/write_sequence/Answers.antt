-- Pattern, orders, secondary channel and CRC are the sequence. Assumes nothing.
use native.Mathlib.Omega.{arith}
use Rattle.control.proofs.Writing.{sequence-put}
use Rattle.control.proofs.write_sequence.Goals as goal

pub returns : goal.returns
returns c =
    sequence-put c.args.word c.crc_in-crc.result c.args.sequence.now _ _ _ _ (omega arith) c.put_field.ensures
    c.put_field-2.ensures c.put_field-3.ensures c.crc_in-crc.ensures c.put_field-4.ensures
