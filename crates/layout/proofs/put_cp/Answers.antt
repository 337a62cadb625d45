-- Zeroed bytes, the masks, the head and the CRC are the CP. Assumes nothing.
use Rattle.std.proofs.Common.{rules}
use Rattle.layout.proofs.Writing.{cp-put}
use Rattle.layout.proofs.put_cp.Goals as goal

pub returns : goal.returns
returns c =
    cp-put c.args.r c.largest_index-g.result c.crc_of-crc.result c.args.cp.now _ _ _ _
    c.requires.1 c.largest_index-g.ensures (c.fill.ensures.after (λ y e. search rules)) c.put_masks.ensures c.put_head.ensures
    c.crc_of-crc.ensures c.put_field.ensures
