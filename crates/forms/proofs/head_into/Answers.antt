-- Nine bytes in their order. Assumes nothing.
use Rattle.forms.proofs.Into.{head_put}
use Rattle.forms.proofs.head_into.Goals as goal

pub returns : goal.returns
returns c =
    let index = c.copy_from_slice.ensures in
    head_put c.args.r c.args.bytes.now c.copy_from_slice.new.self c.requires index.after index.len
