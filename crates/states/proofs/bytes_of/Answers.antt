-- `states::bytes_of` meets its contract. Assumes nothing.
use mathlib.Core.Path.{◌∙◌}
use Rattle.states.proofs.Bytes.{bytes-are}
use Rattle.states.proofs.bytes_of.Goals as goal

pub returns : goal.returns
returns c =
    let sequence = c.copy_from_slice-2.ensures in
    bytes-are c.args.s c.copy_from_slice.new.self c.copy_from_slice-2.new.self (c.copy_from_slice.ensures.after ∙ c.to_le_bytes.ensures)
    sequence.after sequence.len
