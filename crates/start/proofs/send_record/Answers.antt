-- The bytes of the CP have its bits. Assumes nothing.
use mathlib.Core.Path.{ap, ◌∙◌}
use lib.ListN.{drop, replicate}
use Rattle.standard.specs.Start.{octets_for, left_by}
use Rattle.start.proofs.Answers.{cp-bits}
use Rattle.start.proofs.send_record.Goals as goal

pub returns : goal.returns
returns c =
    let sent = c.send_bits in
    let a = c.args in
    let later = drop c.byte_count.result (replicate 122 0) in
    let bits = cp-bits a.r a.law a.state a.octets.now later c.requires.0 c.cp_length.ensures c.put_cp.ensures in
    (sent.ensures.0 ∙ ap (left_by a.state) bits, sent.ensures.1 ∙ ap (octets_for a.law a.state) bits)
