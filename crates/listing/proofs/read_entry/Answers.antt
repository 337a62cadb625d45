-- Its fields, one by one. Assumes nothing.
use mathlib.Core.Path.{◌∙◌}
use Rattle.standard.specs.Record.{no_record}
use Rattle.listing.proofs.Reading.{reads-entry, read_or}
use Rattle.listing.proofs.read_entry.Goals as goal

pub returns : goal.returns
unfolding no_record
returns c =
    let a = c.args in
    let v = c.version_in-v in
    let len = c.from in
    let j = c.number_at in
    reads-entry a.file.now a.at v.result len.result j.result _ _ v.ensures.0 len.ensures
    c.requires
    j.ensures.value c.bit_count_of.ensures.value (c.unwrap_or.ensures ∙ read_or _ _ c.read_cp-read.ensures.refusal c.read_cp-read.ensures.read)
