-- Each part is read at its place. Assumes nothing.
use Rattle.standard.proofs.Words.{positive-test}
use lib.ListN.{get_or}
use Rattle.forms.specs.RecordBytes.{record_at}
use Rattle.forms.proofs.record_from.Goals as goal

pub returns : goal.returns
unfolding record_at
returns c =
    let s = c.args.bytes.now in
    rw (
      positive-test (get_or s 0 0),
      positive-test (get_or s 2 0),
      c.indices_at.ensures,
      c.masks_at.ensures,
    )
