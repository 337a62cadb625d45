-- A short record first, then the entry's answer. Assumes nothing.
use Rattle.standard.specs.Calls.{write_call}
use Rattle.c_calls.proofs.Ends.{count_below}
use Rattle.cp_c.proofs.Answers.{count_fits, write-short, write-ends}
use Rattle.cp_c.proofs.write_cp.Goals as goal

pub returns-then-rec-lt-RECORD_BYTES : goal.returns-then-rec-lt-RECORD_BYTES
returns-then-rec-lt-RECORD_BYTES c = let a = c.args in write-short a.rec.now a.cp.now c.if-rec-lt-RECORD_BYTES.true

pub end_count-requires : goal.end_count-requires
end_count-requires c = count_below c.write_cp.result c.write_cp.ensures.count (count_fits (write_call c.record_from.result c.args.cp.now))

pub returns : goal.returns
returns c =
    let a = c.args in
    let e = c.write_cp.ensures in
    let end = c.end_count in
    write-ends a.rec.now a.cp.now c.if-rec-lt-RECORD_BYTES.false c.record_from.result c.record_from.ensures
    c.write_cp.result e.refusal e.count _ e.bytes end.result end.ensures.counted end.ensures.refused
