-- A short record first, then the entry's answer. Assumes nothing.
use Rattle.c_calls.proofs.Ends.{count_below}
use Rattle.settings_c.proofs.Answers.{put-short, put-fits, put-ends}
use Rattle.settings_c.proofs.put.Goals as goal

pub returns-then-rec-lt-RECORD_BYTES : goal.returns-then-rec-lt-RECORD_BYTES
returns-then-rec-lt-RECORD_BYTES c =
    let a = c.args in
    put-short a.file.now a.junction a.rec.now a.out.now c.if-rec-lt-RECORD_BYTES.true

pub end_count-requires : goal.end_count-requires
end_count-requires c =
    let a = c.args in
    count_below c.put.result c.put.ensures.length (put-fits a.file.now a.junction a.rec.now a.out.now _ c.record_from-r.ensures)

pub returns : goal.returns
returns c =
    let a = c.args in
    let e = c.put.ensures in
    let end = c.end_count in
    put-ends a.file.now a.junction a.rec.now a.out.now c.if-rec-lt-RECORD_BYTES.false _ c.record_from-r.ensures
    c.put.result e.refusal e.length _ e.written end.result end.ensures.counted end.ensures.refused
