-- The entry's answer. Assumes nothing.
use Rattle.c_calls.proofs.Ends.{count_below}
use Rattle.settings_c.proofs.Answers.{back_fits, back-ends}
use Rattle.settings_c.proofs.go_back.Goals as goal

pub end_count-requires : goal.end_count-requires
end_count-requires c =
    let a = c.args in
    count_below c.go_back.result c.go_back.ensures.length (back_fits a.file.now a.junction a.out.now)

pub returns : goal.returns
returns c =
    let a = c.args in
    let e = c.go_back.ensures in
    let end = c.end_count in
    back-ends a.file.now a.junction a.out.now c.go_back.result e.refusal e.length _ e.written end.result end.ensures.counted
    end.ensures.refused
