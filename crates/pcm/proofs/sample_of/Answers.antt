-- `pcm::sample_of` meets its contract: a linear value below 2 ^ 15 fits with either sign. Assumes nothing.
use mathlib.Core.Path.{◌∙◌}
use mathlib.Core.Bool.{true, false}
use Rattle.pcm.proofs.Sample.{positive-fits, positive_is, difference_fits, negative_is, sample_is}
use Rattle.pcm.proofs.sample_of.Goals as goal

pub magnitude_of-size-requires : goal.magnitude_of-size-requires
magnitude_of-size-requires c = c.ucode_of.ensures.1

pub overflow_cast-size : goal.overflow_cast-size
overflow_cast-size c = positive-fits c.magnitude_of-size.result c.magnitude_of-size.ensures.1

pub overflow_sub-result : goal.overflow_sub-result
overflow_sub-result c = difference_fits c.magnitude_of-size.result c.magnitude_of-size.ensures.1

pub returns-then-sign_of : goal.returns-then-sign_of
returns-then-sign_of c =
    let a = c.args in
    let u = c.ucode_of in
    let m = c.magnitude_of-size in
    let s = c.sign_of in
    positive_is m.result m.ensures.1
    ∙ sample_is a.law a.octet m.result u.result s.result true m.ensures.0 u.ensures.0 s.ensures c.if-sign_of.true

pub returns-else-sign_of : goal.returns-else-sign_of
returns-else-sign_of c =
    let a = c.args in
    let u = c.ucode_of in
    let m = c.magnitude_of-size in
    let s = c.sign_of in
    negative_is m.result m.ensures.1
    ∙ sample_is a.law a.octet m.result u.result s.result false m.ensures.0 u.ensures.0 s.ensures c.if-sign_of.false
