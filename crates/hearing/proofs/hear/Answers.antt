-- The tests are made in the order of the marks, and a frame that none of them marks gives its bits on the line. Assumes nothing.
use mathlib.Core.Path.{sym, ap, ◌∙◌}
use Prim.Native.Nat.{◌+◌, ◌<◌}
use native.Mathlib.Omega.{arith}
use mathlib.Core.Bool.{Bool}
use mathlib.Core.List.{List}
use Rattle.standard.specs.Bits.{number_of}
use Rattle.standard.specs.Signs.{sign_bits}
use Rattle.standard.specs.Frame.{sign_at, mark}
use Rattle.mapping.proofs.Tables.{number-le, size-le}
use Rattle.coding.proofs.SixSigns.{signs_are}
use Rattle.hearing.proofs.Hearing.{first_is, none-is, number_is, limit_is, mark-outside, mark_seventh, mark-good, marked_bits, good-bits}
use Rattle.hearing.proofs.hear.Goals as goal

pub returns-in-Some : goal.returns-in-Some
returns-in-Some c r s =
    let a = c.args in
    let os = a.octets.now in
    let first = c.in-Some.ensures in
    let h : 0 < c.in-Some.interval + 1 = omega arith in
    let e = mark-outside r a.receiver.now.law os _
    (first_is r a.receiver.now.law os _ s.labels _ c.labels_in-found.ensures c.in-Some.interval first.0 first.1 first.2) h in
    (e, marked_bits r a.receiver.now.law os a.last (rw e at h))

pub number_of-number-requires : goal.number_of-number-requires
number_of-number-requires c = let s = c.requires.0.1 in size-le _ _ s.mapped

pub overflow_shl-receiver : goal.overflow_shl-receiver
overflow_shl-receiver c = let s = c.requires.0.1 in omega (arith, number-le _ _ s.mapped s.rate)

pub returns-then-receiver-number : goal.returns-then-receiver-number
returns-then-receiver-number c r s =
    let a = c.args in
    let os = a.octets.now in
    let found = c.labels_in-found.ensures in
    let inside = none-is r a.receiver.now.law os _ s.labels _ found (λ k h. c.in_default.ensures k (omega arith)) in
    let number = c.number_of-number.ensures ∙ number_is r a.receiver.now.law os _ s.labels _ found inside _ s.mapped in
    let large = rw (limit_is r a.receiver.now.law os _ s.mapped s.rate, number) at c.if-receiver-number.true in
    let e = mark_seventh r a.receiver.now.law os inside large in
    let p : 0 < mark r a.receiver.now.law os = omega arith in
    (sym e, marked_bits r a.receiver.now.law os a.last p)

pub returns : goal.returns
returns c r s =
    let a = c.args in
    let os = a.octets.now in
    let found = c.labels_in-found.ensures in
    let inside = none-is r a.receiver.now.law os _ s.labels _ found (λ k h. c.in_default.ensures k (omega arith)) in
    let number = c.number_of-number.ensures ∙ number_is r a.receiver.now.law os _ s.labels _ found inside _ s.mapped in
    let small = rw (limit_is r a.receiver.now.law os _ s.mapped s.rate, number) at c.if-receiver-number.false in
    let e = mark-good r a.receiver.now.law os inside small in
    let signs = c.sign_bits_of.ensures ∙ ap (λ (ts : List Bool). number_of (sign_bits a.last ts)) (signs_are (sign_at os) _ c.requires.2)
    in
    (sym e, good-bits r a.receiver.now.law os a.last e _ _ signs number small s.rate)
