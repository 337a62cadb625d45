-- The two tests one after the other. Assumes nothing.
use mathlib.Core.Path.{sym}
use mathlib.Core.List.{[]}
use Rattle.standard.specs.Refusals.{buffer_tests}
use Rattle.standard.proofs.First.{first_hit, first_skip, first-none}
use Rattle.needs.proofs.buffer_fault.Goals as goal

pub returns-then-input : goal.returns-then-input
unfolding buffer_tests
returns-then-input c = first_hit 16 _ _ c.if-input.true

pub returns-then-output : goal.returns-then-output
unfolding buffer_tests
returns-then-output c = first_skip _ _ c.if-input.false (first_hit 17 _ _ c.if-output.true)

pub returns : goal.returns
unfolding buffer_tests
returns c = first_skip _ _ c.if-input.false (first_skip _ _ c.if-output.false (sym (first-none [] tt)))
