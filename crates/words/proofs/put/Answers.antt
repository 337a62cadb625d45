-- Where there is room the character is put, else nothing. Assumes nothing.
use Rattle.words.proofs.Adding.{added_none, added_full, added-first}
use Rattle.words.proofs.put.Goals as goal

pub returns-then-at-text : goal.returns-then-at-text
returns-then-at-text c = added-first c.args.c c.if-at-text.true added_none

pub returns : goal.returns
returns c = added_full _ c.if-at-text.false
