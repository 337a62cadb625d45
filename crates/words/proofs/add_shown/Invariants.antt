-- A turn adds a character; the characters from here on are left. Assumes nothing.
use mathlib.Core.List.{map}
use lib.ListN.{drop}
use Rattle.words.specs.Message.{shown}
use Rattle.words.proofs.Adding.{Left}
use Rattle.words.proofs.add_shown.Given as goal

abbrev pub invariant-loop-c : goal.invariant-loop-c
invariant-loop-c l =
    Left l.initial.text l.at (map shown l.name) l.text l.end (map shown (drop l.c-index l.name))
