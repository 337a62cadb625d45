-- A turn adds what a character stands for; what the characters from here on say is left. Assumes nothing.
use Prim.Native.Nat.{◌≤◌}
use lib.ListN.{drop}
use Rattle.words.specs.Message.{message_from}
use Rattle.words.proofs.Adding.{Left}
use Rattle.words.proofs.add_message.Given as goal

abbrev pub invariant-loop-c : goal.invariant-loop-c
invariant-loop-c l =
    (l.k ≤ l.c-index)
    × Left l.initial.text l.at (message_from l.values l.name 0 l.template) l.text l.end (message_from l.values l.name l.k (drop l.c-index l.template))
