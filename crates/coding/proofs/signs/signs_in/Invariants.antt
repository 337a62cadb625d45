-- After i turns i signs are found. Assumes nothing.
use Rattle.standard.specs.Lists.{list_from}
use Rattle.standard.specs.Frame.{sign_at}
use Rattle.standard.proofs.Words.{Held}
use Rattle.coding.proofs.signs.signs_in.Given as goal

abbrev pub invariant-loop-i : goal.invariant-loop-i
invariant-loop-i l = Held (list_from (sign_at l.octets) 0 l.i) l.signs l.i
