-- `scrambler::turn` meets its contract. The loop's invariant: the past is that of the k latest bits. Assumes nothing.
use mathlib.Core.Path.{◌≡◌}
use Prim.Native.Nat.{◌-◌}
use Rattle.standard.specs.Bits.{field}
use Rattle.coding.specs.Past.{in_time}
use Rattle.coding.proofs.scrambler.turn.Given as goal

abbrev pub invariant-loop-k : goal.invariant-loop-k
invariant-loop-k l = l.past ≡ field (in_time l.history) (23 - l.k) l.k
