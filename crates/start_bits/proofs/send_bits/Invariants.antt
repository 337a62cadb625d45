-- `send_bits` meets its contract. The loop's invariant is `Sending`: what is left to send gives the rest. Assumes nothing.
use Prim.Native.Nat.{ℕ}
use mathlib.Core.Bool.{Bool}
use mathlib.Core.List.{List, ◌++◌}
use Rattle.standard.specs.Bits.{bits_in}
use Rattle.standard.specs.Start.{end_of_cp}
use Rattle.start_bits.specs.Loops.{Sending}
use Rattle.start_bits.proofs.send_bits.Given as goal

-- the bits of a CP of so many bits, and E_s
abbrev pub sent : List ℕ → ℕ → List Bool
sent cp count = bits_in count cp ++ end_of_cp

abbrev pub invariant-loop-n : goal.invariant-loop-n
invariant-loop-n l =
    Sending l.law l.state (sent l.cp l.count) l.initial.octets l.octets l.history l.sign l.n
