-- Sixteen zero bits, eight at a time, for the bits at the top. Assumes nothing.
use mathlib.Core.Path.{ap, ◌∙◌}
use Prim.Native.Nat.{ℕ, ◌-◌, ◌/◌, ◌^◌}
use native.Mathlib.Omega.{arith}
use lib.Bits.{bit_xor}
use Rattle.crc.specs.Crc.{crc_zeros}
use Rattle.crc.proofs.Crc.{some_taken}
use Rattle.crc.proofs.crc_some.Goals as goal

pub returns : goal.returns
returns c =
    let a = c.args in
    let p = c.requires in
    ap (λ (x : ℕ). bit_xor x (bit_xor a.register a.bits / 2 ^ (a.n - 1) / 2 ^ 1))
    (c.crc_eight-2.ensures ∙ ap (crc_zeros 8) c.crc_eight.ensures)
    ∙ some_taken a.register a.bits a.n (omega arith) p.2 p.0 p.1
