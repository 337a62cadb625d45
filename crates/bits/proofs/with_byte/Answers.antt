-- Bits that do not meet are joined by OR as by a sum. Assumes nothing.
use mathlib.Core.Path.{ap, ◌∙◌}
use Prim.Native.Nat.{ℕ, ◌*◌, ◌%◌, ◌^◌, ◌<◌}
use native.Mathlib.Omega.{arith}
use lib.Bits.{bit_or}
use Rattle.bits.proofs.ByWords.{byte_joined}
use Rattle.bits.proofs.with_byte.Goals as goal

pub returns : goal.returns
returns c =
    let b = c.before in
    let a = b.args in
    let small : a.byte < 256 = omega arith in (
      ap (λ (x : ℕ). bit_or a.word (x * 2 ^ (8 * a.k) % 2 ^ 64)) c.from.ensures ∙ byte_joined a.word a.k a.byte b.requires.0
          b.requires.1 small,
      small,
    )
