-- The byte in which bit n is, put back with another bit in it. Assumes nothing.
use mathlib.Core.Path.{sym, ap, ◌∙◌}
use Prim.Native.Nat.{ℕ, ◌/◌}
use native.Mathlib.Omega.{arith}
use Rattle.standard.specs.Bits.{bit}
use Rattle.bits.proofs.Bits.{bit_at_byte}
use Rattle.bits.proofs.ByWords.{put_back}
use Rattle.bits.proofs.put_bit.Goals as goal

pub returns : goal.returns
returns c =
    let a = c.args in
    let s = a.bytes.now in
    put_back s _ a.n 8 _ _ 1 a.value (omega arith) (omega arith)
    (λ j l. ap (λ (x : ℕ). bit x j) c.from-word.ensures ∙ sym (bit_at_byte s (a.n / 8) j l))
    c.word_with.ensures c.put_byte.ensures
