-- Assumes nothing.
use mathlib.Core.Path.{ap, ap₂, ◌∙◌}
use Prim.Native.Nat.{ℕ}
use Rattle.standard.specs.Bits.{◌⊕◌}
use Rattle.standard.specs.Flip.{reaches, changes}
use Rattle.standard.proofs.Words.{xor-test}
use Rattle.flip.proofs.changes.Goals as goal

pub returns : goal.returns
unfolding changes
returns c =
    let a = c.args in
    let next = c.next_sign.ensures.0 in
    xor-test c.reaches.result c.reaches-2.result
    ∙ ap₂ ◌⊕◌ c.reaches.ensures (c.reaches-2.ensures ∙ ap (λ (n : ℕ). reaches n a.p) next)
