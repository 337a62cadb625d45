-- The bits held and the bits of the value, below a word or with a word put. Assumes nothing.
use mathlib.Core.Path.{refl, ap}
use Prim.Native.Nat.{ℕ, ◌+◌}
use borrow.Author.Tests.{lt-ltb, le-ltb}
use Rattle.bits.specs.PutField.{holding, filling}
use Rattle.bits.proofs.Joining.{word-filled}
use Rattle.bits.proofs.pour.Goals as goal

pub returns-then-count-lt64 : goal.returns-then-count-lt64
unfolding holding filling
returns-then-count-lt64 c =
    let a = c.args in
    rw (lt-ltb _ _ c.if-count-lt64.true)
    (ap (λ (x : ℕ). record { to = a.p.to; count = a.p.count + a.width; held = x }) c.joined_word-word.ensures, refl)

pub returns : goal.returns
unfolding holding filling
returns c =
    let a = c.args in
    rw (le-ltb _ _ c.if-count-lt64.false) (
      refl,
      word-filled a.bytes.now _ a.p a.value _
          c.joined_word-word.ensures
          c.put_word.ensures,
    )
