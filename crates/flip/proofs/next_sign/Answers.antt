-- Assumes nothing.
use mathlib.Core.Path.{◌≡◌, ap, sym}
use Prim.Native.Nat.{◌+◌}
use mathlib.Core.Bool.{Bool, cond}
use native.Mathlib.Omega.{arith}
use borrow.Author.Tests.{eq-eqb, ne_eqb}
use Rattle.flip.proofs.next_sign.Goals as goal

pub returns-then-i-eq5 : goal.returns-then-i-eq5
returns-then-i-eq5 c =
    let a = c.args in
    let last : a.i ≡ 5 = omega arith in
    (sym (ap (λ (b : Bool). cond b (a.k + 6) (a.i + 1)) (eq-eqb a.i 5 last)), omega arith)

pub returns : goal.returns
returns c =
    let a = c.args in
    let inner : a.i ≡ 5 → ⊥ = λ e. omega arith in
    (sym (ap (λ (b : Bool). cond b (a.k + 6) (a.i + 1)) (ne_eqb a.i 5 inner)), omega arith)
