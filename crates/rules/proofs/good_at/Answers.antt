-- In order, and its CP readable. Assumes nothing.
use mathlib.Core.Path.{◌≡◌, sym, ap, ◌∙◌}
use native.Mathlib.Omega.{arith}
use Prim.Native.Nat.{ℕ, ◌+◌, ◌-◌}
use mathlib.Core.Bool.{Bool, ◌&&◌, ◌||◌}
use mathlib.Core.List.{List}
use lib.Dec.{eqb, leb}
use lib.ListN.{get_or, take, drop}
use Rattle.standard.specs.Settings.{little_at, readable, entry_at}
use Rattle.theorems_settings.specs.Walk.{may_stand, good_at}
use Rattle.theorems_settings.proofs.Logic.{and_no, and_yes}
use Rattle.rules.proofs.good_at.Goals as goal

-- the two tests
tests : (s : List ℕ) (at bar j : ℕ) (follow o : Bool) → j ≡ little_at s at 2
    → o ≡ ((eqb (get_or s (at + 2) 0) 0 && leb bar j) || ((eqb (get_or s (at + 2) 0) 1 && follow) && eqb (j + 1) bar))
    → (o && readable (take (get_or s (at + 3) 0) (drop (at + 4) s))) ≡ good_at s at bar follow
unfolding good_at entry_at may_stand
tests s at bar j follow o e eo = rw (eo, e)

pub returns-then-in_order : goal.returns-then-in_order
returns-then-in_order c =
    let a = c.args in
    let s = a.s.now in
    let e : a.at + 4 + c.from.result - (a.at + 4) ≡ get_or s (a.at + 3) 0 = omega (arith, c.from.ensures) in
    c.readable_cp.ensures ∙ ap (λ (n : ℕ). readable (take n (drop (a.at + 4) s))) e
    ∙ sym (and_yes _ _ c.if-in_order.true) ∙ tests s a.at a.bar _ a.follow _ c.number_at.ensures.value c.in_order.ensures

pub returns-else-in_order : goal.returns-else-in_order
returns-else-in_order c =
    let a = c.args in
    c.if-in_order.false ∙ and_no _ _ c.if-in_order.false
    ∙ tests a.s.now a.at a.bar _ a.follow _ c.number_at.ensures.value c.in_order.ensures
