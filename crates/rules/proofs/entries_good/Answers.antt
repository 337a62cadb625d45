-- What is left to walk. Assumes nothing.
use mathlib.Core.Path.{◌≡◌, refl, sym, ◌∙◌}
use Prim.Native.Nat.{ℕ}
use native.Mathlib.Omega.{arith}
use Rattle.rules.proofs.Walking.{start, not-placed, not_good, more, all}
use Rattle.theorems_settings.proofs.Logic.{and_no, and_yes, both}
use borrow.Author.Tests.{eq-eqb, ne_eqb}
use lib.Dec.{eqb}
use Rattle.std.proofs.Common.{rules}
use mathlib.Core.Bool.{false, ◌&&◌}
use mathlib.Core.Logic.{◌⊎◌, inl, inr}
use Rattle.entries.proofs.Sums.{bit}
use Rattle.rules.proofs.entries_good.Goals as goal

apart : (a b c d : ℕ) → ((a ≡ b) × (c ≡ d → ⊥)) ⊎ (a ≡ b → ⊥) → (eqb a b && eqb c d) ≡ false
apart a b c d (inl h) = and_yes _ _ (eq-eqb a b h.0) ∙ ne_eqb c d h.1
apart a b c d (inr h) = sym (and_no _ _ (ne_eqb a b h))

pub loop-init : goal.loop-init
loop-init c = let a = c.args in start a.entries.now.start a.entries.now.file.now a.end a.last a.most a.entries.now.count

pub returns-then-not-placed_at : goal.returns-then-not-placed_at
returns-then-not-placed_at c =
    let a = c.args in
    let l = c.loop in
    not-placed a.entries.now.start a.entries.now.file.now a.end a.last a.most a.entries.now.count l.at l.before l.bar l.follow l.seen l.counter l.invariant
    (omega arith) (sym c.placed_at.ensures ∙ c.if-not-placed_at.true)

pub returns-then-not-good_at : goal.returns-then-not-good_at
returns-then-not-good_at c =
    let a = c.args in
    let l = c.loop in
    not_good a.entries.now.start a.entries.now.file.now a.end a.last a.most a.entries.now.count l.at l.before l.bar l.follow l.seen l.counter l.invariant
    (omega arith) (sym c.placed_at.ensures ∙ c.if-not-placed_at.false) (sym c.good_at.ensures ∙ c.if-not-good_at.true)

pub loop-preserved : goal.loop-preserved
loop-preserved c =
    let a = c.args in
    let l = c.loop in
    more a.entries.now.start a.entries.now.file.now a.end a.last a.most a.entries.now.count l.at l.before l.bar l.follow l.seen l.counter l.invariant
    (omega arith)
    (sym c.placed_at.ensures ∙ c.if-not-placed_at.false) (sym c.good_at.ensures ∙ c.if-not-good_at.false) c.number_at-bar.result _
    c.from-seen.result c.number_at-bar.ensures.value refl (bit _ _ c.from-seen.ensures).0 _ c.next_at-at.ensures.0

pub returns-then-before-last : goal.returns-then-before-last
returns-then-before-last c =
    let a = c.args in
    let l = c.loop in
    sym (and_yes _ _ (both _ _ (eq-eqb _ _ c.if-before-last.true.0) (eq-eqb _ _ c.if-before-last.true.1)))
    ∙ all a.entries.now.start a.entries.now.file.now a.end a.last a.most a.entries.now.count l.at l.before l.bar l.follow l.seen l.counter
    l.invariant (omega arith)

pub returns-else-before-last : goal.returns-else-before-last
returns-else-before-last c =
    let a = c.args in
    let l = c.loop in
    let no = apart l.at a.end l.before a.last c.if-before-last.either in
    let e = all a.entries.now.start a.entries.now.file.now a.end a.last a.most a.entries.now.count l.at l.before l.bar l.follow l.seen l.counter
    l.invariant (omega arith) in
    let f = and_no _ _ no ∙ e in
    search (rules, f)
