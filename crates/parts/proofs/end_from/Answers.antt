-- The first e is found, or none. Assumes nothing.
use Rattle.std.proofs.Common.{◌≡◌, ◌+◌, ◌-◌, true, false, eqb, length, take, drop, length-drop, refl, ap, sym, ◌∙◌, rules, tests, arith}
use Rattle.std.specs.List.{position_or_len}
use Rattle.std.proofs.lemmas.List.{take_all}
use Rattle.std.proofs.lemmas.Iterator.{YieldsList-from_slice, IsFirst-from_position, index_from_first}
use Rattle.parts.proofs.end_from.Goals as goal

pub returns-clause-place : goal.returns-clause-place
returns-clause-place c =
    let e = c.args.e in
    let text = c.args.text.now in
    let start = c.args.start in
    let rest : take (length text - start) (drop start text) ≡ drop start text = take_all _ _ (omega (arith, length-drop start text)) in
    let first = IsFirst-from_position c.position.new.self _ c.position.result (λ x. eqb x e ≡ true) (λ x. eqb x e ≡ false) c.position.ensures.ran (YieldsList-from_slice (drop start text) (c.iter.ensures.rest ∙ rest)) (λ x q k. search (rules, tests)) (λ x q k. search (rules, tests)) in
    let place = index_from_first (position_or_len (λ x. eqb x e)) (λ x. eqb x e ≡ true) (λ x. eqb x e ≡ false) refl (λ x xs h. rw h) (λ x xs h. rw h (omega arith)) (drop start text) c.position.result first in
    ap (λ n. start + n) (c.unwrap_or.ensures ∙ rw rest (sym place))
