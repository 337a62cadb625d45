-- The texts are as long, and go over each other character by character. Assumes nothing.
use Rattle.std.proofs.Common.{◌≡◌, eqb, length, map, sym, ◌∙◌, rules, tests, eq-eqb, true}
use Rattle.std.proofs.lemmas.List.{length-map}
use Rattle.std.proofs.lemmas.Iterator.{YieldsList-from_slice, YieldsList-from_map, YieldsList-from_zip}
use Rattle.std.proofs.lemmas.Iterator.Consumers.{YieldsList-at}
use Rattle.std.proofs.lemmas.Iterator.Search.{all_from_yields_List}
use Rattle.parts.specs.Parts.{small}
use Rattle.parts.proofs.same.Goals as goal

pub returns-then-text-word : goal.returns-then-text-word
returns-then-text-word c =
    let text = c.args.text.now in
    let word = c.args.word.now in
    let long : eqb (length text) (length (map small word)) ≡ true = eq-eqb _ _ (c.if-text-word.true ∙ sym (length-map word small)) in
    rw long
    (all_from_yields_List (λ p. eqb p.0 p.1) c.all.new.self _ _ c.all.ensures.ran (YieldsList-from_zip (YieldsList-from_slice text cc) (YieldsList-at c.zip.ensures.second (YieldsList-from_map _ small (YieldsList-from_slice word cc) c.map-lowered.ensures.closure (λ x r q k. search (rules, tests))))) (λ x b q k. search (rules, tests)))
