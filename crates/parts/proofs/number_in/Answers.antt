-- A word of 1 to 18 digits says a number, and no other word. Assumes nothing.
use Rattle.std.proofs.Common.{◌≡◌, ℕ, List, ◌<◌, ◌⊎◌, inl, inr, ◌≤◌, ◌∙◌, true, false, Some, None, ltb, length, ap, sym, rules, arith, lt-ltb, le-ltb}
use Rattle.parts.specs.Parts.{number_in}
use Rattle.parts.proofs.number_in.Goals as goal
use Rattle.parts.proofs.number_in.Goals.{else-contains-via-then-contains+else-all_digits, else-contains-via-else-contains}

out_of_range : (word : List ℕ) → (length word < 1) ⊎ (18 < length word) → None ≡ number_in word
unfolding number_in
out_of_range word (inl h) = let a : ltb 0 (length word) ≡ false = le-ltb 0 (length word) (omega arith) in rw a
out_of_range word (inr h) =
    let a : ltb 0 (length word) ≡ true = lt-ltb 0 (length word) (omega arith) in
    let b : ltb (length word) 19 ≡ false = le-ltb (length word) 19 (omega arith) in
    rw (a, b)

pub returns-then-all_digits : goal.returns-then-all_digits
unfolding number_in
returns-then-all_digits c =
    let n = length c.args.word.now in
    let a : 1 ≤ n = search rules in
    let b : n ≤ 18 = search rules in
    rw (lt-ltb 0 n (omega arith), lt-ltb n 19 (omega arith), sym c.all_digits.ensures ∙ c.if-all_digits.true) (ap Some c.value_of.ensures)

pub returns : goal.returns
unfolding number_in
returns c = elim c.else-contains.branch [
  | else-contains-via-then-contains+else-all_digits w ↦ rw (sym w.all_digits.ensures ∙ w.if-all_digits.false) (search rules)
  | else-contains-via-else-contains w ↦ out_of_range c.args.word.now (search rules)
]
