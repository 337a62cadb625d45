-- The larger of the largest index so far and the next one, over the six. Assumes nothing.
use mathlib.Core.Path.{◌≡◌, refl, sym, ap, ◌∙◌}
use mathlib.Core.List.{List}
use Prim.Native.Nat.{ℕ, zero, suc, ◌≤◌, ◌<◌, max}
use native.Mathlib.Numerals.{add-one}
use native.Mathlib.Omega.{arith}
use lib.ListN.{length, get_or, take}
use Rattle.std.proofs.Common.{rules}
use Rattle.std.proofs.lemmas.List.{take_all}
use Rattle.std.proofs.lemmas.List.Sums.{fold_more}
use Rattle.std.specs.List.{fold}
use Rattle.standard.specs.Lists.{largest}
use Rattle.standard.specs.Record.{top_index}
use Rattle.constellation.proofs.largest_index.Goals as goal

largest-front : (xs : List ℕ) (n : ℕ) → n ≤ length xs → fold max 0 (take n xs) ≡ largest (λ k. get_or xs k 0) n
unfolding largest
largest-front xs zero h = refl
largest-front xs (suc n) h =
    let l : n < length xs = omega arith in
    ap (λ (k : ℕ). fold max 0 (take k xs)) (sym (add-one n)) ∙ fold_more max 0 xs n 0 l
    ∙ ap (λ (g : ℕ). max g (get_or xs n 0)) (largest-front xs n (omega arith))

pub returns : goal.returns
unfolding top_index
returns c =
    let xs = c.args.r.index in
    let six : length xs ≡ 6 = omega arith in
    let run : c.fold.result ≡ fold max 0 xs = search rules in
    run ∙ ap (fold max 0) (sym (take_all 6 xs (omega arith))) ∙ largest-front xs 6 (omega arith)
