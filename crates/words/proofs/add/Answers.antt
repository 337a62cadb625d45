-- So many characters as there is room for are put at once. Assumes nothing.
use Rattle.std.proofs.Common.{ℕ, List, length, ◌≡◌, ◌≤◌, ◌+◌, ◌-◌, arith}
use lib.Seq.{drop-drop}
use Rattle.words.specs.Message.{Added}
use Rattle.words.proofs.Adding.{added_full, added_slice}
use Rattle.words.proofs.add.Goals as goal

-- where there is no room, the place stays
stays : {s : List ℕ} {at end : ℕ} (xs : List ℕ) → length s ≤ at → end ≡ at → Added s at xs s end
stays xs h e = rw e (added_full xs h)

pub returns-then-text-at : goal.returns-then-text-at
returns-then-text-at c = stays _ c.if-text-at.true (omega arith)

pub returns : goal.returns
returns c =
    let at = c.args.at in
    let n = c.min-count.result in
    let m : at + n - at ≡ n = omega arith in
    rw (m, c.copy_from_slice.ensures.after, drop-drop) (added_slice c.args.text.now at n c.args.words.now (omega arith) (omega (arith, c.min-count.ensures)))
