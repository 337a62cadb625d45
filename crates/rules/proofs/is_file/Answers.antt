-- The trailer, then the walk. Assumes nothing.
use mathlib.Core.Path.{ap, ap₂, ◌∙◌}
use Prim.Native.Nat.{ℕ, ◌-◌}
use mathlib.Core.Bool.{false}
use native.Mathlib.Omega.{arith}
use lib.ListN.{length}
use Rattle.standard.specs.Settings.{trailer}
use Rattle.theorems_settings.specs.Walk.{walk}
use Rattle.entries.specs.declared.Entries.{Entries}
use Rattle.rules.proofs.FileIs.{file-short, file-version, file-walk, file_by}
use Rattle.rules.proofs.is_file.Goals as goal

pub returns-then-n-tail : goal.returns-then-n-tail
returns-then-n-tail c =
    let s = c.args.s.now in
    let v = c.version_in-v.result in
    file_by v s false (λ i. (c.type_inv.s i).fits) c.version_in-v.ensures.0 (file-short v s (omega arith))

pub returns-then-s-n : goal.returns-then-s-n
returns-then-s-n c =
    let s = c.args.s.now in
    let v = c.version_in-v.result in
    file_by v s false (λ i. (c.type_inv.s i).fits) c.version_in-v.ensures.0 (file-version v s (omega arith) c.if-s-n.true)

pub entries_good-requires-clause-few : goal.entries_good-requires-clause-few
entries_good-requires-clause-few c =
    let v = c.version_in-v in
    let r = c.entries_in-entries.ensures in
    (r.few, omega (arith, v.ensures.1, ap (λ (x : Entries). x.start) r.value))

pub returns : goal.returns
returns c =
    let s = c.args.s.now in
    let v = c.version_in-v.result in
    file_by v s c.entries_good.result (λ i. (c.type_inv.s i).fits) c.version_in-v.ensures.0
    (c.entries_good.ensures
    ∙ ap₂ (λ (l : ℕ) (r : Entries). walk r.start r.file.now (length s - trailer v) l v.most r.count 0 0 0 false 0)
    c.number_at-last.ensures.value c.entries_in-entries.ensures.value
    ∙ file-walk v s (omega arith) c.if-s-n.false)
