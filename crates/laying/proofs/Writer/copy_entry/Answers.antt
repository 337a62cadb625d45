-- The entry as it stands, and another start. Assumes nothing.
use mathlib.Core.Path.{◌≡◌, refl, ap, ◌∙◌}
use mathlib.Core.List.{List}
use Prim.Native.Nat.{ℕ, ◌+◌, ◌-◌}
use native.Mathlib.Omega.{arith}
use lib.ListN.{get_or, take, drop}
use Rattle.standard.specs.Settings.{little, entry_at}
use Rattle.theorems_settings.proofs.Entries.{entry_length}
use Rattle.laying.specs.Laying.{laid}
use Rattle.laying.proofs.Laying.{entry-laid}
use Rattle.laying.proofs.Joining.{lays_one}
use Rattle.laying.proofs.Writer.copy_entry.Goals as goal

pub returns-clause-lays : goal.returns-clause-lays
returns-clause-lays c =
    let a = c.args in
    let p = a.self.now in
    let s = a.file.now in
    let n : ℕ = 4 + c.from-len.result in
    let e : n ≡ 4 + get_or s (a.at + 3) 0 = ap (λ (k : ℕ). 4 + k) c.from-len.ensures in
    let k : a.at + n - a.at ≡ n = omega arith in
    let copied = c.copy_bytes.ensures ∙ ap (λ (m : ℕ). laid p.out.now p.spot.to (take m (drop a.at s))) k in
    record {
      lays = lays_one p.start p.out.now p.spot (entry_at s a.at) _ _
          (c.put_number.ensures
          ∙ ap (λ (d : List ℕ). laid d (p.spot.to + n) (little p.start p.spot.before)) copied
          ∙ entry-laid s (λ i. (c.type_inv.file i).fits) a.at p.out.now p.spot.to p.start p.spot.before n e c.requires.there
          (omega (arith, c.requires.room)))
          (omega (arith, entry_length s a.at c.requires.there));
      start = refl;
    }
