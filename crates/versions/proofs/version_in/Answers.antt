-- By the last byte, where there is one. Assumes nothing.
use mathlib.Core.Path.{◌≡◌, ◌∙◌, sym, ap, refl}
use mathlib.Core.Bool.{Bool, cond}
use Prim.Native.Nat.{ℕ, ◌-◌}
use mathlib.Core.List.{List}
use native.Mathlib.Omega.{arith}
use denote.Ref.{Bor}
use lib.Dec.{eqb}
use lib.ListN.{length, get_or}
use Rattle.std.specs.Option.{option_copied, option_eq, unwrap_or}
use Rattle.std.specs.List.{slice_get}
use Rattle.std.proofs.Common.{Option, Some, None}
use Rattle.std.proofs.lemmas.Option.{unwrap_or-slice_get}
use Rattle.standard.specs.Settings.{version_one, version_two, version_in}
use Rattle.versions.proofs.version_in.Goals as goal

-- the byte read is the last one, or 0 where there is none
last : (s : List ℕ) (o : Option (Bor ℕ)) → option_copied o ≡ slice_get s (length s - 1)
    → unwrap_or (option_copied o) 0 ≡ get_or s (length s - 1) 0
last s o e = ap (λ (x : Option ℕ). unwrap_or x 0) e ∙ unwrap_or-slice_get s (length s - 1) 0

test : (o : Option (Bor ℕ)) (two : Bor ℕ) → two.now ≡ 2 → option_eq (λ x y. eqb x.now y.now) o (Some two) ≡ eqb (unwrap_or (option_copied o) 0) 2
test None two e = refl
test (Some x) two e = ap (eqb x.now) e

-- so the comparison is the test of the version
version_by : (s : List ℕ) (o : Option (Bor ℕ)) (two : Bor ℕ) (b : Bool) → two.now ≡ 2 → option_copied o ≡ slice_get s (length s - 1)
    → b ≡ option_eq (λ x y. eqb x.now y.now) o (Some two) → version_in s ≡ cond b version_two version_one
unfolding version_in
version_by s o two b q e t =
    ap (λ (c : Bool). cond c version_two version_one) (sym (t ∙ test o two q ∙ ap (λ (x : ℕ). eqb x 2) (last s o e)))

pub returns-then-eq : goal.returns-then-eq
returns-then-eq c =
    let v = version_by c.args.file.now c.last.result _ c.eq.result refl c.last.ensures.value c.eq.ensures in
    let e = c.version_two.ensures in
    (e ∙ sym (v ∙ ap (λ (b : Bool). cond b version_two version_one) c.if-eq.true), rw e (omega arith), rw e (omega arith))

pub returns : goal.returns
returns c =
    let v = version_by c.args.file.now c.last.result _ c.eq.result refl c.last.ensures.value c.eq.ensures in
    (sym (v ∙ ap (λ (b : Bool). cond b version_two version_one) c.if-eq.false), omega arith, omega arith)
