-- The file's test, step by step. Assumes nothing.
use mathlib.Core.Path.{◌≡◌, sym, ap, ap₂, ◌∙◌}
use mathlib.Core.Bool.{Bool, false, ◌&&◌}
use mathlib.Core.List.{List}
use Prim.Native.Nat.{ℕ, ◌-◌, ◌<◌, ◌≤◌}
use native.Mathlib.Nat.{zero-add}
use lib.Dec.{leb}
use lib.ListN.{length, get_or}
use borrow.Author.Tests.{eq-eqb, ne_eqb, le-leb, lt-leb}
use Rattle.standard.specs.declared.Version.{Version}
use Rattle.standard.specs.Settings.{Entry, entries_at, junctions, few, all_readable, lawful, is_file, version_in, trailer, count_in, entries_in}
use Rattle.theorems_settings.specs.Walk.{layout, is_laid, last_in, walk}
use Rattle.theorems_settings.specs.Settings.{Bytes}
use Rattle.theorems_settings.proofs.Logic.{and_no, and_yes}
use Rattle.theorems_settings.proofs.Order.{orderly_is}
use Rattle.theorems_settings.proofs.Files.{laid_is}
use Rattle.rules.proofs.WalkIs.{walk_is}

module _ (v : Version) (s : List ℕ) where
  pub file-short : length s < trailer v → false ≡ is_laid v s
  unfolding is_laid
  file-short h = and_no _ _ (lt-leb (trailer v) (length s) h)

  pub file-version : trailer v ≤ length s → (get_or s (length s - 1) 0 ≡ v.byte → ⊥) → false ≡ is_laid v s
  unfolding is_laid
  file-version h n = and_no _ _ (ne_eqb _ v.byte n) ∙ sym (and_yes _ _ (le-leb (trailer v) (length s) h))

  pub file-walk : trailer v ≤ length s → get_or s (length s - 1) 0 ≡ v.byte
      → walk v.start s (length s - trailer v) (last_in v s) v.most (count_in v s) 0 0 0 false 0 ≡ is_laid v s
  unfolding is_laid lawful few entries_in
  file-walk h e =
      let end : ℕ = length s - trailer v in
      let es : List Entry = entries_at v.start s 0 (count_in v s) in
      walk_is v.start s end (last_in v s) v.most (count_in v s) 0 0 0 false 0
      ∙ ap₂ (λ (k : ℕ) (b : Bool). layout v.start s end (last_in v s) (count_in v s) 0 0 && (b && (leb k v.most && all_readable es)))
      (zero-add (junctions es)) (sym (orderly_is es))
      ∙ sym (and_yes _ _ (le-leb (trailer v) (length s) h) ∙ and_yes _ _ (eq-eqb _ v.byte e))

-- what is found of the version in s is found of s
pub file_by : (v : Version) (s : List ℕ) (r : Bool) → Bytes s → v ≡ version_in s → r ≡ is_laid v s → r ≡ is_file s
file_by v s r b e h = h ∙ ap (λ (u : Version). is_laid u s) e ∙ laid_is s b
