-- A byte string keeps the rules of a file just where the walk finds that it does. Assumes nothing.
use mathlib.Core.Path.{◌≡◌, refl, sym, ap, subst, ◌∙◌}
use mathlib.Core.Bool.{Bool, true, false}
use mathlib.Core.List.{List}
use Prim.Native.Nat.{ℕ, ◌-◌}
use lib.Dec.{eqb, leb}
use lib.ListN.{length, get_or}
use Rattle.standard.specs.Settings.{version_in, Entry, file_of, entries_in, settings_in, count_in, trailer, same, as_written, lawful, is_file}
use Rattle.standard.specs.declared.Version.{Version}
use Rattle.theorems_settings.specs.Settings.{Bytes, Smalls}
use Rattle.theorems_settings.specs.Walk.{layout, last_in, is_laid}
use Rattle.theorems_settings.proofs.Logic.{and_left, and_right, both}
use Rattle.theorems_settings.proofs.Laid.{file_is}
use Rattle.theorems_settings.proofs.FileBack.{file-back}
use Rattle.theorems_settings.proofs.Bounds.{known_in, fits}
use Rattle.theorems_settings.proofs.Keeps.{smalls-at, same_self, same_is}

-- two tests of which each holds where the other does
iff : (a b : Bool) → (a ≡ true → b ≡ true) → (b ≡ true → a ≡ true) → a ≡ b
iff true b f g = sym (f refl)
iff false true f g = g refl
iff false false f g = refl

module _ (s : List ℕ) (b : Bytes s) where
  abbrev v : Version
  v = version_in s

  abbrev es : List Entry
  es = entries_in v s

  laid-lawful : is_laid v s ≡ true → lawful v es ≡ true
  unfolding is_laid
  laid-lawful h =
      and_right (layout v.start s (length s - trailer v) (last_in v s) (count_in v s) 0 0) _
      (and_right (eqb (get_or s (length s - 1) 0) v.byte) _ (and_right (leb (trailer v) (length s)) _ h))

  laid-file : is_laid v s ≡ true → is_file s ≡ true
  unfolding is_file as_written settings_in
  laid-file h = both _ _ (ap (λ (t : List ℕ). same t s) (sym (file_is v s b h)) ∙ same_self s) (laid-lawful h)

  smalls : Smalls es
  unfolding entries_in
  smalls = smalls-at v.start s b (count_in v s) 0

  file-laid : is_file s ≡ true → is_laid v s ≡ true
  unfolding is_file as_written settings_in
  file-laid h =
      let l : lawful v es ≡ true = and_right (same (file_of v es) s) _ h in
      let x = fits v es (known_in s) l in
      subst (λ (t : List ℕ). is_laid v t ≡ true) (same_is (file_of v es) s (and_left _ (lawful v es) h))
      (file-back v es smalls x.few x.low x.short x.some l)

  pub laid_is : is_laid v s ≡ is_file s
  laid_is = iff (is_laid v s) (is_file s) laid-file file-laid
