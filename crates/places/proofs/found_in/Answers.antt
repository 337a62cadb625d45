-- The trailer's count, and two counts of entries. Assumes nothing.
use mathlib.Core.Path.{◌≡◌, ap, ◌∙◌}
use mathlib.Core.Bool.{true}
use mathlib.Core.List.{List}
use Prim.Native.Nat.{ℕ}
use native.Mathlib.Omega.{arith}
use Rattle.standard.specs.Settings.{version_in, is_file}
use Rattle.theorems_settings.specs.Settings.{Bytes}
use Rattle.theorems_settings.specs.Walk.{is_laid}
use Rattle.theorems_settings.proofs.Files.{laid_is}
use Rattle.entries.specs.declared.Entries.{Entries}
use Rattle.places.proofs.Opening.{found-long, found_inside, found_made}
use Rattle.places.proofs.found_in.Goals as goal

-- the last bytes are those of a file
laid : (s : List ℕ) → Bytes s → is_file s ≡ true → is_laid (version_in s) s ≡ true
laid s b h = laid_is s b ∙ h

pub entries_in-entries-requires-clause-trailer : goal.entries_in-entries-requires-clause-trailer
entries_in-entries-requires-clause-trailer c =
    let v = c.version_in-version in
    found-long c.args.s (laid c.args.s.now (λ i. (c.type_inv.s i).fits) c.requires.0) v.result v.ensures.0

pub count_below-requires : goal.count_below-requires
count_below-requires c =
    let v = c.version_in-version in
    let r = c.entries_in-entries in record {
      inside = found_inside c.args.s (laid c.args.s.now (λ i. (c.type_inv.s i).fits) c.requires.0) v.result v.ensures.0 r.result r.ensures.value;
      few = (r.ensures.few, omega (arith, v.ensures.1, ap (λ (x : Entries). x.start) r.ensures.value));
    }

pub count_below-requires-2 : goal.count_below-requires-2
count_below-requires-2 c =
    let v = c.version_in-version in
    let r = c.entries_in-entries in record {
      inside = found_inside c.args.s (laid c.args.s.now (λ i. (c.type_inv.s i).fits) c.requires.0) v.result v.ensures.0 r.result r.ensures.value;
      few = (r.ensures.few, omega (arith, v.ensures.1, ap (λ (x : Entries). x.start) r.ensures.value));
    }

pub returns : goal.returns
returns c =
    let a = c.args in
    let v = c.version_in-version in
    let r = c.entries_in-entries in
    let k = c.count_below.ensures in
    let u = c.count_below-2.ensures in
    found_made a.s (laid a.s.now (λ i. (c.type_inv.s i).fits) c.requires.0) v.result v.ensures.0 r.result r.ensures.value a.j
    c.count_below.result c.count_below-2.result v.ensures.1 v.ensures.2 r.ensures.few k.value k.upper_bound u.value u.upper_bound
