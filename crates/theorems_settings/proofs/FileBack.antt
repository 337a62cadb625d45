-- The encoding of lawful entries is a file, and has these entries. Assumes nothing.
use mathlib.Core.Path.{◌≡◌, refl, sym, ap, ap₂, ◌∙◌}
use mathlib.Core.Bool.{true}
use mathlib.Core.List.{List, [], ◌∷◌, ◌++◌, append_assoc}
use Prim.Native.Nat.{ℕ, suc, ◌+◌, ◌-◌, ◌*◌, ◌^◌, ◌<◌, ◌≤◌}
use native.Mathlib.Omega.{arith}
use lib.ListN.{length, get_or, length-append}
use lib.Seq.{get_or_at}
use borrow.Author.Tests.{eq-eqb, le-leb}
use Rattle.standard.specs.declared.Version.{Version}
use Rattle.standard.specs.Settings.{Entry, little, little_at, next_at, entries_at, entry_bytes, entries_bytes, last_start, entry_size, file_of}
use Rattle.standard.specs.Settings.{trailer, count_in, entries_in, lawful}
use Rattle.theorems_settings.specs.Walk.{placed, layout, last_in, is_laid}
use Rattle.theorems_settings.specs.Settings.{Smalls}
use Rattle.theorems_settings.proofs.Numbers.{length-little}
use Rattle.theorems_settings.proofs.Entries.{length-entry}
use Rattle.theorems_settings.proofs.ReadBack.{little-back, next-back, start_back, regroup, entries-back}
use Rattle.theorems_settings.proofs.Logic.{both}

placed_yes : (w : ℕ) (s : List ℕ) (end at before : ℕ) → at + 4 ≤ end → next_at w s at ≤ end
    → little_at s (at + 4 + get_or s (at + 3) 0) w ≡ before → placed w s end at before ≡ true
unfolding placed
placed_yes w s end at before a b c = both _ _ (le-leb (at + 4) end a) (both _ _ (le-leb (next_at w s at) end b) (eq-eqb _ before c))

length_more : (w before at : ℕ) (e : Entry) (es : List Entry)
    → length (entry_bytes w before e ++ entries_bytes w at (at + entry_size w e) es)
    ≡ entry_size w e + length (entries_bytes w at (at + entry_size w e) es)
length_more w before at e es =
    length-append (entry_bytes w before e) (entries_bytes w at (at + entry_size w e) es)
    ∙ ap (λ (k : ℕ). k + length (entries_bytes w at (at + entry_size w e) es)) (length-entry w before e)

layout-back : (w before at : ℕ) (es : List Entry) (pre post : List ℕ) (end last : ℕ) → length pre ≡ at
    → end ≡ at + length (entries_bytes w before at es)
    → last ≡ last_start w before at es → before < 2 ^ (8 * w) → end ≤ 2 ^ (8 * w)
    → layout w (pre ++ (entries_bytes w before at es ++ post)) end last (length es) at before ≡ true
unfolding layout entries_bytes last_start
layout-back w before at [] pre post end last le ee el hb he = both _ _ (eq-eqb at end (omega arith)) (eq-eqb before last (sym el))
layout-back w before at (e ∷ es) pre post end last le ee el hb he =
    let rest : List ℕ = entries_bytes w at (at + entry_size w e) es in
    let s : List ℕ = pre ++ (entry_bytes w before e ++ (rest ++ post)) in
    let same : pre ++ ((entry_bytes w before e ++ rest) ++ post) ≡ s = ap (λ (t : List ℕ). pre ++ t)
    (append_assoc (entry_bytes w before e) rest post) in
    let le' : length (pre ++ entry_bytes w before e) ≡ at + entry_size w e = length-append pre (entry_bytes w before e)
    ∙ ap₂ (λ (x y : ℕ). x + y) le (length-entry w before e) in
    let nx : next_at w s at ≡ at + entry_size w e = next-back w before e pre (rest ++ post) at le in
    let ln : length (entry_bytes w before e ++ rest) ≡ entry_size w e + length rest = length_more w before at e es in
    let one : placed w s end at before ≡ true
    = placed_yes w s end at before (omega arith) (omega arith) (start_back w before e pre (rest ++ post) at le hb) in
    let more : layout w s end last (length es) (next_at w s at) at ≡ true
    = ap (λ (m : ℕ). layout w s end last (length es) m at) nx
    ∙ ap (λ (t : List ℕ). layout w t end last (length es) (at + entry_size w e) at) (sym same ∙ regroup w before at e es pre post)
    ∙ layout-back w at (at + entry_size w e) es (pre ++ entry_bytes w before e) post end last le' (omega arith) el (omega arith) he in
    ap (λ (t : List ℕ). layout w t end last (suc (length es)) at before) same ∙ both _ _ one more

module _ (f : Version) (es : List Entry) where
  abbrev bytes : List ℕ
  bytes = entries_bytes f.start 0 0 es

  abbrev last : ℕ
  last = last_start f.start 0 0 es

  abbrev tail : List ℕ
  tail = little f.start last ++ (f.byte ∷ [])

  pub length-file : length (file_of f es) ≡ length bytes + trailer f
  unfolding file_of
  length-file =
      length-append bytes (little f.count (length es) ++ tail)
      ∙ ap (λ (k : ℕ). length bytes + k)
      (length-append (little f.count (length es)) tail
      ∙ ap₂ (λ (x y : ℕ). x + y) (length-little f.count (length es))
      (length-append (little f.start last) (f.byte ∷ []) ∙ ap (λ (k : ℕ). k + 1) (length-little f.start last))
      ∙ omega arith)

  count-back : length es < 2 ^ (8 * f.count) → count_in f (file_of f es) ≡ length es
  unfolding file_of
  count-back h =
      let e : length bytes ≡ length (file_of f es) - trailer f = omega (arith, length-file) in
      little-back f.count (length es) bytes tail (length (file_of f es) - trailer f) e h

  last_back_lem : last < 2 ^ (8 * f.start) → last_in f (file_of f es) ≡ last
  unfolding file_of
  last_back_lem h =
      let n : ℕ = length (file_of f es) - (f.start + 1) in
      let front : List ℕ = bytes ++ little f.count (length es) in
      let e : length front ≡ n = length-append bytes (little f.count (length es))
      ∙ ap (λ (k : ℕ). length bytes + k) (length-little f.count (length es)) ∙ omega (arith, length-file) in
      ap (λ (t : List ℕ). little_at t n f.start) (sym (append_assoc bytes (little f.count (length es)) tail))
      ∙ little-back f.start last front (f.byte ∷ []) n e h

  pub version-back : get_or (file_of f es) (length (file_of f es) - 1) 0 ≡ f.byte
  unfolding file_of
  version-back =
      let n : ℕ = length (file_of f es) - 1 in
      let mid : List ℕ = little f.count (length es) ++ little f.start last in
      let front : List ℕ = bytes ++ mid in
      let e : length front ≡ n
      = length-append bytes mid
      ∙ ap (λ (k : ℕ). length bytes + k)
      (length-append (little f.count (length es)) (little f.start last)
      ∙ ap₂ (λ (x y : ℕ). x + y) (length-little f.count (length es)) (length-little f.start last))
      ∙ omega (arith, length-file) in
      let q : file_of f es ≡ front ++ (f.byte ∷ [])
      = ap (λ (t : List ℕ). bytes ++ t) (sym (append_assoc (little f.count (length es)) (little f.start last) (f.byte ∷ [])))
      ∙ sym (append_assoc bytes mid (f.byte ∷ [])) in
      ap (λ (t : List ℕ). get_or t n 0) q ∙ get_or_at front f.byte [] 0 n e

  module _ (small : Smalls es) (few : length es < 2 ^ (8 * f.count)) (low : last < 2 ^ (8 * f.start))
      (short : length bytes ≤ 2 ^ (8 * f.start)) (some : 0 < 2 ^ (8 * f.start)) where
    pub entries_in_lem : entries_in f (file_of f es) ≡ es
    unfolding entries_in file_of
    entries_in_lem =
        ap (entries_at f.start (file_of f es) 0) (count-back few)
        ∙ entries-back f.start 0 0 es [] (little f.count (length es) ++ tail) refl small

    pub file-back : lawful f es ≡ true → is_laid f (file_of f es) ≡ true
    unfolding is_laid file_of
    file-back law =
        let s : List ℕ = file_of f es in
        let end : ℕ = length s - trailer f in
        let ee : end ≡ 0 + length bytes = omega (arith, length-file) in
        let lay : layout f.start s end (last_in f s) (count_in f s) 0 0 ≡ true
        = ap₂ (λ (l n : ℕ). layout f.start s end l n 0 0) (last_back_lem low) (count-back few)
        ∙ layout-back f.start 0 0 es [] (little f.count (length es) ++ tail) end last refl ee refl some (omega arith) in
        both _ _ (le-leb (trailer f) (length s) (omega (arith, length-file)))
        (both _ _ (eq-eqb _ f.byte version-back) (both _ _ lay (ap (lawful f) entries_in_lem ∙ law)))
