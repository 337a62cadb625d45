-- A byte string with a right layout is the encoding of its entries. Assumes nothing.
use mathlib.Core.Path.{◌≡◌, refl, sym, ap, ap₂, ◌∙◌}
use mathlib.Core.Bool.{true, ◌&&◌}
use mathlib.Core.List.{List, [], ◌∷◌, ◌++◌, append_assoc}
use Prim.Native.Nat.{ℕ, zero, suc, ◌+◌, ◌-◌, ◌≤◌}
use native.Mathlib.Omega.{arith}
use lib.Dec.{eqb, leb}
use lib.ListN.{length, get_or, take, drop, take-append-drop}
use lib.Seq.{drop-cons, drop-drop, drop-length, take-add}
use borrow.Author.Tests.{eqb-true, leb-true}
use Rattle.standard.specs.declared.Version.{Version}
use Rattle.theorems_settings.specs.Settings.{Bytes}
use Rattle.standard.specs.Settings.{Entry, little, little_at, entry_at, next_at, entries_at, entry_bytes, entries_bytes, last_start, entry_size}
use Rattle.standard.specs.Settings.{file_of, lawful, trailer, entries_in, count_in}
use Rattle.theorems_settings.specs.Walk.{placed, layout, is_laid, last_in}
use Rattle.theorems_settings.proofs.Logic.{and_left, and_right}
use Rattle.theorems_settings.proofs.Entries.{entry_length, placed-next, placed-points}
use Rattle.theorems_settings.proofs.Numbers.{little-read}

-- a number cut off the front
cut : (s : List ℕ) (w at : ℕ) → Bytes s → at + w ≤ length s → drop at s ≡ little w (little_at s at w) ++ drop (at + w) s
cut s w at b h = sym (take-append-drop w (drop at s)) ∙ ap₂ (λ (x y : List ℕ). x ++ y) (sym (little-read w s at b h)) (drop-drop w at s)

-- the trailer
trailer_split : (s : List ℕ) (c w v : ℕ) → Bytes s → c + w + 1 ≤ length s → get_or s (length s - 1) 0 ≡ v
    → drop (length s - (c + w + 1)) s
    ≡ little c (little_at s (length s - (c + w + 1)) c) ++ (little w (little_at s (length s - (w + 1)) w) ++ (v ∷ []))
trailer_split s c w v b h e =
    let n : ℕ = length s in
    let p1 : n - (c + w + 1) + c ≡ n - (w + 1) = omega arith in
    let p2 : n - (w + 1) + w ≡ n - 1 = omega arith in
    let p3 : suc (n - 1) ≡ n = omega arith in
    let one : drop (n - 1) s ≡ v ∷ [] = drop-cons s (n - 1) 0 (omega arith) ∙ ap₂ (λ (x : ℕ) (k : ℕ). x ∷ drop k s) e p3
    ∙ ap (λ (x : List ℕ). v ∷ x) (drop-length s) in
    cut s c (n - (c + w + 1)) b (omega arith)
    ∙ ap (λ (x : List ℕ). little c (little_at s (n - (c + w + 1)) c) ++ x)
    (ap (λ (k : ℕ). drop k s) p1 ∙ cut s w (n - (w + 1)) b (omega arith)
    ∙ ap (λ (x : List ℕ). little w (little_at s (n - (w + 1)) w) ++ x) (ap (λ (k : ℕ). drop k s) p2 ∙ one))

-- ---- the bytes of an entry: its front as it stands, and a start
module _ (s : List ℕ) (b : Bytes s) (at : ℕ) where
  entry-front : at + 4 + get_or s (at + 3) 0 ≤ length s
      → take (4 + get_or s (at + 3) 0) (drop at s)
      ≡ little 2 (little_at s at 2) ++ (get_or s (at + 2) 0 ∷ get_or s (at + 3) 0 ∷ take (get_or s (at + 3) 0) (drop (at + 4) s))
  entry-front h =
      let len : ℕ = get_or s (at + 3) 0 in
      let k : 4 + len ≡ 2 + suc (suc len) = omega arith in
      let e3 : suc (at + 2) ≡ at + 3 = omega arith in
      let e4 : suc (at + 3) ≡ at + 4 = omega arith in
      let two : drop (at + 2) s ≡ get_or s (at + 2) 0 ∷ len ∷ drop (at + 4) s
      = drop-cons s (at + 2) 0 (omega arith)
      ∙ ap (λ (x : List ℕ). get_or s (at + 2) 0 ∷ x)
      (ap (λ (k : ℕ). drop k s) e3 ∙ drop-cons s (at + 3) 0 (omega arith) ∙ ap (λ (k : ℕ). len ∷ drop k s) e4) in
      ap (λ (m : ℕ). take m (drop at s)) k ∙ take-add 2 (suc (suc len)) (drop at s)
      ∙ ap₂ (λ (x y : List ℕ). x ++ y) (sym (little-read 2 s at b (omega arith))) (ap (take (suc (suc len))) (drop-drop 2 at s ∙ two))

  pub entry_is : (w before : ℕ) → at + 4 + get_or s (at + 3) 0 ≤ length s
      → take (4 + get_or s (at + 3) 0) (drop at s) ++ little w before ≡ entry_bytes w before (entry_at s at)
  unfolding entry_bytes entry_at
  entry_is w before h =
      let len : ℕ = get_or s (at + 3) 0 in
      let cp : List ℕ = take len (drop (at + 4) s) in
      ap (λ (x : List ℕ). x ++ little w before) (entry-front h)
      ∙ append_assoc (little 2 (little_at s at 2)) (get_or s (at + 2) 0 ∷ len ∷ cp) (little w before)
      ∙ ap (λ (k : ℕ). little 2 (little_at s at 2) ++ (get_or s (at + 2) 0 ∷ k ∷ (cp ++ little w before))) (sym (entry_length s at h))

module _ (w : ℕ) (s : List ℕ) (b : Bytes s) where
  entry_split : (at before : ℕ) → at + 4 + get_or s (at + 3) 0 + w ≤ length s → little_at s (at + 4 + get_or s (at + 3) 0) w ≡ before
      → drop at s ≡ entry_bytes w before (entry_at s at) ++ drop (at + 4 + get_or s (at + 3) 0 + w) s
  entry_split at before h p =
      let len : ℕ = 4 + get_or s (at + 3) 0 in
      let end : List ℕ = drop (at + 4 + get_or s (at + 3) 0 + w) s in
      let k : at + len ≡ at + 4 + get_or s (at + 3) 0 = omega arith in
      let tail : drop len (drop at s) ≡ little w before ++ end
      = drop-drop len at s ∙ ap (λ (m : ℕ). drop m s) k ∙ cut s w (at + 4 + get_or s (at + 3) 0) b h ∙ ap (λ (m : ℕ). little w m ++ end) p in
      sym (take-append-drop len (drop at s)) ∙ ap (λ (x : List ℕ). take len (drop at s) ++ x) tail
      ∙ sym (append_assoc (take len (drop at s)) (little w before) end)
      ∙ ap (λ (x : List ℕ). x ++ end) (entry_is s b at w before (omega arith))

  pub size-at : (at : ℕ) → at + 4 + get_or s (at + 3) 0 + w ≤ length s → at + entry_size w (entry_at s at) ≡ next_at w s at
  unfolding next_at
  size-at at h = omega (arith, entry_length s at (omega arith))

  split_more : (end at before : ℕ) (es : List Entry) → end ≤ length s → placed w s end at before ≡ true
      → drop (next_at w s at) s ≡ entries_bytes w at (next_at w s at) es ++ drop end s
      → drop at s ≡ (entry_bytes w before (entry_at s at) ++ entries_bytes w at (at + entry_size w (entry_at s at)) es) ++ drop end s
  unfolding next_at
  split_more end at before es h p r =
      let room : at + 4 + get_or s (at + 3) 0 + w ≤ length s = omega (arith, placed-next w s end at before p) in
      entry_split at before room (placed-points w s end at before p)
      ∙ ap (λ (x : List ℕ). entry_bytes w before (entry_at s at) ++ x)
      (r ∙ ap (λ (k : ℕ). entries_bytes w at k es ++ drop end s) (sym (size-at at room)))
      ∙ sym (append_assoc (entry_bytes w before (entry_at s at)) (entries_bytes w at (at + entry_size w (entry_at s at)) es) (drop end s))

  -- a right layout: the bytes from `at` on are those of the entries that stand there
  layout_split : (end last n at before : ℕ) → end ≤ length s → layout w s end last n at before ≡ true
      → drop at s ≡ entries_bytes w before at (entries_at w s at n) ++ drop end s
  unfolding layout entries_at entries_bytes next_at
  layout_split end last zero at before h e = ap (λ (k : ℕ). drop k s) (eqb-true at end (and_left (eqb at end) (eqb before last) e))
  layout_split end last (suc n) at before h e =
      split_more end at before (entries_at w s (next_at w s at) n) h (and_left _ _ e)
      (layout_split end last n (next_at w s at) at h (and_right (placed w s end at before) _ e))

  -- and the last start is right
  last_more : (end at before last : ℕ) (es : List Entry) → end ≤ length s → placed w s end at before ≡ true
      → last_start w at (next_at w s at) es ≡ last
      → last_start w at (at + entry_size w (entry_at s at)) es ≡ last
  last_more end at before last es h p r =
      ap (λ (k : ℕ). last_start w at k es) (size-at at (omega (arith, placed-next w s end at before p))) ∙ r

  layout_last : (end last n at before : ℕ) → end ≤ length s → layout w s end last n at before ≡ true
      → last_start w before at (entries_at w s at n) ≡ last
  unfolding layout entries_at last_start
  layout_last end last zero at before h e = eqb-true before last (and_right (eqb at end) (eqb before last) e)
  layout_last end last (suc n) at before h e =
      last_more end at before last (entries_at w s (next_at w s at) n) h (and_left _ _ e)
      (layout_last end last n (next_at w s at) at h (and_right (placed w s end at before) _ e))

  length-entries : (n at : ℕ) → length (entries_at w s at n) ≡ n
  unfolding entries_at
  length-entries zero at = refl
  length-entries (suc n) at = ap suc (length-entries n (next_at w s at))

-- a file is the encoding of its entries
pub file_is : (f : Version) (s : List ℕ) → Bytes s → is_laid f s ≡ true → s ≡ file_of f (entries_in f s)
unfolding is_laid file_of entries_in
file_is f s b e =
    let w : ℕ = f.start in
    let c : ℕ = f.count in
    let end : ℕ = length s - trailer f in
    let es : List Entry = entries_at w s 0 (count_in f s) in
    let e1 : (eqb (get_or s (length s - 1) 0) f.byte &&
    (layout w s end (last_in f s) (count_in f s) 0 0 && lawful f (entries_in f s))) ≡ true = and_right (leb (trailer f) (length s)) _ e in
    let e2 : (layout w s end (last_in f s) (count_in f s) 0 0 && lawful f (entries_in f s)) ≡ true = and_right
    (eqb (get_or s (length s - 1) 0) f.byte) _ e1 in
    let lay : layout w s end (last_in f s) (count_in f s) 0 0 ≡ true = and_left _ (lawful f (entries_in f s)) e2 in
    let big : c + w + 1 ≤ length s = leb-true (trailer f) (length s) (and_left (leb (trailer f) (length s)) _ e) in
    let ver : get_or s (length s - 1) 0 ≡ f.byte = eqb-true _ _ (and_left (eqb (get_or s (length s - 1) 0) f.byte) _ e1) in
    layout_split w s b end (last_in f s) (count_in f s) 0 0 (omega arith) lay
    ∙ ap (λ (x : List ℕ). entries_bytes w 0 0 es ++ x)
    (trailer_split s c w f.byte b big ver
    ∙ ap₂ (λ (k l : ℕ). little c k ++ (little w l ++ (f.byte ∷ []))) (sym (length-entries w s b (count_in f s) 0))
    (sym (layout_last w s b end (last_in f s) (count_in f s) 0 0 (omega arith) lay)))
