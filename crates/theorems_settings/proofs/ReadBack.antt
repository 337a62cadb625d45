-- The entries that stand in the encoding of entries are these, and its layout is right. Assumes nothing.
use mathlib.Core.Path.{◌≡◌, refl, sym, ap, ap₂, ◌∙◌}
use mathlib.Core.List.{List, [], ◌∷◌, ◌++◌, append_assoc}
use Prim.Native.Nat.{ℕ, zero, suc, ◌+◌, ◌-◌, ◌*◌, ◌/◌, ◌%◌, ◌^◌, ◌<◌}
use native.Mathlib.Omega.{arith}
use lib.ListN.{length, get_or, take, drop, length-append}
use lib.Seq.{append_snoc, get_or-append_seam, get_or-append-add, drop-append-add, take-append_seam}
use lib.Pow.{pow-add}
use Rattle.standard.specs.Settings.{Entry, little, little_at, entry_at, next_at, entries_at, entry_bytes, entries_bytes, entry_size}
use Rattle.theorems_settings.specs.Settings.{Smalls}
use Rattle.theorems_settings.proofs.Entries.{length-entry}

-- a number read where it was written
pub little-back : (w v : ℕ) (pre post : List ℕ) (at : ℕ) → length pre ≡ at → v < 2 ^ (8 * w)
    → little_at (pre ++ (little w v ++ post)) at w ≡ v
unfolding little_at little
little-back zero v pre post at e h = omega arith
little-back (suc w) v pre post at e h =
    let k : 8 * suc w ≡ 8 + 8 * w = omega arith in
    let p : 2 ^ (8 * suc w) ≡ 256 * 2 ^ (8 * w) = ap (λ (m : ℕ). 2 ^ m) k ∙ pow-add 2 8 (8 * w) in
    let s : List ℕ = pre ++ (v % 256 ∷ (little w (v / 256) ++ post)) in
    let hd : get_or s at 0 ≡ v % 256 = ap (λ (m : ℕ). get_or s m 0) (sym e) ∙ get_or-append_seam pre (v % 256) (little w (v / 256) ++ post) 0 in
    let le : length (pre ++ (v % 256 ∷ [])) ≡ suc at = length-append pre (v % 256 ∷ []) ∙ omega arith in
    let tl : little_at s (suc at) w ≡ v / 256
    = ap (λ (t : List ℕ). little_at t (suc at) w) (sym (append_snoc pre (v % 256) (little w (v / 256) ++ post)))
    ∙ little-back w (v / 256) (pre ++ (v % 256 ∷ [])) post (suc at) le (omega arith) in
    ap₂ (λ (x y : ℕ). x + 256 * y) hd tl ∙ omega arith

-- one entry, behind `pre`
module _ (w before : ℕ) (e : Entry) (pre post : List ℕ) (at : ℕ) (le : length pre ≡ at) where
  abbrev ys : List ℕ
  ys = little 2 e.junction ++ (e.kind ∷ length e.cp ∷ (e.cp ++ (little w before ++ post)))

  abbrev here : List ℕ
  here = pre ++ (entry_bytes w before e ++ post)

  is_ys : here ≡ pre ++ ys
  unfolding entry_bytes
  is_ys =
      ap (λ (t : List ℕ). pre ++ t)
      (append_assoc (little 2 e.junction) (e.kind ∷ length e.cp ∷ (e.cp ++ little w before)) post
      ∙ ap (λ (t : List ℕ). little 2 e.junction ++ (e.kind ∷ length e.cp ∷ t)) (append_assoc e.cp (little w before) post))

  place : (n : ℕ) → get_or here (at + n) 0 ≡ get_or ys n 0
  place n = ap₂ (λ (t : List ℕ) (m : ℕ). get_or t (m + n) 0) is_ys (sym le) ∙ get_or-append-add pre ys n 0

  len_back : get_or here (at + 3) 0 ≡ length e.cp
  unfolding little
  len_back = place 3

  kind-back : get_or here (at + 2) 0 ≡ e.kind
  unfolding little
  kind-back = place 2

  junction-back : e.junction < 65536 → little_at here at 2 ≡ e.junction
  junction-back h =
      ap (λ (t : List ℕ). little_at t at 2) is_ys
      ∙ little-back 2 e.junction pre (e.kind ∷ length e.cp ∷ (e.cp ++ (little w before ++ post))) at le h

  cp-back : take (get_or here (at + 3) 0) (drop (at + 4) here) ≡ e.cp
  unfolding little
  cp-back =
      ap₂ take len_back (ap₂ (λ (t : List ℕ) (m : ℕ). drop (m + 4) t) is_ys (sym le) ∙ drop-append-add pre ys 4)
      ∙ take-append_seam e.cp (little w before ++ post)

  entry-back : e.junction < 65536 → entry_at here at ≡ e
  unfolding entry_at
  entry-back h = three (junction-back h) kind-back cp-back
    where
      three : {j k : ℕ} {c : List ℕ} → j ≡ e.junction → k ≡ e.kind → c ≡ e.cp
          → ◌≡◌ {A = Entry} (record { junction = j; kind = k; cp = c }) e
      three p q r i = record { junction = p i; kind = q i; cp = r i }

  pub next-back : next_at w here at ≡ at + entry_size w e
  unfolding next_at
  next-back = omega (arith, len_back)

  pub start_back : before < 2 ^ (8 * w) → little_at here (at + 4 + get_or here (at + 3) 0) w ≡ before
  unfolding entry_bytes little
  start_back h =
      let front : List ℕ = little 2 e.junction ++ (e.kind ∷ length e.cp ∷ e.cp) in
      let eq : here ≡ (pre ++ front) ++ (little w before ++ post)
      = ap (λ (t : List ℕ). pre ++ t) (append_assoc (little 2 e.junction) (e.kind ∷ length e.cp ∷ (e.cp ++ little w before)) post
      ∙ ap (λ (t : List ℕ). little 2 e.junction ++ (e.kind ∷ length e.cp ∷ t)) (append_assoc e.cp (little w before) post))
      ∙ sym (append_assoc pre front (little w before ++ post)) in
      let lf : length (pre ++ front) ≡ at + 4 + get_or here (at + 3) 0 = length-append pre front ∙ omega (arith, len_back) in
      ap (λ (t : List ℕ). little_at t (at + 4 + get_or here (at + 3) 0) w) eq
      ∙ little-back w before (pre ++ front) post (at + 4 + get_or here (at + 3) 0) lf h

-- many
entries-suc : (w : ℕ) (s : List ℕ) (at n : ℕ) → entries_at w s at (suc n) ≡ entry_at s at ∷ entries_at w s (next_at w s at) n
unfolding entries_at
entries-suc w s at n = refl

pub regroup : (w before at : ℕ) (e : Entry) (es : List Entry) (pre post : List ℕ)
    → pre ++ ((entry_bytes w before e ++ entries_bytes w at (at + entry_size w e) es) ++ post)
    ≡ (pre ++ entry_bytes w before e) ++ (entries_bytes w at (at + entry_size w e) es ++ post)
regroup w before at e es pre post =
    ap (λ (t : List ℕ). pre ++ t) (append_assoc (entry_bytes w before e) (entries_bytes w at (at + entry_size w e) es) post)
    ∙ sym (append_assoc pre (entry_bytes w before e) (entries_bytes w at (at + entry_size w e) es ++ post))

pub entries-back : (w before at : ℕ) (es : List Entry) (pre post : List ℕ) → length pre ≡ at → Smalls es
    → entries_at w (pre ++ (entries_bytes w before at es ++ post)) at (length es) ≡ es
unfolding Smalls entries_bytes entries_at
entries-back w before at [] pre post le h = refl
entries-back w before at (e ∷ es) pre post le h =
    let rest : List ℕ = entries_bytes w at (at + entry_size w e) es in
    let s : List ℕ = pre ++ (entry_bytes w before e ++ (rest ++ post)) in
    let same : pre ++ ((entry_bytes w before e ++ rest) ++ post) ≡ s = ap (λ (t : List ℕ). pre ++ t)
    (append_assoc (entry_bytes w before e) rest post) in
    let le' : length (pre ++ entry_bytes w before e) ≡ at + entry_size w e = length-append pre (entry_bytes w before e)
    ∙ ap₂ (λ (x y : ℕ). x + y) le (length-entry w before e) in
    ap (λ (t : List ℕ). entries_at w t at (suc (length es))) same ∙ entries-suc w s at (length es)
    ∙ ap₂ (λ (x : Entry) (xs : List Entry). x ∷ xs) (entry-back w before e pre (rest ++ post) at le h.0.number)
    (ap (λ (m : ℕ). entries_at w s m (length es)) (next-back w before e pre (rest ++ post) at le)
    ∙ ap (λ (t : List ℕ). entries_at w t (at + entry_size w e) (length es)) (sym same ∙ regroup w before at e es pre post)
    ∙ entries-back w at (at + entry_size w e) es (pre ++ entry_bytes w before e) post le' h.1)
