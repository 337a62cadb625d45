-- Pieces laid one after another into a buffer. Assumes nothing.
use mathlib.Core.Path.{◌≡◌, refl, sym, ap, ap₂, ◌∙◌}
use mathlib.Core.List.{List, [], ◌++◌, append_assoc}
use Prim.Native.Nat.{ℕ, suc, ◌+◌, ◌-◌, ◌/◌, ◌%◌, ◌<◌, ◌≤◌}
use native.Mathlib.Nat.{add_assoc, add-zero}
use native.Mathlib.Omega.{arith}
use native.Mathlib.Numerals.{add-one}
use lib.ListN.{length, get_or, take, drop, set, take-append-drop, length-drop, length-append}
use lib.Seq.{drop-drop, drop_at, take_at, take_all, length-take-le, paste, paste-zero, paste-suc, length-paste, get_or-drop}
use Rattle.standard.specs.Settings.{little, entry_at, entry_bytes}
use Rattle.laying.specs.Laying.{laid}
use Rattle.theorems_settings.specs.Settings.{Bytes}
use Rattle.theorems_settings.proofs.Laid.{entry_is}

pub laid_nil : (d : List ℕ) (at : ℕ) → laid d at [] ≡ d
unfolding laid
laid_nil d at = ap (λ (k : ℕ). take at d ++ drop k d) (add-zero at) ∙ take-append-drop at d

front_length : (d x : List ℕ) (at : ℕ) → at ≤ length d → length (take at d ++ x) ≡ at + length x
front_length d x at h = length-append (take at d) x ∙ ap (λ (k : ℕ). k + length x) (length-take-le at d h)

pub laid_is : (d x : List ℕ) (at : ℕ) → laid d at x ≡ (take at d ++ x) ++ drop (at + length x) d
unfolding laid
laid_is d x at = sym (append_assoc (take at d) x (drop (at + length x) d))

pub length-laid : (d x : List ℕ) (at : ℕ) → at + length x ≤ length d → length (laid d at x) ≡ length d
length-laid d x at h =
    ap length (laid_is d x at) ∙ length-append (take at d ++ x) (drop (at + length x) d)
    ∙ ap₂ (λ (a b : ℕ). a + b) (front_length d x at (omega arith)) (length-drop (at + length x) d) ∙ omega arith

pub laid-laid : (d x y : List ℕ) (at : ℕ) → at + length x ≤ length d → laid (laid d at x) (at + length x) y ≡ laid d at (x ++ y)
unfolding laid
laid-laid d x y at h =
    let p : List ℕ = take at d ++ x in
    let q : List ℕ = drop (at + length x) d in
    let n : ℕ = at + length x in
    let lp : length p ≡ n = front_length d x at (omega arith) in
    let e : laid d at x ≡ p ++ q = laid_is d x at in
    let t : take n (laid d at x) ≡ p = ap (take n) e ∙ take_at p q n lp in
    let r : drop (n + length y) (laid d at x) ≡ drop (n + length y) d
    = sym (drop-drop (length y) n (laid d at x)) ∙ ap (drop (length y)) (ap (drop n) e ∙ drop_at p q n lp) ∙ drop-drop (length y) n d in
    let k : n + length y ≡ at + length (x ++ y) = add_assoc at (length x) (length y) ∙ ap (λ (m : ℕ). at + m) (sym (length-append x y)) in
    ap₂ (λ (a b : List ℕ). a ++ (y ++ b)) t (r ∙ ap (λ (m : ℕ). drop m d) k)
    ∙ append_assoc (take at d) x (y ++ drop (at + length (x ++ y)) d)
    ∙ ap (λ (a : List ℕ). take at d ++ a) (sym (append_assoc x y (drop (at + length (x ++ y)) d)))

-- what a loop over its places leaves
paste_laid : (d x : List ℕ) (at n : ℕ) → length x ≡ n → paste d at x n ≡ laid d at x
paste_laid d x at n e =
    ap₂ (λ (a : List ℕ) (k : ℕ). (take at d ++ a) ++ drop (at + k) d) (take_all n x (omega arith)) (sym e) ∙ sym (laid_is d x at)

-- ---- a run of bytes
pub record Pasting (d x : List ℕ) (at n : ℕ) (out : List ℕ) (i : ℕ) : Type 0 where
  pub done : i ≤ n
  pub long : length out ≡ length d
  pub made : out ≡ paste d at x i

module _ (d x : List ℕ) (at n : ℕ) (room : at + n ≤ length d) (len : length x ≡ n) where
  pub paste_start : Pasting d x at n d 0
  paste_start = record { done = omega arith; long = refl; made = paste-zero d at x }

  pub paste_more : (out : List ℕ) (i v : ℕ) → Pasting d x at n out i → i < n → v ≡ get_or x i 0
      → Pasting d x at n (set out (at + i) v) (i + 1)
  paste_more out i v go l e =
      let q : set out (at + i) v ≡ paste d at x (i + 1)
      = ap₂ (λ (o : List ℕ) (y : ℕ). set o (at + i) y) go.made e ∙ paste-suc d at x i 0 (omega arith) (omega arith)
      ∙ ap (paste d at x) (sym (add-one i)) in
      record { done = omega arith; long = ap length q ∙ length-paste d at x (i + 1) (omega arith) (omega arith); made = q }

  pub paste_all : (out : List ℕ) (i : ℕ) → Pasting d x at n out i → n ≤ i → out ≡ laid d at x
  paste_all out i go l =
      let e : i ≡ n = omega (arith, go.done) in
      go.made ∙ ap (paste d at x) e ∙ paste_laid d x at n len

-- ---- a number
pub little-rest : (w v i rest : ℕ) → i < w → drop i (little w v) ≡ little (w - i) rest → get_or (little w v) i 0 ≡ rest % 256
unfolding little
little-rest w v i rest h e =
    let k : w - i ≡ suc (w - (i + 1)) = omega arith in
    let z : get_or (drop i (little w v)) 0 0 ≡ get_or (little w v) (i + 0) 0 = get_or-drop i (little w v) 0 0 in
    let y : get_or (little w v) i 0 ≡ get_or (drop i (little w v)) 0 0 = ap (λ (m : ℕ). get_or (little w v) m 0) (sym (add-zero i)) ∙ sym z in
    y ∙ ap (λ (l : List ℕ). get_or l 0 0) (e ∙ ap (λ (m : ℕ). little m rest) k)

pub little-next : (w v i rest : ℕ) → i < w → drop i (little w v) ≡ little (w - i) rest
    → drop (i + 1) (little w v) ≡ little (w - (i + 1)) (rest / 256)
unfolding little
little-next w v i rest h e =
    let k : w - i ≡ suc (w - (i + 1)) = omega arith in
    sym (drop-drop 1 i (little w v)) ∙ ap (drop 1) (e ∙ ap (λ (m : ℕ). little m rest) k)

-- ---- an entry: its front as it stands, and another start
module _ (s : List ℕ) (b : Bytes s) (at : ℕ) where
  pub entry-laid : (d : List ℕ) (to w before len : ℕ) → len ≡ 4 + get_or s (at + 3) 0 → at + 4 + get_or s (at + 3) 0 ≤ length s
      → to + len ≤ length d
      → laid (laid d to (take len (drop at s))) (to + len) (little w before) ≡ laid d to (entry_bytes w before (entry_at s at))
  entry-laid d to w before len e h r =
      let x : List ℕ = take len (drop at s) in
      let lx : length x ≡ len = length-take-le len (drop at s) (simp length-drop (omega arith)) in
      ap (λ (k : ℕ). laid (laid d to x) (to + k) (little w before)) (sym lx)
      ∙ laid-laid d x (little w before) to (omega arith)
      ∙ ap (laid d to) (ap (λ (k : ℕ). take k (drop at s) ++ little w before) e ∙ entry_is s b at w before h)
