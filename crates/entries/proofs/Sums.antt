-- A number taken of each entry and added up: one loop law for every such count. Assumes nothing.
use mathlib.Core.Path.{◌≡◌, refl, sym, ap, ap₂, ◌∙◌}
use mathlib.Core.Bool.{Bool, true, false, cond}
use mathlib.Core.List.{List, [], ◌∷◌, ◌++◌}
use Prim.Native.Nat.{ℕ, zero, suc, ◌+◌, ◌-◌, ◌*◌, ◌<◌, ◌≤◌}
use native.Mathlib.Nat.{add-zero, mul-suc}
use native.Mathlib.Numerals.{add-one}
use native.Mathlib.Omega.{arith}
use borrow.Author.Tests.{leb-true, le-leb}
use lib.Dec.{eqb, ltb}
use lib.ListN.{length, get_or, length-append}
use Rattle.std.specs.Int.{from_bool}
use Rattle.standard.specs.Settings.{Entry, entry_at, next_at, entries_at, entry_bytes, entries_bytes, entry_size, below, junctions}
use Rattle.theorems_settings.proofs.Logic.{both}
use Rattle.theorems_settings.proofs.Shown.{below-cons}
use Rattle.entries.specs.Entries.{inside, place_after, sizes, LieInside, listed}
use Rattle.entries.specs.declared.Entries.{Entries}
use Rattle.entries.proofs.Inside.{inside-next, inside_more, entries-append}
use Rattle.theorems_settings.proofs.Entries.{length-entry, entry_length}

-- f adds up g
pub record Adds (f : List Entry → ℕ) (g : Entry → ℕ) : Type 0 where
  pub nil : f [] ≡ 0
  pub cons : (e : Entry) (es : List Entry) → f (e ∷ es) ≡ g e + f es

entries-suc : (w : ℕ) (s : List ℕ) (at n : ℕ) → entries_at w s at (suc n) ≡ entry_at s at ∷ entries_at w s (next_at w s at) n
unfolding entries_at
entries-suc w s at n = refl

-- after i of the entries the next one is there
pub room : (r : Entries) (at i : ℕ) → inside r.start r.file.now (length r.file.now) (r.count - i) at ≡ true → i < r.count
    → at + 4 + get_or r.file.now (at + 3) 0 + r.start ≤ length r.file.now
unfolding next_at
room r at i h l =
    let e : r.count - i ≡ suc (r.count - (i + 1)) = omega arith in
    inside-next r.start r.file.now (length r.file.now) (r.count - (i + 1)) at (rw e at h)

module _ (r : Entries) (f : List Entry → ℕ) (g : Entry → ℕ) (most : ℕ) where
  abbrev s : List ℕ
  s = r.file.now

  abbrev n : ℕ
  n = r.count

  pub record Summing (at found i : ℕ) : Type 0 where
    pub done : i ≤ n
    pub few : found ≤ most * i
    pub here : inside r.start s (length s) (n - i) at ≡ true
    pub total : f (listed r) ≡ found + f (entries_at r.start s at (n - i))

  module _ (at found i : ℕ) (go : Summing at found i) where
    left : i < n → n - i ≡ suc (n - (i + 1))
    left l = omega arith

    pub sum_more : Adds f g → i < n → (one next : ℕ) → one ≡ g (entry_at s at) → one ≤ most → next ≡ at + 4 + get_or s (at + 3) 0 + r.start
        → Summing next (found + one) (i + 1)
    unfolding next_at
    sum_more a l one next e h en =
        let p : most * (i + 1) ≡ most * i + most = ap (λ (k : ℕ). most * k) (add-one i) ∙ mul-suc most i ∙ omega arith in
        rw en record {
          done = omega arith;
          few = omega (arith, go.few);
          here = inside_more r.start s (length s) (n - (i + 1)) at (rw (left l) at go.here);
          total =
              go.total ∙ ap (λ (m : ℕ). found + f (entries_at r.start s at m)) (left l)
              ∙ ap (λ (es : List Entry). found + f es) (entries-suc r.start s at (n - (i + 1)))
              ∙ ap (λ (m : ℕ). found + m) (a.cons (entry_at s at) (entries_at r.start s (next_at r.start s at) (n - (i + 1)))) ∙ omega arith;
        }

    pub sum-all : Adds f g → n ≤ i → found ≡ f (listed r)
    unfolding entries_at
    sum-all a l = let z : n - i ≡ 0 = omega arith in sym (go.total ∙ rw z (ap (λ (m : ℕ). found + m) a.nil ∙ add-zero found))

-- ---- the three counts

-- one where a test holds, and else none
pub bit : (b : Bool) (n : ℕ) → n ≡ from_bool b → (n ≡ cond b 1 0) × (n ≤ 1)
bit true n e = (e, omega arith)
bit false n e = (e, omega arith)

abbrev pub below_one : ℕ → Entry → ℕ
below_one j e = cond (ltb e.junction j) 1 0

pub adds_below : (j : ℕ) → Adds (λ es. length (below j es)) (below_one j)
unfolding below
adds_below j = record { nil = refl; cons = λ e es. ap length (below-cons j e es) ∙ go (ltb e.junction j) e es }
  where
    go : (b : Bool) (e : Entry) (es : List Entry) → length (cond b (e ∷ below j es) (below j es)) ≡ cond b 1 0 + length (below j es)
    go true e es = omega arith
    go false e es = omega arith

abbrev pub current_one : Entry → ℕ
current_one e = cond (eqb e.kind 0) 1 0

pub adds_junctions : Adds junctions current_one
unfolding junctions
adds_junctions = record { nil = refl; cons = λ e es. refl }

pub adds_sizes : (w : ℕ) → Adds (sizes w) (entry_size w)
unfolding sizes
adds_sizes w = record { nil = refl; cons = λ e es. refl }

-- ---- places and lengths are sizes

pub length-bytes : (w before at : ℕ) (es : List Entry) → length (entries_bytes w before at es) ≡ sizes w es
unfolding entries_bytes sizes
length-bytes w before at [] = refl
length-bytes w before at (e ∷ es) =
    length-append (entry_bytes w before e) (entries_bytes w at (at + entry_size w e) es)
    ∙ ap₂ (λ (x y : ℕ). x + y) (length-entry w before e) (length-bytes w at (at + entry_size w e) es)

pub sizes-append : (w : ℕ) (xs ys : List Entry) → sizes w (xs ++ ys) ≡ sizes w xs + sizes w ys
unfolding sizes
sizes-append w [] ys = omega arith
sizes-append w (e ∷ xs) ys = omega (arith, sizes-append w xs ys)

-- entries inside a byte string
inside_low : (w : ℕ) (s : List ℕ) (end n at : ℕ) → inside w s end n at ≡ true → at ≤ end
unfolding inside next_at
inside_low w s end zero at h = leb-true at end h
inside_low w s end (suc n) at h = omega (arith, inside-next w s end n at h)

pub inside_split : (w : ℕ) (s : List ℕ) (end a b at : ℕ) → inside w s end (a + b) at ≡ true
    → (inside w s end a at ≡ true) × (inside w s end b (place_after w s a at) ≡ true)
unfolding place_after inside
inside_split w s end zero b at h =
    let z : b ≡ 0 + b = omega arith in let h' : inside w s end b at ≡ true = ap (λ (k : ℕ). inside w s end k at) z
    ∙ h in (le-leb at end (inside_low w s end b at h'), h')
inside_split w s end (suc a) b at h =
    let z : suc (a + b) ≡ suc a + b = omega arith in
    let h' : inside w s end (suc (a + b)) at ≡ true = ap (λ (k : ℕ). inside w s end k at) z ∙ h in
    let r = inside_split w s end a b (next_at w s at) (inside_more w s end (a + b) at h') in
    (both _ _ (le-leb (next_at w s at) end (inside-next w s end (a + b) at h')) r.0, r.1)

-- the first k of entries that lie inside, and those behind them
pub front_inside : (r : Entries) (k : ℕ) → LieInside r → k ≤ r.count → inside r.start r.file.now (length r.file.now) k r.from ≡ true
front_inside r k h l =
    let e : k + (r.count - k) ≡ r.count = omega arith in
    (inside_split r.start r.file.now (length r.file.now) k (r.count - k) r.from
    (ap (λ (m : ℕ). inside r.start r.file.now (length r.file.now) m r.from) e ∙ h)).0

pub rest_inside : (r : Entries) (k : ℕ) → LieInside r → k ≤ r.count
    → inside r.start r.file.now (length r.file.now) (r.count - k) (place_after r.start r.file.now k r.from) ≡ true
rest_inside r k h l =
    let e : k + (r.count - k) ≡ r.count = omega arith in
    (inside_split r.start r.file.now (length r.file.now) k (r.count - k) r.from
    (ap (λ (m : ℕ). inside r.start r.file.now (length r.file.now) m r.from) e ∙ h)).1

pub place_low : (r : Entries) (k : ℕ) → LieInside r → k ≤ r.count → place_after r.start r.file.now k r.from ≤ length r.file.now
place_low r k h l = inside_low r.start r.file.now (length r.file.now) (r.count - k) (place_after r.start r.file.now k r.from) (rest_inside r k h l)

size-next : (w : ℕ) (s : List ℕ) (at : ℕ) → next_at w s at ≤ length s → (k : ℕ) → next_at w s at + k ≡ at + (entry_size w (entry_at s at) + k)
unfolding next_at
size-next w s at l k = let e : length (entry_at s at).cp ≡ get_or s (at + 3) 0 = entry_length s at (omega arith) in omega arith

pub place-size : (w : ℕ) (s : List ℕ) (n at : ℕ) → inside w s (length s) n at ≡ true
    → place_after w s n at ≡ at + sizes w (entries_at w s at n)
unfolding place_after entries_at sizes
place-size w s zero at h = omega arith
place-size w s (suc n) at h =
    let r : place_after w s n (next_at w s at) ≡ next_at w s at + sizes w (entries_at w s (next_at w s at) n) = place-size w s n
    (next_at w s at) (inside_more w s (length s) n at h) in
    r ∙ size-next w s at (inside-next w s (length s) n at h) (sizes w (entries_at w s (next_at w s at) n))

-- of n entries, a and b others behind them
pub sizes_split : (w v : ℕ) (s : List ℕ) (at n a b : ℕ) → n ≡ a + b
    → sizes w (entries_at v s at n) ≡ sizes w (entries_at v s at a) + sizes w (entries_at v s (place_after v s a at) b)
sizes_split w v s at n a b e =
    ap (λ (k : ℕ). sizes w (entries_at v s at k)) e ∙ ap (sizes w) (entries-append v s at a b)
    ∙ sizes-append w (entries_at v s at a) (entries_at v s (place_after v s a at) b)

-- so the place after the first k entries is theirs
pub place_by_size : (r : Entries) (k n : ℕ) → LieInside r → k ≤ r.count → n ≡ sizes r.start (entries_at r.start r.file.now r.from k)
    → r.from + n ≡ place_after r.start r.file.now k r.from
place_by_size r k n h l e =
    ap (λ (m : ℕ). r.from + m) e ∙ sym (place-size r.start r.file.now k r.from (front_inside r k h l))
