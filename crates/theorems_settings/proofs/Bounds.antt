-- Counts and lengths: what a file's count and starts have to hold always fits their bytes. Assumes nothing.
use mathlib.Core.Path.{◌≡◌, refl, sym, ap, subst, ◌∙◌}
use mathlib.Core.Logic.{◌⊎◌, inl, inr}
use Prim.Native.Nat.{ℕ, ◌+◌, ◌-◌, ◌*◌, ◌^◌, ◌≤◌, ◌<◌}
use mathlib.Core.Bool.{Bool, true, false, cond}
use mathlib.Core.List.{List, [], ◌∷◌, ◌++◌}
use native.Mathlib.Nat.{mul-suc, le_trans, mul-le-mul_left}
use native.Mathlib.Omega.{arith}
use borrow.Author.Tests.{eq-eqb, ne_eqb, le-leb, leb-true}
use lib.Dec.{eqb, leb}
use lib.ListN.{length, get_or, length-append}
use Rattle.standard.specs.declared.Version.{Version}
use Rattle.standard.specs.Settings.{version_one, version_two, version_in, version_for, Entry, entry_bytes, entries_bytes, entry_size, last_start}
use Rattle.standard.specs.Settings.{orderly, junctions, few, readable, all_readable, lawful}
use Rattle.theorems_settings.specs.Walk.{rising}
use Rattle.theorems_settings.specs.Settings.{Known}
use Rattle.theorems_settings.proofs.Logic.{and_left, and_right}
use Rattle.theorems_settings.proofs.Entries.{length-entry}
use Rattle.theorems_settings.proofs.Order.{orderly_is, Current, Previous, order_cases, rising_head, rising_tail}
use Rattle.theorems_settings.proofs.Counting.{kind-zero, kind-one}
use Rattle.theorems_settings.proofs.Readable.{readable-short}

-- at most two entries for each junction
abbrev extra : Bool → ℕ
extra b = cond b 1 0

entries-few : (bar : ℕ) (follow : Bool) (es : List Entry) → rising bar follow es ≡ true → length es ≤ extra follow + 2 * junctions es
entries-few bar follow [] h = omega arith
entries-few bar follow (e ∷ es) h =
    go (order_cases bar follow e (rising_head bar follow e es h))
    (entries-few (e.junction + 1) (eqb e.kind 0) es (rising_tail bar follow e es h))
  where
    go : Current bar e ⊎ Previous bar follow e → length es ≤ extra (eqb e.kind 0) + 2 * junctions es
        → length (e ∷ es) ≤ extra follow + 2 * junctions (e ∷ es)
    go (inl c) r =
        let t : extra (eqb e.kind 0) ≡ 1 = ap extra (eq-eqb e.kind 0 c.kind) in
        omega (arith, kind-zero e es c.kind)
    go (inr c) r =
        let t : extra (eqb e.kind 0) ≡ 0 = ap extra (ne_eqb e.kind 0 (λ z. omega (arith, c.kind))) in
        let f : extra follow ≡ 1 = ap extra c.may in
        omega (arith, kind-one e es c.kind)

-- an entry has at most 126 bytes beside its start
bytes-few : (w before at : ℕ) (es : List Entry) → all_readable es ≡ true → length (entries_bytes w before at es) ≤ (126 + w) * length es
unfolding entries_bytes all_readable
bytes-few w before at [] a = omega arith
bytes-few w before at (e ∷ es) a =
    let n : ℕ = length es in
    let one : length e.cp ≤ 122 = readable-short e.cp (and_left _ (all_readable es) a) in
    let rest : length (entries_bytes w at (at + entry_size w e) es) ≤ (126 + w) * n = bytes-few w at (at + entry_size w e) es
    (and_right (readable e.cp) _ a) in
    let sum : length (entry_bytes w before e ++ entries_bytes w at (at + entry_size w e) es) ≡ entry_size w e + length
    (entries_bytes w at (at + entry_size w e) es)
    = length-append (entry_bytes w before e) (entries_bytes w at (at + entry_size w e) es)
    ∙ ap (λ (m : ℕ). m + length (entries_bytes w at (at + entry_size w e) es)) (length-entry w before e) in
    omega (arith, mul-suc (126 + w) n)

last_low : (w before at : ℕ) (es : List Entry) → before ≤ at → last_start w before at es ≤ at + length (entries_bytes w before at es)
unfolding last_start entries_bytes
last_low w before at [] h = omega arith
last_low w before at (e ∷ es) h =
    let rest = last_low w at (at + entry_size w e) es (omega arith) in
    let sum : length (entry_bytes w before e ++ entries_bytes w at (at + entry_size w e) es) ≡ entry_size w e + length
    (entries_bytes w at (at + entry_size w e) es)
    = length-append (entry_bytes w before e) (entries_bytes w at (at + entry_size w e) es)
    ∙ ap (λ (m : ℕ). m + length (entries_bytes w at (at + entry_size w e) es)) (length-entry w before e) in
    omega (arith, rest)

-- ---- a version

-- what holds of both holds of a version that there is
pub of_known : (P : Version → Type 0) → P version_one → P version_two → (v : Version) → Known v → P v
of_known P a b v (inl k) = subst P (sym k) a
of_known P a b v (inr k) = subst P (sym k) b

pub known_in : (s : List ℕ) → Known (version_in s)
unfolding version_in
known_in s = go (eqb (get_or s (length s - 1) 0) 2)
  where
    go : (b : Bool) → Known (cond b version_two version_one)
    go true = inr refl
    go false = inl refl

pub known_for : (v : Version) (n : ℕ) → Known v → Known (version_for v n)
unfolding version_for
known_for v n k = go (leb n v.most)
  where
    go : (b : Bool) → Known (cond b v version_two)
    go true = k
    go false = inr refl

-- a file of it is read as one
pub version_in_lem : (s : List ℕ) (v : Version) → Known v → get_or s (length s - 1) 0 ≡ v.byte → version_in s ≡ v
unfolding version_in
version_in_lem s = of_known (λ v. get_or s (length s - 1) 0 ≡ v.byte → version_in s ≡ v) (λ e. rw e) (λ e. rw e)

-- what its count and its starts have to hold fits their bytes
record Wide (v : Version) : Type 0 where
  count : 2 * v.most < 2 ^ (8 * v.count)
  start : (126 + v.start) * (2 * v.most) < 2 ^ (8 * v.start)

wide : (v : Version) → Known v → Wide v
wide = of_known Wide (record { count = omega arith; start = omega arith }) (record { count = omega arith; start = omega arith })

module _ (v : Version) (es : List Entry) (h : lawful v es ≡ true) where
  pub lawful_order : rising 0 false es ≡ true
  unfolding lawful
  lawful_order = sym (orderly_is es) ∙ and_left (orderly es) _ h

  pub lawful-most : junctions es ≤ v.most
  unfolding lawful few
  lawful-most = leb-true (junctions es) v.most (and_left _ (all_readable es) (and_right (orderly es) _ h))

  pub lawful-read : all_readable es ≡ true
  unfolding lawful
  lawful-read = and_right (few v es) _ (and_right (orderly es) _ h)

  lawful-few : length es ≤ 2 * v.most
  lawful-few = omega (arith, entries-few 0 false es lawful_order, lawful-most)

  pub lawful-short : length (entries_bytes v.start 0 0 es) ≤ (126 + v.start) * (2 * v.most)
  lawful-short = le_trans (bytes-few v.start 0 0 es lawful-read) (mul-le-mul_left (126 + v.start) lawful-few)

  -- its version stays
  pub lawful_stays : version_for v (junctions es) ≡ v
  unfolding version_for
  lawful_stays = rw (le-leb (junctions es) v.most lawful-most)

pub record Fits (v : Version) (es : List Entry) : Type 0 where
  pub few : length es < 2 ^ (8 * v.count)
  pub low : last_start v.start 0 0 es < 2 ^ (8 * v.start)
  pub short : length (entries_bytes v.start 0 0 es) ≤ 2 ^ (8 * v.start)
  pub some : 0 < 2 ^ (8 * v.start)

pub fits : (v : Version) (es : List Entry) → Known v → lawful v es ≡ true → Fits v es
fits v es k h =
    let w = wide v k in
    let l = last_low v.start 0 0 es (omega arith) in
    let n = lawful-short v es h in
    record {
      few = omega (arith, lawful-few v es h, w.count);
      low = omega (arith, l, n, w.start);
      short = omega (arith, n, w.start);
      some = omega (arith, w.start);
    }
