-- A file written afresh: its entries, then its trailer. Assumes nothing.
use mathlib.Core.Path.{◌≡◌, refl, sym, ap, ap₂, ◌∙◌}
use mathlib.Core.List.{List, [], ◌∷◌, ◌++◌, append_assoc}
use Prim.Native.Nat.{ℕ, zero, suc, ◌+◌, ◌-◌, ◌%◌, ◌<◌, ◌≤◌}
use native.Mathlib.Omega.{arith}
use borrow.Author.Tests.{lt-ltb, le-ltb}
use lib.ListN.{length, drop, length-append}
use Rattle.standard.specs.First.{Answer, bare, first}
use Rattle.standard.specs.declared.Version.{Version}
use Rattle.standard.specs.Settings.{Entry, little, next_at, entries_at, entry, entries_bytes, file_of, trailer}
use Rattle.theorems_settings.proofs.Numbers.{length-little}
use Rattle.theorems_settings.proofs.FileBack.{length-file}
use Rattle.laying.specs.declared.Spot.{Spot}
use Rattle.laying.specs.Laying.{laid, Lays, given}
use Rattle.rewriting.specs.declared.JunctionSettings.{JunctionSettings}
use Rattle.entries.specs.declared.Entries.{Entries}
use denote.Ref.{Bor}
use Rattle.std.specs.Int.{from_bool}
use Rattle.std.specs.Prelude.{Option, Some, None, is_some}
use Rattle.rewriting.specs.Rewriting.{own_entries, before, behind, rewritten, written_refusal}
use Rattle.entries.specs.Entries.{place_after, sizes, listed}
use Rattle.standard.specs.Calls.{written_length, written_out}
use Rattle.laying.proofs.Joining.{laid_next}
use Rattle.entries.proofs.Sums.{length-bytes, sizes-append}

count_entries : (w : ℕ) (s : List ℕ) (n at : ℕ) → length (entries_at w s at n) ≡ n
unfolding entries_at
count_entries w s zero at = refl
count_entries w s (suc n) at = ap suc (count_entries w s n (next_at w s at))

-- the trailer, number by number
pub trailer-laid : (d o1 o2 o3 : List ℕ) (body count last w c v v' : ℕ) → v' ≡ v → v < 256 → body + (c + w + 1) ≤ length d
    → o1 ≡ laid d body (little c count) → o2 ≡ laid o1 (body + c) (little w last) → o3 ≡ laid o2 (body + c + w) (little 1 v')
    → o3 ≡ laid d body (little c count ++ (little w last ++ (v ∷ [])))
unfolding little
trailer-laid d o1 o2 o3 body count last w c v v' ev hv h q1 q2 q3 =
    let x : List ℕ = little c count in
    let y : List ℕ = little w last in
    let lx : length x ≡ c = length-little c count in
    let ly : length y ≡ w = length-little w last in
    let lxy : length (x ++ y) ≡ c + w = length-append x y ∙ ap₂ (λ (a b : ℕ). a + b) lx ly in
    let p2 : o2 ≡ laid d body (x ++ y) = q2 ∙ laid_next d o1 x y body (body + c) q1 (omega arith) (omega arith) in
    let m : v' % 256 ≡ v = omega arith in
    q3 ∙ laid_next d o2 (x ++ y) (v' % 256 ∷ []) body (body + c + w) p2 (omega arith) (omega arith)
    ∙ ap (laid d body) (append_assoc x y (v' % 256 ∷ []) ∙ ap (λ (k : ℕ). x ++ (y ++ (k ∷ []))) m)

-- ---- how long it is

module _ (w : ℕ) (o : JunctionSettings) where
  pub own_none : o.previous ≡ None → 4 + length o.current.now + w ≡ sizes w (own_entries o)
  unfolding entry given sizes
  own_none e = rw e (omega arith)

  pub own_some : (x : Bor (List ℕ)) → o.previous ≡ Some x → 4 + length o.current.now + w + 4 + length x.now + w ≡ sizes w (own_entries o)
  unfolding entry given sizes
  own_some x e = rw e (omega arith)

pub own_count : (o : JunctionSettings) → length (own_entries o) ≡ 1 + from_bool (is_some o.previous)
unfolding entry given
own_count o = go o.previous
  where
    go : (p : Option (Bor (List ℕ))) → length (own_entries (record o { previous = p })) ≡ 1 + from_bool (is_some p)
    go None = refl
    go (Some x) = refl

module _ (r : Entries) (k u : ℕ) (own : List Entry) where
  pub body_is : (w : ℕ) → sizes w (listed (before r k)) + sizes w own + sizes w (listed (behind r u)) ≡ sizes w (rewritten r k u own)
  unfolding rewritten
  body_is w =
      omega (
        arith,
        sizes-append w (listed (before r k)) (own ++ listed (behind r u)),
        sizes-append w own (listed (behind r u)),
      )

  pub count_is : k + length own + (r.count - u) ≡ length (rewritten r k u own)
  unfolding rewritten
  count_is =
      omega (
        arith,
        count_entries r.start r.file.now k r.from,
        count_entries r.start r.file.now (r.count - u) (place_after r.start r.file.now u r.from),
        length-append (listed (before r k)) (own ++ listed (behind r u)),
        length-append own (listed (behind r u)),
      )

-- the entries from number u on, by the place where they begin
pub behind_is : (r : Entries) (u at : ℕ) → at ≡ place_after r.start r.file.now u r.from
    → ◌≡◌ {A = Entries} (record r { from = at; count = r.count - u }) (behind r u)
behind_is r u at e = ap {B = Entries} (λ (m : ℕ). record r { from = m; count = r.count - u }) e

-- ---- the answer

module _ (g : Version) (es : List Entry) (out : List ℕ) where
  abbrev t : List ℕ
  t = file_of g es

  abbrev a : Answer
  a = written_refusal (length out) t

  pub short_written : length out < length t → (bare 17 ≡ a) × (0 ≡ written_length a t) × (out ≡ written_out a t out)
  unfolding written_refusal first
  short_written h = rw (lt-ltb (length out) (length t) h) (refl, refl, refl)

  pub fits_written : (o1 o2 : List ℕ) (q : Spot) (body count len : ℕ) → Lays g.start out (record { to = 0; before = 0 }) es o1 q
      → body ≡ sizes g.start es → count ≡ length es → len ≡ body + trailer g → len ≤ length out
      → o2 ≡ laid o1 body (little g.count count ++ (little g.start q.before ++ (g.byte ∷ [])))
      → (bare 0 ≡ a) × (len ≡ written_length a t) × (o2 ≡ written_out a t out)
  unfolding written_refusal first file_of laid
  fits_written o1 o2 q body count len l eb ec en h q2 =
      let x : List ℕ = entries_bytes g.start 0 0 es in
      let lx : length x ≡ body = length-bytes g.start 0 0 es ∙ sym eb in
      let ln : len ≡ length t = omega (arith, length-file g es) in
      let o : o2 ≡ laid out 0 t
      = q2 ∙ laid_next out o1 x (little g.count count ++ (little g.start q.before ++ (g.byte ∷ []))) 0 body l.bytes
      (omega arith) (omega arith)
      ∙ ap₂ (λ (y z : ℕ). laid out 0 (x ++ (little g.count y ++ (little g.start z ++ (g.byte ∷ []))))) ec l.before in
      let z : 0 + length t ≡ length t = omega arith in
      rw (le-ltb (length out) (length t) (omega arith)) (refl, ln, o ∙ ap (λ (m : ℕ). t ++ drop m out) z)
