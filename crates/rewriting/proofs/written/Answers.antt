-- Sizes first, then the entries, then the trailer. Assumes nothing.
use mathlib.Core.Path.{◌≡◌, sym, ap, subst, ◌∙◌}
use mathlib.Core.List.{List, [], ◌∷◌, ◌++◌}
use Prim.Native.Nat.{ℕ, ◌+◌, ◌-◌, ◌≤◌}
use native.Mathlib.Omega.{arith}
use lib.ListN.{length}
use Rattle.standard.specs.Settings.{Entry, little}
use Rattle.theorems_settings.proofs.FileBack.{length-file}
use Rattle.entries.specs.declared.Entries.{Entries}
use Rattle.entries.specs.Entries.{place_after, sizes, listed, LieInside}
use Rattle.entries.proofs.Sums.{length-bytes, front_inside, rest_inside}
use Rattle.laying.proofs.Joining.{lays_to, lays_long, lays_same}
use Rattle.laying.specs.Laying.{laid}
use Rattle.std.specs.Int.{from_bool}
use Rattle.std.proofs.Common.{rules}
use Rattle.rewriting.specs.Rewriting.{own_entries, around, before, rewritten}
use Rattle.rewriting.proofs.Afresh.{behind_is, body_is, count_is, own_count, short_written, fits_written}
use Rattle.rewriting.proofs.written.Goals as goal

-- the entries from number u on lie inside, by the place where they begin
inside_behind : (r : Entries) (u at : ℕ) → LieInside r → u ≤ r.count → at ≡ place_after r.start r.file.now u r.from
    → LieInside (record r { from = at; count = r.count - u })
inside_behind r u at h l e = subst LieInside (sym (behind_is r u at e)) (rest_inside r u h l)

-- the sizes add up to that of the entries written
body : (r : Entries) (k u at w front own rest : ℕ) (o : List Entry) → at ≡ place_after r.start r.file.now u r.from
    → front ≡ sizes w (listed (before r k)) → own ≡ sizes w o
    → rest ≡ sizes w (listed (record r { from = at; count = r.count - u })) → front + own + rest ≡ sizes w (rewritten r k u o)
body r k u at w front own rest o e ef eo er =
    omega (
      arith,
      body_is r k u o w,
      ef,
      eo,
      er,
      ap (λ (x : Entries). sizes w (listed x)) (behind_is r u at e),
    )

whole : (r : Entries) (k u at : ℕ) (own : List Entry) → at ≡ place_after r.start r.file.now u r.from
    → around (before r k) own (record r { from = at; count = r.count - u }) ≡ rewritten r k u own
unfolding rewritten
whole r k u at own e = ap (around (before r k) own) (behind_is r u at e)

pub size_of-requires-clause-inside : goal.size_of-requires-clause-inside
size_of-requires-clause-inside c =
    let a = c.args in front_inside a.entries.now a.below c.requires.inside c.requires.numbers.0

pub size_of-requires-2-clause-inside : goal.size_of-requires-2-clause-inside
size_of-requires-2-clause-inside c =
    let a = c.args in inside_behind a.entries.now a.upto _ c.requires.inside c.requires.numbers.1 c.place_after.ensures.value

pub returns-then-out-length : goal.returns-then-out-length
returns-then-out-length c =
    let a = c.args in
    let g = a.form in
    let es : List Entry = rewritten a.entries.now a.below a.upto (own_entries a.own.now) in
    let b = body a.entries.now a.below a.upto c.place_after.result g.start _ _ _ (own_entries a.own.now) c.place_after.ensures.value
    c.size_of.ensures.value c.own_size.ensures.value c.size_of-2.ensures.value in
    let short = short_written g es a.out.now (omega (arith, length-file g es, length-bytes g.start 0 0 es, b)) in
    record { refusal = short.0; length = tt; written = short.2 }

pub put_entries-requires-clause-inside : goal.put_entries-requires-clause-inside
put_entries-requires-clause-inside c =
    let a = c.args in (
      front_inside a.entries.now a.below c.requires.inside c.requires.numbers.0,
      inside_behind a.entries.now a.upto _ c.requires.inside c.requires.numbers.1 c.place_after.ensures.value,
    )

pub put_entries-requires-clause-room : goal.put_entries-requires-clause-room
put_entries-requires-clause-room c =
    let a = c.args in
    let g = a.form in
    let r = a.entries.now in
    let own : List Entry = own_entries a.own.now in
    let b = body r a.below a.upto c.place_after.result g.start _ _ _ own c.place_after.ensures.value
    c.size_of.ensures.value c.own_size.ensures.value c.size_of-2.ensures.value in
    omega (arith, b, ap (sizes g.start) (whole r a.below a.upto c.place_after.result own c.place_after.ensures.value))

pub put_trailer-requires-clause-room : goal.put_trailer-requires-clause-room
put_trailer-requires-clause-room c =
    let a = c.args in
    let g = a.form in
    let r = a.entries.now in
    let own : List Entry = own_entries a.own.now in
    let e = c.place_after.ensures.value in
    let b = body r a.below a.upto c.place_after.result g.start _ _ _ own e
    c.size_of.ensures.value c.own_size.ensures.value c.size_of-2.ensures.value in
    let es = around (before r a.below) own (record r { from = c.place_after.result; count = r.count - a.upto }) in
    let h = ap (sizes g.start) (whole r a.below a.upto c.place_after.result own e) in
    let l = c.put_entries.ensures.lays.lays in
    omega (
      arith,
      b,
      h,
      lays_to g.start a.out.now (record { to = 0; before = 0 }) es _ _ l,
      lays_long g.start a.out.now (record { to = 0; before = 0 }) es _ _ l (omega (arith, b, h)),
    )

pub returns : goal.returns
returns c =
    let a = c.args in
    let g = a.form in
    let r = a.entries.now in
    let own : List Entry = own_entries a.own.now in
    let es : List Entry = rewritten r a.below a.upto own in
    let e = c.place_after.ensures.value in
    let b = body r a.below a.upto c.place_after.result g.start _ _ _ own e
    c.size_of.ensures.value c.own_size.ensures.value c.size_of-2.ensures.value in
    let w = whole r a.below a.upto c.place_after.result own e in
    let l = c.put_entries.ensures.lays.lays in
    let some = c.from.ensures ∙ ap from_bool c.is_some.ensures in
    let n : a.below + 1 + c.from.result + (r.count - a.upto) ≡ length es = omega (arith, some, own_count a.own.now, count_is r a.below a.upto own) in
    let q = c.put_entries.new.writer.spot in
    let to = lays_to g.start a.out.now (record { to = 0; before = 0 }) _ _ q l in
    let f = fits_written g es a.out.now _ _ q _ (a.below + 1 + c.from.result + (r.count - a.upto)) _ (lays_same w l)
    b n (omega arith) c.if-out-length.false
    (c.put_trailer.ensures.lays ∙ ap (λ (k : ℕ). laid c.put_entries.new.writer.out.now k
    (little g.count (a.below + 1 + c.from.result + (r.count - a.upto)) ++ (little g.start q.before ++ (g.byte ∷ []))))
    (omega (arith, to, b, ap (sizes g.start) w))) in
    let out = f.2 in
    record { refusal = f.0; length = f.1; written = search (rules, out) }
