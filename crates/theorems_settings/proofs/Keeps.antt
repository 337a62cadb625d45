-- A put and a going back write a file, and it holds what they did to the settings. Assumes nothing.
use mathlib.Core.Path.{◌≡◌, refl, sym, ap, ap₂, subst, ◌∙◌}
use mathlib.Core.Logic.{◌⊎◌, inl, inr}
use mathlib.Core.Option.{Option, none, some}
use Prim.Native.Nat.{ℕ, zero, suc, ◌+◌, ◌-◌, ◌<◌, ◌≤◌}
use mathlib.Core.Bool.{Bool, true, false, cond, ◌&&◌}
use mathlib.Core.List.{List, [], ◌∷◌, ◌++◌}
use native.Mathlib.Omega.{arith}
use borrow.Author.Tests.{eqb-true, eqb-false, eq-eqb, le-leb, ltb-false, not-false}
use lib.Dec.{T, eqb, leb, ltb}
use lib.ListN.{length, get_or, take, drop, length-take}
use Rattle.standard.specs.Lists.{list_from}
use Rattle.standard.specs.Cp.{cp_bytes}
use Rattle.standard.specs.Refusals.{empty_test, empty_tests, rate_tests, record_tests}
use Rattle.standard.specs.Settings.{version_two, version_in, version_for, Entry, little_at, entry_at, next_at, entries_at, file_of, entries_in}
use Rattle.standard.specs.Settings.{settings_in, find, there, entry, below, above, replace, put, back, put_file, back_file, same, as_written}
use Rattle.standard.specs.Settings.{junctions, few, readable, all_readable, lawful, is_file, put_tests, back_tests}
use Rattle.standard.specs.Calls.{accepted, PutCall, put_refusal, BackCall, back_refusal}
use Rattle.standard.specs.declared.Record.{Record}
use Rattle.standard.specs.declared.Version.{Version}
use Rattle.standard.proofs.First.{numbered, None, none_first, none_split}
use Rattle.theorems_cp.specs.RoundTrip.{Shaped}
use Rattle.theorems_settings.specs.Walk.{rising}
use Rattle.theorems_settings.specs.Settings.{Bytes, Small, Smalls, Known}
use Rattle.theorems_settings.proofs.Logic.{and_left, and_right, both}
use Rattle.theorems_settings.proofs.Shown.{pair, find_other}
use Rattle.theorems_settings.proofs.Order.{orderly_is, Current, Previous, order_cases, rising_head, rising_tail, replace_order}
use Rattle.theorems_settings.proofs.Counting.{all-readable-replace, junctions_split, found_here}
use Rattle.theorems_settings.proofs.FileBack.{version-back, entries_in_lem}
use Rattle.theorems_settings.proofs.Readable.{readable-short, readable-cp}
use Rattle.theorems_settings.proofs.Bounds.{known_in, known_for, version_in_lem, fits, lawful_order, lawful-most, lawful-read}
use Rattle.theorems_settings.proofs.Bounds.{lawful_stays}

-- ---- entries that fit their bytes

smalls-append : (xs ys : List Entry) → Smalls xs → Smalls ys → Smalls (xs ++ ys)
unfolding Smalls
smalls-append [] ys p q = q
smalls-append (e ∷ xs) ys p q = (p.0, smalls-append xs ys p.1 q)

smalls_cond : (b : Bool) (e : Entry) (xs : List Entry) → Small e → Smalls xs → Smalls (cond b (e ∷ xs) xs)
unfolding Smalls
smalls_cond true e xs p q = (p, q)
smalls_cond false e xs p q = q

smalls-below : (j : ℕ) (es : List Entry) → Smalls es → Smalls (below j es)
unfolding below Smalls
smalls-below j [] p = tt
smalls-below j (e ∷ es) p = smalls_cond (ltb e.junction j) e (below j es) p.0 (smalls-below j es p.1)

smalls-above : (j : ℕ) (es : List Entry) → Smalls es → Smalls (above j es)
unfolding above Smalls
smalls-above j [] p = tt
smalls-above j (e ∷ es) p = smalls_cond (ltb j e.junction) e (above j es) p.0 (smalls-above j es p.1)

smalls-replace : (j : ℕ) (new es : List Entry) → Smalls new → Smalls es → Smalls (replace j new es)
unfolding replace
smalls-replace j new es p q =
    smalls-append (below j es) (new ++ above j es) (smalls-below j es q) (smalls-append new (above j es) p (smalls-above j es q))

-- what is read from bytes does
little_two : (s : List ℕ) (at : ℕ) → Bytes s → little_at s at 2 < 65536
unfolding little_at
little_two s at b = omega (arith, b at, b (suc at))

take_short : (n : ℕ) (xs : List ℕ) → length (take n xs) ≤ n
take_short n xs = omega (arith, length-take n xs)

pub smalls-at : (w : ℕ) (s : List ℕ) → Bytes s → (n at : ℕ) → Smalls (entries_at w s at n)
unfolding entries_at Smalls entry_at
smalls-at w s b zero at = tt
smalls-at w s b (suc n) at = (
  record { number = little_two s at b; short = omega (arith, b (at + 3), take_short (get_or s (at + 3) 0) (drop (at + 4) s)) },
  smalls-at w s b n (next_at w s at),
)

-- ---- an entry made of a CP that was found

pub found-readable : (k j l : ℕ) (es : List Entry) → all_readable es ≡ true → all_readable (entry l j (find k j es)) ≡ true
unfolding find entry all_readable
found-readable k j l [] a = refl
found-readable k j l (e ∷ es) a =
    go (eqb e.junction j && eqb e.kind k) (found-readable k j l es (and_right (readable e.cp) _ a))
  where
    go : (b : Bool) → all_readable (entry l j (find k j es)) ≡ true → all_readable (entry l j (cond b (some e.cp) (find k j es))) ≡ true
    go true r = both (readable e.cp) true (and_left (readable e.cp) (all_readable es) a) refl
    go false r = r

found-smalls : (k j l : ℕ) (es : List Entry) → j < 65536 → Smalls es → Smalls (entry l j (find k j es))
unfolding find entry Smalls
found-smalls k j l [] h p = tt
found-smalls k j l (e ∷ es) h p = go (eqb e.junction j && eqb e.kind k) (found-smalls k j l es h p.1)
  where
    go : (b : Bool) → Smalls (entry l j (find k j es)) → Smalls (entry l j (cond b (some e.cp) (find k j es)))
    go true r = (record { number = h; short = p.0.short }, tt)
    go false r = r

-- ---- junctions

junctions-append : (xs ys : List Entry) → junctions (xs ++ ys) ≡ junctions xs + junctions ys
unfolding junctions
junctions-append [] ys = omega arith
junctions-append (e ∷ xs) ys = omega (arith, junctions-append xs ys)

junctions_pair : (j : ℕ) (cp : List ℕ) (p : Option (List ℕ)) → junctions (pair j (some cp) p) ≡ 1
unfolding entry junctions
junctions_pair j cp none = refl
junctions_pair j cp (some x) = refl

junctions-replace : (j : ℕ) (cp : List ℕ) (p : Option (List ℕ)) (es : List Entry)
    → junctions (replace j (pair j (some cp) p) es) ≡ junctions (below j es) + (1 + junctions (above j es))
unfolding replace
junctions-replace j cp p es =
    junctions-append (below j es) (pair j (some cp) p ++ above j es)
    ∙ ap (λ (k : ℕ). junctions (below j es) + k)
    (junctions-append (pair j (some cp) p) (above j es) ∙ ap (λ (k : ℕ). k + junctions (above j es)) (junctions_pair j cp p))

-- a junction that is there is counted already, another one is one more
pub junctions-put : (j : ℕ) (cp : List ℕ) (p : Option (List ℕ)) (es : List Entry) → rising 0 false es ≡ true
    → junctions (replace j (pair j (some cp) p) es) ≡ cond (there (find 0 j es)) 0 1 + junctions es
junctions-put j cp p es h =
    junctions-replace j cp p es ∙ go (there (find 0 j es)) (junctions_split j 0 false es (omega arith) h)
  where
    go : (b : Bool) → junctions es ≡ junctions (below j es) + (cond b 1 0 + junctions (above j es))
        → junctions (below j es) + (1 + junctions (above j es)) ≡ cond b 0 1 + junctions es
    go true e = omega arith
    go false e = omega arith

-- a previous setting has a current one
with_current : (j bar : ℕ) (follow : Bool) (es : List Entry) → rising bar follow es ≡ true → there (find 1 j es) ≡ true
    → (there (find 0 j es) ≡ true) ⊎ ((follow ≡ true) × (j + 1 ≡ bar))
unfolding find
with_current j bar follow [] h t = inl t
with_current j bar follow (e ∷ es) h t =
    go (eqb e.junction j) refl (order_cases bar follow e (rising_head bar follow e es h))
    (with_current j (e.junction + 1) (eqb e.kind 0) es (rising_tail bar follow e es h))
  where
    other : (e.junction ≡ j → ⊥) → Current bar e ⊎ Previous bar follow e
        → (there (find 1 j es) ≡ true → (there (find 0 j es) ≡ true) ⊎ ((eqb e.kind 0 ≡ true) × (j + 1 ≡ e.junction + 1)))
        → (there (find 0 j (e ∷ es)) ≡ true) ⊎ ((follow ≡ true) × (j + 1 ≡ bar))
    other n c ih = last (ih (sym (ap there (find_other 1 j e es n)) ∙ t))
      where
        last : (there (find 0 j es) ≡ true) ⊎ ((eqb e.kind 0 ≡ true) × (j + 1 ≡ e.junction + 1))
            → (there (find 0 j (e ∷ es)) ≡ true) ⊎ ((follow ≡ true) × (j + 1 ≡ bar))
        last (inl q) = inl (ap there (find_other 0 j e es n) ∙ q)
        last (inr q) = absurd (n (omega (arith, q.1)))

    go : (b : Bool) → eqb e.junction j ≡ b → Current bar e ⊎ Previous bar follow e
        → (there (find 1 j es) ≡ true → (there (find 0 j es) ≡ true) ⊎ ((eqb e.kind 0 ≡ true) × (j + 1 ≡ e.junction + 1)))
        → (there (find 0 j (e ∷ es)) ≡ true) ⊎ ((follow ≡ true) × (j + 1 ≡ bar))
    go true q (inl c) ih = inl (ap there (found_here j e es (eqb-true e.junction j q) c.kind))
    go true q (inr c) ih = inr (c.may, omega (arith, eqb-true e.junction j q, c.same))
    go false q c ih = other (eqb-false e.junction j q) c ih

current-there : (j : ℕ) (es : List Entry) → rising 0 false es ≡ true → there (find 1 j es) ≡ true → there (find 0 j es) ≡ true
current-there j es h t = go (with_current j 0 false es h t)
  where
    go : (there (find 0 j es) ≡ true) ⊎ ((false ≡ true) × (j + 1 ≡ 0)) → there (find 0 j es) ≡ true
    go (inl q) = q
    go (inr q) = let z : ⊥ = omega (arith, q.1) in absurd z

-- ---- the entries written keep the rules

pair_readable : (j : ℕ) (cp : List ℕ) (p : Option (List ℕ)) → readable cp ≡ true → all_readable (entry 1 j p) ≡ true
    → all_readable (pair j (some cp) p) ≡ true
unfolding entry all_readable
pair_readable j cp none c q = both _ _ c refl
pair_readable j cp (some x) c q = both _ _ c q

pair_smalls : (j : ℕ) (cp : List ℕ) (p : Option (List ℕ)) → j < 65536 → length cp < 256 → Smalls (entry 1 j p) → Smalls (pair j (some cp) p)
unfolding entry Smalls
pair_smalls j cp none h l q = (record { number = h; short = l }, tt)
pair_smalls j cp (some x) h l q = (record { number = h; short = l }, q)

pub one-readable : (j : ℕ) (x : List ℕ) → all_readable (entry 1 j (some x)) ≡ true → readable x ≡ true
unfolding entry all_readable
one-readable j x a = and_left (readable x) true a

replace-lawful : (u v : Version) (j : ℕ) (cp : List ℕ) (p : Option (List ℕ)) (es : List Entry) → lawful u es ≡ true
    → readable cp ≡ true → all_readable (entry 1 j p) ≡ true → few v (replace j (pair j (some cp) p) es) ≡ true
    → lawful v (replace j (pair j (some cp) p) es) ≡ true
unfolding lawful
replace-lawful u v j cp p es h c q m =
    both _ _ (orderly_is _ ∙ replace_order j cp p es (lawful_order u es h))
    (both _ _ m (all-readable-replace j (pair j (some cp) p) es (pair_readable j cp p c q) (lawful-read u es h)))

-- entries that version 2 may hold, in the version in which they are written
few_for : (v : Version) (es : List Entry) → few version_two es ≡ true → few (version_for v (junctions es)) es ≡ true
unfolding few version_for
few_for v es h = go (leb (junctions es) v.most) refl
  where
    go : (b : Bool) → leb (junctions es) v.most ≡ b → leb (junctions es) (cond b v version_two).most ≡ true
    go true e = e
    go false e = h

-- ---- files

pub same_self : (xs : List ℕ) → same xs xs ≡ true
unfolding same
same_self [] = refl
same_self (x ∷ xs) = both _ _ (eq-eqb x x refl) (same_self xs)

pub same_is : (xs ys : List ℕ) → same xs ys ≡ true → xs ≡ ys
unfolding same
same_is [] [] e = refl
same_is [] (y ∷ ys) e = cc
same_is (x ∷ xs) [] e = cc
same_is (x ∷ xs) (y ∷ ys) e =
    ap₂ (λ (z : ℕ) (zs : List ℕ). z ∷ zs) (eqb-true x y (and_left (eqb x y) (same xs ys) e))
    (same_is xs ys (and_right (eqb x y) (same xs ys) e))

-- a file whose entries fit their bytes
pub record Good (s : List ℕ) : Type 0 where
  pub file : is_file s ≡ true
  pub small : Smalls (settings_in s)

pub good-lawful : (s : List ℕ) → is_file s ≡ true → lawful (version_in s) (settings_in s) ≡ true
unfolding is_file
good-lawful s e = and_right (as_written (version_in s) s) _ e

pub record Made (v : Version) (t : List ℕ) (es : List Entry) : Type 0 where
  pub good : Good t
  pub version : version_in t ≡ v
  pub holds : settings_in t ≡ es

-- lawful entries written are a file that holds them
pub made : (v : Version) (es : List Entry) → Known v → lawful v es ≡ true → Smalls es → Made v (file_of v es) es
unfolding is_file as_written settings_in
made v es k h m =
    let t : List ℕ = file_of v es in
    let x = fits v es k h in
    let e : version_in t ≡ v = version_in_lem t v k (version-back v es) in
    let r : entries_in v t ≡ es = entries_in_lem v es m x.few x.low x.short x.some in
    let q : settings_in t ≡ es = ap (λ (u : Version). entries_in u t) e ∙ r in
    record {
      good = record {
        file = both _ _
            (ap (λ (u : Version). same (file_of u (entries_in u t)) t) e ∙ ap (λ (xs : List Entry). same (file_of v xs) t) r ∙ same_self t)
            (ap₂ lawful e q ∙ h);
        small = subst Smalls (sym q) m;
      };
      version = e;
      holds = q;
    }

-- ---- the two calls

-- the version in which they write entries in place of those of a file
abbrev pub written_in : List ℕ → List Entry → Version
written_in s es = version_for (version_in s) (junctions es)

put_numbered : (s : List ℕ) (j : ℕ) (r : Record) (room : ℕ) → T (numbered (put_tests s j r room))
unfolding put_tests record_tests rate_tests empty_tests empty_test list_from
put_numbered s j r room = tt

pub record PutPassed (s : List ℕ) (c : PutCall) : Type 0 where
  pub own : None (record_tests c.cp)
  pub file : is_file s ≡ true
  pub few : few version_two (put c.junction (cp_bytes c.cp) (settings_in s)) ≡ true
  pub fits : length (put_file s c.junction (cp_bytes c.cp)) ≤ length c.out

pub put_passed : (s : List ℕ) (c : PutCall) → accepted (put_refusal s c) ≡ true → PutPassed s c
unfolding put_refusal put_tests
put_passed s c e =
    let n = none_first (put_tests s c.junction c.cp (length c.out)) (put_numbered s c.junction c.cp (length c.out))
    (eqb-true _ 0 e) in
    let p = none_split (record_tests c.cp) _ n in
    record {
      own = p.0;
      file = not-false _ p.1.0;
      few = not-false _ p.1.1.0;
      fits = ltb-false (length c.out) _ p.1.1.1.0;
    }

pub record BackPassed (s : List ℕ) (c : BackCall) : Type 0 where
  pub file : is_file s ≡ true
  pub has : there (find 1 c.junction (settings_in s)) ≡ true
  pub fits : length (back_file s c.junction) ≤ length c.out

pub back_passed : (s : List ℕ) (c : BackCall) → accepted (back_refusal s c) ≡ true → BackPassed s c
unfolding back_refusal back_tests
back_passed s c e =
    let p = none_first (back_tests s c.junction (length c.out)) tt (eqb-true _ 0 e) in
    record { file = not-false _ p.0; has = not-false _ p.1.0; fits = ltb-false (length c.out) _ p.1.1.0 }

-- a put, its record's own refusals past
module _ (s : List ℕ) (j : ℕ) (r : Record) (shaped : Shaped r) (own : None (record_tests r)) (file : is_file s ≡ true)
    (room : few version_two (put j (cp_bytes r) (settings_in s)) ≡ true) where
  abbrev cp : List ℕ
  cp = cp_bytes r

  put-lawful : lawful (written_in s (put j cp (settings_in s))) (put j cp (settings_in s)) ≡ true
  unfolding put
  put-lawful =
      let es : List Entry = settings_in s in
      let law = good-lawful s file in
      replace-lawful (version_in s) (written_in s (put j cp es)) j cp (find 0 j es) es law (readable-cp r shaped own)
      (found-readable 0 j 1 es (lawful-read (version_in s) es law)) (few_for (version_in s) (put j cp es) room)

  put-smalls : Good s → j < 65536 → Smalls (put j cp (settings_in s))
  unfolding put
  put-smalls g h =
      let es : List Entry = settings_in s in
      let l : length cp < 256 = omega (arith, readable-short cp (readable-cp r shaped own)) in
      smalls-replace j (pair j (some cp) (find 0 j es)) es (pair_smalls j cp (find 0 j es) h l (found-smalls 0 j 1 es h g.small))
      g.small

pub put-kept : (s : List ℕ) (c : PutCall) → Shaped c.cp → accepted (put_refusal s c) ≡ true
    → (let es = put c.junction (cp_bytes c.cp) (settings_in s) in lawful (written_in s es) es ≡ true)
put-kept s c shaped e =
    let p = put_passed s c e in
    put-lawful s c.junction c.cp shaped p.own p.file p.few

pub put_made : (s : List ℕ) (c : PutCall) → Good s → c.junction < 65536 → Shaped c.cp → accepted (put_refusal s c) ≡ true
    → (let es = put c.junction (cp_bytes c.cp) (settings_in s) in Made (written_in s es) (put_file s c.junction (cp_bytes c.cp)) es)
unfolding put_file
put_made s c g h shaped e =
    let p = put_passed s c e in
    made _ _ (known_for (version_in s) _ (known_in s)) (put-kept s c shaped e)
    (put-smalls s c.junction c.cp shaped p.own p.file p.few g h)

-- going back, where the previous setting is x
module _ (s : List ℕ) (j : ℕ) (file : is_file s ≡ true) (x : List ℕ) (q : find 1 j (settings_in s) ≡ some x) where
  abbrev es : List Entry
  es = settings_in s

  law : lawful (version_in s) es ≡ true
  law = good-lawful s file

  back-put : back j es ≡ replace j (pair j (some x) (find 0 j es)) es
  unfolding back
  back-put = ap (λ (o : Option (List ℕ)). replace j (pair j o (find 0 j es)) es) q

  read : readable x ≡ true
  read =
      one-readable j x
      (ap (λ (o : Option (List ℕ)). all_readable (entry 1 j o)) (sym q) ∙ found-readable 1 j 1 es (lawful-read (version_in s) es law))

  -- no junction more
  same-many : junctions (replace j (pair j (some x) (find 0 j es)) es) ≡ 0 + junctions es
  same-many =
      let order = lawful_order (version_in s) es law in
      junctions-put j x (find 0 j es) es order
      ∙ ap (λ (b : Bool). cond b 0 1 + junctions es) (current-there j es order (ap there q))

  room : few (version_in s) (replace j (pair j (some x) (find 0 j es)) es) ≡ true
  unfolding few
  room = le-leb _ (version_in s).most (omega (arith, same-many, lawful-most (version_in s) es law))

  lawful_some : lawful (version_in s) (back j es) ≡ true
  lawful_some =
      ap (lawful (version_in s)) back-put
      ∙ replace-lawful (version_in s) (version_in s) j x (find 0 j es) es law read
      (found-readable 0 j 1 es (lawful-read (version_in s) es law)) room

  smalls_some : j < 65536 → Smalls es → Smalls (back j es)
  smalls_some h m =
      subst Smalls (sym back-put)
      (smalls-replace j (pair j (some x) (find 0 j es)) es
      (pair_smalls j x (find 0 j es) h (omega (arith, readable-short x read)) (found-smalls 0 j 1 es h m)) m)

pub some_there : (o : Option (List ℕ)) → there o ≡ true → (x : List ℕ) × (o ≡ some x)
some_there none t = absurd (let z : ◌≡◌ {A = ℕ} 0 1 = ap (λ (b : Bool). cond b 1 0) t in omega arith)
some_there (some x) t = (x, refl)

pub back-kept : (s : List ℕ) (c : BackCall) → accepted (back_refusal s c) ≡ true
    → lawful (version_in s) (back c.junction (settings_in s)) ≡ true
back-kept s c e =
    let p = back_passed s c e in
    let x = some_there (find 1 c.junction (settings_in s)) p.has in
    lawful_some s c.junction p.file x.0 x.1

pub back_made : (s : List ℕ) (c : BackCall) → Good s → c.junction < 65536 → accepted (back_refusal s c) ≡ true
    → (let es = back c.junction (settings_in s) in Made (written_in s es) (back_file s c.junction) es)
unfolding back_file
back_made s c g h e =
    let p = back_passed s c e in
    let x = some_there (find 1 c.junction (settings_in s)) p.has in
    let es : List Entry = back c.junction (settings_in s) in
    let law = back-kept s c e in
    subst (λ (v : Version). Made v (file_of (version_in s) es) es) (sym (lawful_stays (version_in s) es law))
    (made (version_in s) _ (known_in s) law (smalls_some s c.junction p.file x.0 x.1 h g.small))

-- ---- no junction goes

pub put_more : (s : List ℕ) (j : ℕ) (cp : List ℕ) → is_file s ≡ true → junctions (settings_in s) ≤ junctions (put j cp (settings_in s))
unfolding put
put_more s j cp file =
    let es : List Entry = settings_in s in
    omega (arith, junctions-put j cp (find 0 j es) es (lawful_order (version_in s) es (good-lawful s file)))

pub back-same : (s : List ℕ) (c : BackCall) → accepted (back_refusal s c) ≡ true
    → junctions (back c.junction (settings_in s)) ≡ 0 + junctions (settings_in s)
back-same s c e =
    let p = back_passed s c e in
    let x = some_there (find 1 c.junction (settings_in s)) p.has in
    ap junctions (back-put s c.junction p.file x.0 x.1) ∙ same-many s c.junction p.file x.0 x.1
