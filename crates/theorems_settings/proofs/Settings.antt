-- What a settings file is, and what becomes of it over any list of puts and goings back. Assumes nothing.
use mathlib.Core.Path.{◌≡◌, refl, sym, ap, ap₂, subst, ◌∙◌}
use mathlib.Core.Logic.{◌⊎◌, inl, inr}
use mathlib.Core.Option.{Option, none, some}
use Prim.Native.Nat.{ℕ, ◌+◌, ◌<◌, ◌≤◌}
use mathlib.Core.Bool.{Bool, true, false, not, cond}
use mathlib.Core.List.{List, [], ◌∷◌, ◌++◌}
use native.Mathlib.Nat.{eq-zero-or-pos}
use native.Mathlib.Omega.{arith}
use borrow.Author.Tests.{eqb-true, eqb-false, lt-leb, leb-false}
use lib.Dec.{T, lit<, eqb, leb}
use lib.ListN.{length, take, drop}
use lib.Seq.{take-append_seam}
use Rattle.standard.specs.Lists.{list_from, after}
use Rattle.standard.specs.First.{bare, Test, test, first}
use Rattle.standard.specs.Record.{no_record}
use Rattle.standard.specs.Cp.{cp_bytes}
use Rattle.standard.specs.Refusals.{empty_test, empty_tests, rate_tests, record_tests}
use Rattle.standard.specs.Settings.{version_two, version_in, version_for, Entry, file_of, entries_in, settings_in, count_in, find, there, Shown}
use Rattle.standard.specs.Settings.{shown, put, back_file, as_written, junctions, few, lawful, is_file, put_tests, look_tests}
use Rattle.standard.specs.Calls.{accepted, over, PutCall, put_refusal, put_writes, put_length, put_out, BackCall, back_refusal}
use Rattle.standard.specs.Calls.{back_length, back_out, look_refusal, record_of, look_record}
use Rattle.standard.specs.declared.Record.{Record}
use Rattle.standard.specs.declared.Version.{Version}
use Rattle.standard.proofs.Lists.{after-append}
use Rattle.standard.proofs.First.{same_number, numbered, None, none_first, first-none, first-append, first-left, says, first_says}
use Rattle.standard.proofs.Refusals.{record_numbered}
use Rattle.theorems.specs.Runs.{over_calls}
use Rattle.theorems_cp.specs.RoundTrip.{Shaped}
use Rattle.theorems_settings.specs.Settings.{Bytes, Entries, FileIsEntries, FileCall, to_put, to_go_back, junction_of, Typed}
use Rattle.theorems_settings.specs.Settings.{answer_to, accepts, length_by, out_by, file_after, entries_after, most_bytes, CallKeeps}
use Rattle.theorems_settings.specs.Settings.{AllTyped, file_left, naming, shown_in, turned, turned_all, Looks, CallsSettle}
use Rattle.theorems_settings.specs.Settings.{FortyFirst, FourHundredFirst}
use Rattle.theorems_settings.proofs.Logic.{and_left}
use Rattle.theorems_settings.proofs.Shown.{put-current, put-previous, put_other, back-current, back-previous, back_other}
use Rattle.theorems_settings.proofs.Readable.{record_back}
use Rattle.theorems_settings.proofs.Bounds.{of_known, known_in, lawful_order, lawful-most, lawful_stays}
use Rattle.theorems_settings.proofs.Keeps.{junctions-put, same_is, smalls-at, Good, good-lawful, Made, made, put_passed, put_made}
use Rattle.theorems_settings.proofs.Keeps.{back_passed, back_made, some_there, written_in, put_more, back-same}
use Rattle.theorems_settings.proofs.Lengths.{file-length}

-- ---- a file and its entries

good : (s : List ℕ) → Bytes s → is_file s ≡ true → Good s
unfolding settings_in entries_in
good s b h = record { file = h; small = smalls-at (version_in s).start s b (count_in (version_in s) s) 0 }

bytes_are : (s : List ℕ) → is_file s ≡ true → file_of (version_in s) (settings_in s) ≡ s
unfolding is_file as_written settings_in
bytes_are s h = same_is _ s (and_left _ (lawful (version_in s) (settings_in s)) h)

of_them : (v : Version) (es : List Entry) → Entries v es → Made v (file_of v es) es
of_them v es h = made v es h.0 h.1 h.2

pub file_is_entries : FileIsEntries
file_is_entries =
    record {
      bytes = bytes_are;
      entries = λ s b h. (known_in s, good-lawful s h, (good s b h).small);
      file = λ v es h. (let m = of_them v es h in (m.good.file, m.version, m.holds));
      others = λ v u es ds h k e. (
        sym (of_them v es h).version ∙ ap version_in e ∙ (of_them u ds k).version,
        sym (of_them v es h).holds ∙ ap settings_in e ∙ (of_them u ds k).holds,
      );
    }

-- ---- one call

written : List ℕ → FileCall → List ℕ
written s (to_put c) = put_writes s c
written s (to_go_back c) = back_file s c.junction

handed : (b : Bool) (t out : List ℕ) → b ≡ true → take (cond b (length t) 0) (cond b (over t out) out) ≡ t
handed b t out e = rw e (take-append_seam t (drop (length t) out))

taken : (s : List ℕ) (c : FileCall) → accepts s c ≡ true → take (length_by s c) (out_by s c) ≡ written s c
unfolding answer_to length_by out_by written put_length put_out back_length back_out
taken s (to_put c) e = handed (accepted (put_refusal s c)) (put_writes s c) c.out e
taken s (to_go_back c) e = handed (accepted (back_refusal s c)) (back_file s c.junction) c.out e

-- the file after it, by whether it is accepted
after_by : (s : List ℕ) (c : FileCall) (b : Bool) → accepts s c ≡ b → file_after s c ≡ cond b (written s c) s
unfolding file_after
after_by s c true e = rw e (taken s c e)
after_by s c false e = rw e

abbrev MadeBy : List ℕ → FileCall → List ℕ → Type 0
MadeBy s c t = Made (written_in s (entries_after c (settings_in s))) t (entries_after c (settings_in s))

written_made : (s : List ℕ) (c : FileCall) → Typed c → Good s → accepts s c ≡ true → MadeBy s c (written s c)
unfolding answer_to written entries_after
written_made s (to_put c) t g e = put_made s c g t.0 t.1 e
written_made s (to_go_back c) t g e = back_made s c g t e

made_by : (s : List ℕ) (c : FileCall) → Typed c → Good s → accepts s c ≡ true → MadeBy s c (file_after s c)
made_by s c t g e = subst (MadeBy s c) (sym (after_by s c true e)) (written_made s c t g e)

keeps : (s : List ℕ) (c : FileCall) → Typed c → Good s → Good (file_after s c)
keeps s c t g = go (accepts s c) refl
  where
    go : (b : Bool) → accepts s c ≡ b → Good (file_after s c)
    go true e = (made_by s c t g e).good
    go false e = subst Good (sym (after_by s c false e)) g

had-file : (s : List ℕ) (c : FileCall) → accepts s c ≡ true → is_file s ≡ true
unfolding answer_to
had-file s (to_put c) e = (put_passed s c e).file
had-file s (to_go_back c) e = (back_passed s c e).file

length_by_lem : (s : List ℕ) (c : FileCall) → accepts s c ≡ true → length (written s c) ≡ length_by s c
unfolding answer_to length_by written put_length back_length
length_by_lem s (to_put c) e = rw e
length_by_lem s (to_go_back c) e = rw e

version_by : (s : List ℕ) (c : FileCall) → Typed c → Good s → accepts s c ≡ true
    → version_in (file_after s c) ≡ written_in s (settings_in (file_after s c))
version_by s c t g e = let m = made_by s c t g e in m.version ∙ ap (written_in s) (sym m.holds)

full : (t : List ℕ) → is_file t ≡ true → length t ≤ most_bytes (version_in t)
full t h = omega (arith, ap length (bytes_are t h), file-length (version_in t) (settings_in t) (good-lawful t h))

pub call_keeps : CallKeeps
call_keeps s b c t e =
    let h = had-file s c e in
    let m = made_by s c t (good s b h) e in
    let n = ap length (after_by s c true e) ∙ length_by_lem s c e in
    record {
      had = h;
      file = m.good.file;
      version = version_by s c t (good s b h) e;
      long = n;
      most = omega (arith, n, full (file_after s c) m.good.file);
      holds = m.holds;
    }

-- ---- what a junction shows after one call

two : Option (List ℕ) → Option (List ℕ) → Shown
two x y = record { current = x; previous = y }

here : (c : FileCall) (es : List Entry) → shown (junction_of c) (entries_after c es) ≡ turned (shown (junction_of c) es) c
unfolding entries_after turned two
here (to_put c) es = ap₂ two (put-current c.junction (cp_bytes c.cp) es) (put-previous c.junction (cp_bytes c.cp) es)
here (to_go_back c) es = ap₂ two (back-current c.junction es) (back-previous c.junction es)

elsewhere : (c : FileCall) (j : ℕ) (es : List Entry) → (junction_of c ≡ j → ⊥) → shown j (entries_after c es) ≡ shown j es
unfolding entries_after two
elsewhere (to_put c) j es h =
    ap₂ two (put_other 0 j c.junction (cp_bytes c.cp) es (λ q. h (sym q)))
    (put_other 1 j c.junction (cp_bytes c.cp) es (λ q. h (sym q)))
elsewhere (to_go_back c) j es h =
    ap₂ two (back_other 0 j c.junction es (λ q. h (sym q))) (back_other 1 j c.junction es (λ q. h (sym q)))

-- the call itself where it is accepted and names j
if_naming : ℕ → FileCall → Bool → Bool → List FileCall
if_naming j c a b = cond a (cond b (c ∷ []) []) []

shown_by : (j : ℕ) (s : List ℕ) (c : FileCall) → Typed c → Good s → (a b : Bool) → accepts s c ≡ a → eqb (junction_of c) j ≡ b
    → shown_in j (file_after s c) ≡ turned_all (shown_in j s) (if_naming j c a b)
unfolding after if_naming
shown_by j s c t g false b ea eb = ap (shown_in j) (after_by s c false ea)
shown_by j s c t g true true ea eb =
    let q : junction_of c ≡ j = eqb-true (junction_of c) j eb in
    ap (shown j) (made_by s c t g ea).holds
    ∙ subst (λ (i : ℕ). shown i (entries_after c (settings_in s)) ≡ turned (shown i (settings_in s)) c) q (here c (settings_in s))
shown_by j s c t g true false ea eb =
    ap (shown j) (made_by s c t g ea).holds ∙ elsewhere c j (settings_in s) (eqb-false (junction_of c) j eb)

abbrev own_part : ℕ → List ℕ → FileCall → List FileCall
own_part j s c = if_naming j c (accepts s c) (eqb (junction_of c) j)

shown-after : (j : ℕ) (s : List ℕ) (c : FileCall) → Typed c → Good s → shown_in j (file_after s c) ≡ turned_all (shown_in j s) (own_part j s c)
shown-after j s c t g = shown_by j s c t g (accepts s c) (eqb (junction_of c) j) refl refl

-- ---- and after a list of them

naming-none : (j : ℕ) (s : List ℕ) → naming j s [] ≡ []
unfolding naming over_calls
naming-none j s = refl

naming-cons : (j : ℕ) (s : List ℕ) (c : FileCall) (cs : List FileCall) → naming j s (c ∷ cs) ≡ own_part j s c ++ naming j (file_after s c) cs
unfolding naming over_calls if_naming
naming-cons j s c cs = refl

turned-append : (x : Shown) (cs ds : List FileCall) → turned_all x (cs ++ ds) ≡ turned_all (turned_all x cs) ds
turned-append = after-append turned

stays : (s : List ℕ) (cs : List FileCall) → AllTyped cs → Good s → Good (file_left s cs)
unfolding after AllTyped
stays s [] t g = g
stays s (c ∷ cs) t g = stays (file_after s c) cs t.1 (keeps s c t.0 g)

-- the version is that of the junctions that there are, since none goes
more : (s : List ℕ) (c : FileCall) → accepts s c ≡ true → junctions (settings_in s) ≤ junctions (entries_after c (settings_in s))
unfolding answer_to entries_after
more s (to_put c) e = put_more s c.junction (cp_bytes c.cp) (put_passed s c e).file
more s (to_go_back c) e = omega (arith, back-same s c e)

record Grown (s t : List ℕ) : Type 0 where
  version : version_in t ≡ written_in s (settings_in t)
  more : junctions (settings_in s) ≤ junctions (settings_in t)

grown_same : (s : List ℕ) → Good s → Grown s s
grown_same s g = record { version = sym (lawful_stays (version_in s) (settings_in s) (good-lawful s g.file)); more = omega arith }

grown_call : (s : List ℕ) (c : FileCall) → Typed c → Good s → Grown s (file_after s c)
grown_call s c t g = go (accepts s c) refl
  where
    go : (b : Bool) → accepts s c ≡ b → Grown s (file_after s c)
    go true e = record { version = version_by s c t g e; more = omega (arith, more s c e, ap junctions (made_by s c t g e).holds) }
    go false e = subst (Grown s) (sym (after_by s c false e)) (grown_same s g)

two_only : (b : Bool) → cond b version_two version_two ≡ version_two
two_only true = refl
two_only false = refl

for_more : (v : Version) (n m : ℕ) → n ≤ m → version_for (version_for v n) m ≡ version_for v m
unfolding version_for
for_more v n m h = go (leb n v.most) refl
  where
    go : (b : Bool) → leb n v.most ≡ b → version_for (cond b v version_two) m ≡ version_for v m
    go true e = refl
    go false e =
        let l : v.most < m = omega (arith, leb-false n v.most e) in
        two_only (leb m 400) ∙ ap (λ (b : Bool). cond b v version_two) (sym (lt-leb m v.most l))

grown : (s : List ℕ) (cs : List FileCall) → AllTyped cs → Good s → Grown s (file_left s cs)
unfolding after AllTyped
grown s [] t g = grown_same s g
grown s (c ∷ cs) t g =
    let one = grown_call s c t.0 g in
    let rest = grown (file_after s c) cs t.1 (keeps s c t.0 g) in
    let n : ℕ = junctions (settings_in (file_left (file_after s c) cs)) in
    record {
      version = rest.version ∙ ap (λ (v : Version). version_for v n) one.version ∙ for_more (version_in s) _ n rest.more;
      more = omega (arith, one.more, rest.more);
    }

own : (j : ℕ) (s : List ℕ) (cs : List FileCall) → AllTyped cs → Good s → shown_in j (file_left s cs) ≡ turned_all (shown_in j s) (naming j s cs)
unfolding after AllTyped
own j s [] t g = ap (turned_all (shown_in j s)) (sym (naming-none j s))
own j s (c ∷ cs) t g =
    own j (file_after s c) cs t.1 (keeps s c t.0 g)
    ∙ ap (λ (x : Shown). turned_all x (naming j (file_after s c) cs)) (shown-after j s c t.0 g)
    ∙ sym (turned-append (shown_in j s) (own_part j s c) (naming j (file_after s c) cs))
    ∙ ap (turned_all (shown_in j s)) (sym (naming-cons j s c cs))

-- what an accepted call has passed, where its junction shows x
Fine : Shown → FileCall → Type 0
Fine x (to_put c) = None (record_tests c.cp) × Shaped c.cp
Fine x (to_go_back c) = there x.previous ≡ true

AllFine : Shown → List FileCall → Type 0
AllFine x [] = Unit {0}
AllFine x (c ∷ cs) = Fine x c × AllFine (turned x c) cs

fine : (s : List ℕ) (c : FileCall) → Typed c → accepts s c ≡ true → Fine (shown_in (junction_of c) s) c
unfolding answer_to Fine
fine s (to_put c) t e = ((put_passed s c e).own, t.1)
fine s (to_go_back c) t e = (back_passed s c e).has

fine_part : (j : ℕ) (s : List ℕ) (c : FileCall) → Typed c → (a b : Bool) → accepts s c ≡ a → eqb (junction_of c) j ≡ b
    → AllFine (shown_in j s) (if_naming j c a b)
unfolding if_naming AllFine
fine_part j s c t false b ea eb = tt
fine_part j s c t true false ea eb = tt
fine_part j s c t true true ea eb = (subst (λ (i : ℕ). Fine (shown_in i s) c) (eqb-true (junction_of c) j eb) (fine s c t ea), tt)

fine_append : (x : Shown) (cs ds : List FileCall) → AllFine x cs → AllFine (turned_all x cs) ds → AllFine x (cs ++ ds)
unfolding AllFine after
fine_append x [] ds p q = q
fine_append x (c ∷ cs) ds p q = (p.0, fine_append (turned x c) cs ds p.1 q)

fine_naming : (j : ℕ) (s : List ℕ) (cs : List FileCall) → AllTyped cs → Good s → AllFine (shown_in j s) (naming j s cs)
unfolding AllTyped AllFine
fine_naming j s [] t g = subst (AllFine (shown_in j s)) (sym (naming-none j s)) tt
fine_naming j s (c ∷ cs) t g =
    subst (AllFine (shown_in j s)) (sym (naming-cons j s c cs))
    (fine_append (shown_in j s) (own_part j s c) (naming j (file_after s c) cs)
    (fine_part j s c t.0 (accepts s c) (eqb (junction_of c) j) refl refl)
    (subst (λ (x : Shown). AllFine x (naming j (file_after s c) cs)) (shown-after j s c t.0 g)
    (fine_naming j (file_after s c) cs t.1 (keeps s c t.0 g))))

fine_last : (x : Shown) (cs : List FileCall) (c : FileCall) → AllFine x (cs ++ (c ∷ [])) → Fine (turned_all x cs) c
unfolding AllFine after
fine_last x [] c p = p.0
fine_last x (d ∷ cs) c p = fine_last (turned x d) cs c p.1

-- ---- looking up

looks_up : (t : List ℕ) (j : ℕ) (cp : List ℕ) → is_file t ≡ true → (shown_in j t).current ≡ some cp → Looks t j cp
unfolding look_refusal look_record look_tests record_of
looks_up t j cp h e =
    let done : accepted (look_refusal t j) ≡ true
    = ap accepted (first-none (look_tests t j) (ap not h, (ap (λ (o : Option (List ℕ)). not (there o)) e, tt))) in
    (done, ap₂ (λ (b : Bool) (o : Option (List ℕ)). cond b (record_of o) no_record) done e)

not_there : (t : List ℕ) (j : ℕ) → is_file t ≡ true → (shown_in j t).current ≡ none → look_refusal t j ≡ bare 23
unfolding look_refusal look_tests first
not_there t j h e = rw (h, e)

-- ---- the statement

module _ (s : List ℕ) (cs : List FileCall) (t : AllTyped cs) (g : Good s) (j : ℕ) where
  abbrev end : List ℕ
  end = file_left s cs

  by_last : (before : List FileCall) (c : FileCall) → naming j s cs ≡ before ++ (c ∷ [])
      → shown_in j end ≡ turned (turned_all (shown_in j s) before) c
  unfolding after
  by_last before c e = own j s cs t g ∙ ap (turned_all (shown_in j s)) e ∙ turned-append (shown_in j s) before (c ∷ [])

  last_fine : (before : List FileCall) (c : FileCall) → naming j s cs ≡ before ++ (c ∷ []) → Fine (turned_all (shown_in j s) before) c
  last_fine before c e = fine_last (shown_in j s) before c (subst (AllFine (shown_in j s)) e (fine_naming j s cs t g))

  last_put_lem : (before : List FileCall) (c : PutCall) → naming j s cs ≡ before ++ (to_put c ∷ [])
      → (accepted (look_refusal end j) ≡ true) × (look_record end j ≡ c.cp)
      × ((shown_in j end).previous ≡ (turned_all (shown_in j s) before).current)
  unfolding turned Fine
  last_put_lem before c e =
      let f = last_fine before (to_put c) e in
      let q = by_last before (to_put c) e in
      let k = looks_up end j (cp_bytes c.cp) (stays s cs t g).file (ap (λ (x : Shown). x.current) q) in
      (k.0, k.1 ∙ record_back c.cp f.1 f.0, ap (λ (x : Shown). x.previous) q)

  last_back_lem : (before : List FileCall) (c : BackCall) → naming j s cs ≡ before ++ (to_go_back c ∷ [])
      → (cp : List ℕ) × ((turned_all (shown_in j s) before).previous ≡ some cp) × Looks end j cp
      × ((shown_in j end).previous ≡ (turned_all (shown_in j s) before).current)
  unfolding turned Fine
  last_back_lem before c e =
      let x = some_there (turned_all (shown_in j s) before).previous (last_fine before (to_go_back c) e) in
      let q = by_last before (to_go_back c) e in
      let k = looks_up end j x.0 (stays s cs t g).file (ap (λ (y : Shown). y.current) q ∙ x.1) in
      (x.0, x.1, k, ap (λ (y : Shown). y.previous) q)

  back-twice : (before : List FileCall) (c d : BackCall) → naming j s cs ≡ before ++ (to_go_back c ∷ to_go_back d ∷ [])
      → shown_in j end ≡ turned_all (shown_in j s) before
  unfolding after turned
  back-twice before c d e =
      own j s cs t g ∙ ap (turned_all (shown_in j s)) e ∙ turned-append (shown_in j s) before (to_go_back c ∷ to_go_back d ∷ [])

pub calls_settle : CallsSettle
unfolding after
calls_settle s b h cs t =
    let g = good s b h in
    let f = (stays s cs t g).file in
    record {
      file = f;
      version = (grown s cs t g).version;
      own = λ j. own j s cs t g;
      looks = λ j cp e. looks_up (file_left s cs) j cp f e;
      missing = λ j e. not_there (file_left s cs) j f e;
      last_put = λ j before c e. last_put_lem s cs t g j before c e;
      last_back = λ j before c e. last_back_lem s cs t g j before c e;
      twice = λ j before c d e. back-twice s cs t g j before c d e;
      kept = λ j e. own j s cs t g ∙ ap (turned_all (shown_in j s)) e;
    }

-- ---- junctions more

pub forty_first : FortyFirst
unfolding entries_after put version_for
forty_first s b c t e v n o =
    let k = call_keeps s b (to_put c) t e in
    let es : List Entry = settings_in s in
    let m : junctions (settings_in (file_after s (to_put c))) ≡ 41
    = ap junctions k.holds
    ∙ junctions-put c.junction (cp_bytes c.cp) (find 0 c.junction es) es (lawful_order (version_in s) es (good-lawful s k.had))
    ∙ ap₂ (λ (x : Option (List ℕ)) (i : ℕ). cond (there x) 0 1 + i) o n in
    (k.version ∙ ap₂ version_for v m, λ j h. ap (shown j) k.holds ∙ elsewhere (to_put c) j es h)

-- what is answered where the file is broken
broken_first : (ts us : List Test) → T (numbered ts) → says 24 ts ≡ false → (first (ts ++ (test 22 true ∷ us))).number ≡ 24 → ⊥
unfolding first
broken_first ts us t n e = go (eq-zero-or-pos (first ts).number)
  where
    go : ((first ts).number ≡ 0) ⊎ (0 < (first ts).number) → ⊥
    go (inl z) = let q = sym (same_number (first-append ts (test 22 true ∷ us) (none_first ts t z))) ∙ e in omega arith
    go (inr p) = first_says 24 ts (lit< tt) n (sym (same_number (first-left ts (test 22 true ∷ us) p)) ∙ e)

record_not_24 : (r : Record) → says 24 (record_tests r) ≡ false
unfolding record_tests rate_tests empty_tests empty_test list_from
record_not_24 r = refl

put-not_24 : (s : List ℕ) (c : PutCall) → few version_two (put c.junction (cp_bytes c.cp) (settings_in s)) ≡ true
    → says 24 (put_tests s c.junction c.cp (length c.out)) ≡ false
unfolding put_tests record_tests rate_tests empty_tests empty_test list_from
put-not_24 s c e = rw e refl

-- a put that makes more junctions than version 2 may hold
one_more : (s : List ℕ) (j : ℕ) (cp : List ℕ) → is_file s ≡ true → few version_two (put j cp (settings_in s)) ≡ false
    → (junctions (settings_in s) ≡ 400) × (find 0 j (settings_in s) ≡ none)
unfolding few put
one_more s j cp h e =
    let es : List Entry = settings_in s in
    let law = good-lawful s h in
    let most = of_known (λ v. v.most ≤ 400) (omega arith) (omega arith) (version_in s) (known_in s) in
    go (find 0 j es) refl (junctions-put j cp (find 0 j es) es (lawful_order (version_in s) es law))
    (omega (arith, lawful-most (version_in s) es law)) (leb-false _ 400 e)
  where
    go : (o : Option (List ℕ)) → find 0 j (settings_in s) ≡ o
        → junctions (put j cp (settings_in s)) ≡ cond (there (find 0 j (settings_in s))) 0 1 + junctions (settings_in s)
        → junctions (settings_in s) ≤ 400 → 400 < junctions (put j cp (settings_in s))
        → (junctions (settings_in s) ≡ 400) × (find 0 j (settings_in s) ≡ none)
    go none q n l m = (omega (arith, n ∙ ap (λ (o : Option (List ℕ)). cond (there o) 0 1 + junctions (settings_in s)) q), q)
    go (some x) q n l m =
        let z : ⊥ = omega (arith, n ∙ ap (λ (o : Option (List ℕ)). cond (there o) 0 1 + junctions (settings_in s)) q) in
        absurd z

pub four_hundred_first : FourHundredFirst
unfolding put_refusal put_tests
four_hundred_first s c n = go (is_file s) refl
  where
    full : is_file s ≡ true → (b : Bool) → few version_two (put c.junction (cp_bytes c.cp) (settings_in s)) ≡ b
        → (junctions (settings_in s) ≡ 400) × ((shown_in c.junction s).current ≡ none)
    full h true e = absurd (first_says 24 _ (lit< tt) (put-not_24 s c e) n)
    full h false e = one_more s c.junction (cp_bytes c.cp) h e

    go : (b : Bool) → is_file s ≡ b → (junctions (settings_in s) ≡ 400) × ((shown_in c.junction s).current ≡ none)
    go false h = absurd (broken_first (record_tests c.cp) _ (record_numbered c.cp) (record_not_24 c.cp) (rw h at n))
    go true h = full h (few version_two (put c.junction (cp_bytes c.cp) (settings_in s))) refl
