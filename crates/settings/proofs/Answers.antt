-- Each way out of the three entries. Assumes nothing.
use mathlib.Core.Path.{◌≡◌, refl, sym, ap, ap₂, subst, ◌∙◌}
use mathlib.Core.Option.{Option, some}
use Prim.Native.Nat.{ℕ, ◌+◌, ◌/◌, ◌<◌, ◌≤◌}
use mathlib.Core.Bool.{Bool, true, false, cond, true≢false}
use mathlib.Core.List.{List, [], ◌∷◌}
use native.Mathlib.Omega.{arith}
use borrow.Author.Tests.{eqb-true, lt-leb, le-leb}
use lib.Dec.{eqb}
use lib.ListN.{length, drop, take}
use lib.Seq.{take_at}
use Rattle.standard.specs.First.{Answer, bare, first}
use Rattle.standard.specs.Bits.{bytes_for}
use Rattle.standard.specs.Record.{top_index}
use Rattle.standard.specs.Cp.{cp_byte_count, cp_bytes}
use Rattle.standard.specs.Refusals.{outcome_answer, refusal_answer, record_tests, read_tests}
use Rattle.standard.specs.Settings.{version_two, version_in, version_for, Entry, file_of, entries_in, settings_in, find}
use Rattle.standard.specs.Settings.{there, below, entry, replace, put, back, put_file, back_file, junctions, few, bit_count_of, readable}
use Rattle.standard.specs.Settings.{all_readable, is_file, file_broken, put_tests, back_tests, look_tests}
use Rattle.standard.specs.Calls.{accepted, over, written_length, written_out, read_call, read_refusal, read_record, write_call, write_refusal}
use Rattle.standard.specs.Calls.{write_bit_count, write_bytes, PutCall, put_refusal, BackCall, back_refusal, look_refusal, record_of, look_record}
use Rattle.standard.specs.declared.Record.{Record}
use Rattle.standard.specs.declared.Refusal.{Refusal}
use Rattle.standard.specs.declared.Version.{Version}
use Rattle.standard.proofs.First.{None, none_first, first-none, first-append}
use Rattle.standard.proofs.Refusals.{read_numbered}
use Rattle.standard.proofs.Stages.{stage_hit, refused_not}
use Rattle.theorems_settings.specs.Walk.{rising}
use Rattle.theorems_settings.proofs.Logic.{and_right}
use Rattle.theorems_settings.proofs.Shown.{pair}
use Rattle.theorems_settings.proofs.Readable.{length-cp, record_write, record_top}
use Rattle.theorems_settings.proofs.Bounds.{lawful_order, lawful-read}
use Rattle.theorems_settings.proofs.Keeps.{junctions-put, good-lawful, found-readable, one-readable}
use Rattle.std.specs.Prelude as std
use Rattle.std.specs.Prelude.{Result, Ok, Err, IfOk, is_none}
use Rattle.std.specs.Int.{from_bool}
use denote.Ref.{Bor}
use Rattle.laying.specs.Laying.{given}
use Rattle.entries.specs.Entries.{listed}
use Rattle.rewriting.specs.Rewriting.{own_entries, rewritten, written_refusal}
use Rattle.places.specs.declared.Found.{Found}
use Rattle.places.specs.Finding.{FoundIn}
use Rattle.settings.specs.Putting.{cp_put_tests, cp_put_refusal, number_shown}
use Rattle.settings.proofs.Options.{none_counts}
use Rattle.settings.proofs.Finding.{replace_is, current_is, previous_is}

-- ---- a call that writes a file

-- a refusal leaves the buffer as it is
pub refused_keeps : (x : Refusal) (a : Answer) (t out : List ℕ) → refusal_answer x ≡ a → out ≡ written_out a t out
refused_keeps x a t out e =
    sym (ap (λ (b : Bool). cond b (over t out) out) (refused_not {X = ℕ} (Err x) x a refl e))

-- what is written of t under the answer a: the outcome, the length and the buffer
abbrev pub Writes : Answer → List ℕ → List ℕ → Result ℕ Refusal → List ℕ → Type 0
Writes a t out o x = (outcome_answer o ≡ a) × IfOk o (λ n. n ≡ written_length a t) × (x ≡ written_out a t out)

pub same_writes : (a b : Answer) (t u out : List ℕ) (o : Result ℕ Refusal) (x : List ℕ) → a ≡ b → t ≡ u → Writes a t out o x
    → Writes b u out o x
same_writes a b t u out o x p q h =
    subst (λ (y : List ℕ). Writes b y out o x) q (subst (λ (c : Answer). Writes c t out o x) p h)

-- ---- the settings of a file by the numbers found

module _ (b : Bor (List ℕ)) (j : ℕ) (e : is_file b.now ≡ true) (r : Found) (f : FoundIn b j r) where
  abbrev s : List ℕ
  s = b.now

  abbrev es : List Entry
  es = listed r.entries

  are : settings_in s ≡ es
  unfolding settings_in entries_in
  are = sym (ap listed f.entries)

  order : rising 0 false es ≡ true
  order = ap (rising 0 false) (sym are) ∙ lawful_order (version_in s) (settings_in s) (good-lawful s e)

  front : r.below ≡ length (below j es)
  front = f.front ∙ ap (λ (xs : List Entry). length (below j xs)) are

  end : r.upto ≡ length (below (j + 1) es)
  end = f.end ∙ ap (λ (xs : List Entry). length (below (j + 1) xs)) are

  pub current-shown : number_shown r 0 ≡ find 0 j (settings_in s)
  current-shown = sym (ap (find 0 j) are ∙ current_is r.entries j r.below r.upto order front end f.front_low f.end_low)

  pub previous-shown : number_shown r 1 ≡ find 1 j (settings_in s)
  previous-shown = sym (ap (find 1 j) are ∙ previous_is r.entries j r.below r.upto order front end f.front_low f.end_low)

  replaced : (own : List Entry) → replace j own (settings_in s) ≡ rewritten r.entries r.below r.upto own
  replaced own =
      ap (replace j own) are ∙ replace_is r.entries j r.below r.upto order front end f.front_low f.end_low own

  module _ (o : std.Option (Bor (List ℕ))) (shown : given o ≡ number_shown r 0) where
    -- the junctions after a put
    pub many_is : (cp : List ℕ) (one all : ℕ) → one ≡ from_bool (is_none o) → all ≡ junctions es
        → one + all ≡ junctions (put j cp (settings_in s))
    unfolding put
    many_is cp one all eo ea =
        ap₂ (λ (a b : ℕ). a + b)
        (eo ∙ none_counts o ∙ ap (λ (x : Option (List ℕ)). cond (there x) 0 1) (shown ∙ current-shown))
        (ea ∙ ap junctions (sym are))
        ∙ sym (junctions-put j cp (find 0 j (settings_in s)) (settings_in s) (lawful_order (version_in s) (settings_in s) (good-lawful s e)))

    module _ (i : ℕ) (same : i ≡ j) (x : Bor (List ℕ)) where
      pub put_is : (many : ℕ) → many ≡ junctions (put j x.now (settings_in s)) → (form : Version) → form ≡ version_for r.version many
          → file_of form (rewritten r.entries r.below r.upto (own_entries (record { junction = i; current = x; previous = o })))
          ≡ put_file s j x.now
      unfolding put_file put
      put_is many em form ef =
          ap₂ file_of (ef ∙ ap₂ version_for f.version em)
          (sym (replaced (own_entries (record { junction = i; current = x; previous = o })))
          ∙ ap (λ (own : List Entry). replace j own (settings_in s))
          (ap₂ (λ (m : ℕ) (p : Option (List ℕ)). pair m (some x.now) p) same (shown ∙ current-shown)))

      pub back_is : some x.now ≡ number_shown r 1
          → file_of r.version (rewritten r.entries r.below r.upto (own_entries (record { junction = i; current = x; previous = o })))
          ≡ back_file s j
      unfolding back_file back
      back_is h =
          ap₂ file_of f.version
          (sym (replaced (own_entries (record { junction = i; current = x; previous = o })))
          ∙ ap (λ (own : List Entry). replace j own (settings_in s))
          (ap₂ (λ (m : ℕ) (p : Option (List ℕ)). pair m (some x.now) p) same (shown ∙ current-shown)
          ∙ ap (λ (q : Option (List ℕ)). pair j q (find 0 j (settings_in s))) (h ∙ previous-shown)))

pub too_many : (es : List Entry) (many : ℕ) → many ≡ junctions es → 400 < many → few version_two es ≡ false
unfolding few
too_many es many e l = lt-leb (junctions es) 400 (omega arith)

pub not-many : (es : List Entry) (many : ℕ) → many ≡ junctions es → many ≤ 400 → few version_two es ≡ true
unfolding few
not-many es many e l = le-leb (junctions es) 400 (omega arith)

-- ---- a put, its record's own refusals past

-- the first test of a file
pub sound : (s : List ℕ) → is_file s ≡ true → bare 0 ≡ first (file_broken s ∷ [])
unfolding first
sound s e = rw e

pub broken : (s : List ℕ) → is_file s ≡ false → bare 22 ≡ first (file_broken s ∷ [])
unfolding first
broken s e = rw e

module _ (s : List ℕ) (j : ℕ) (cp : List ℕ) (room : ℕ) where
  pub cp-first : (x : Refusal) → refusal_answer x ≡ first (file_broken s ∷ []) → refusal_answer x ≡ cp_put_refusal s j cp room
  unfolding cp_put_refusal cp_put_tests
  cp-first x e = stage_hit {X = ℕ} (Err x) x (file_broken s ∷ []) _ refl e

  pub cp-many : is_file s ≡ true → few version_two (put j cp (settings_in s)) ≡ false → bare 24 ≡ cp_put_refusal s j cp room
  unfolding cp_put_refusal cp_put_tests first
  cp-many e m = rw (e, m)

  pub cp-past : is_file s ≡ true → few version_two (put j cp (settings_in s)) ≡ true
      → written_refusal room (put_file s j cp) ≡ cp_put_refusal s j cp room
  unfolding cp_put_refusal cp_put_tests written_refusal first
  cp-past e m = rw (e, m)

-- ---- a put

module _ (s : List ℕ) (c : PutCall) where
  pub put-own : (x : Refusal) → refusal_answer x ≡ first (record_tests c.cp) → refusal_answer x ≡ put_refusal s c
  unfolding put_refusal put_tests
  put-own x e = stage_hit {X = ℕ} (Err x) x (record_tests c.cp) _ refl e

  pub put-past : None (record_tests c.cp) → cp_put_refusal s c.junction (cp_bytes c.cp) (length c.out) ≡ put_refusal s c
  unfolding put_refusal put_tests cp_put_refusal cp_put_tests
  put-past n = sym (first-append (record_tests c.cp) _ n)

-- the CP that the writer leaves in a buffer of 122 bytes
module _ (r : Record) (b : List ℕ) (long : length b ≡ 122) (n : None (record_tests r)) where
  short : cp_byte_count (top_index r) ≤ 122
  short = let t = record_top r n in omega (arith, t)

  done : accepted (write_refusal (write_call r b)) ≡ true
  done = record_write r b (omega (arith, short)) n

  -- so the writer does not refuse it
  pub never : (x : Refusal) → refusal_answer x ≡ write_refusal (write_call r b) → ⊥
  never x e = true≢false (sym done ∙ refused_not {X = ℕ} (Err x) x (write_refusal (write_call r b)) refl e)

  pub count_is : (k : ℕ) → k ≡ write_bit_count (write_call r b) → ((k + 7) / 8 ≡ cp_byte_count (top_index r)) × ((k + 7) / 8 ≤ 122)
  unfolding write_bit_count
  count_is k e =
      let q : (k + 7) / 8 ≡ cp_byte_count (top_index r) = ap bytes_for (e ∙ rw done) in
      (q, omega (arith, short))

  pub cp-is : (k : ℕ) (t : List ℕ) → k ≡ write_bit_count (write_call r b) → t ≡ write_bytes (write_call r b) → take ((k + 7) / 8) t ≡ cp_bytes r
  unfolding write_bytes
  cp-is k t e et =
      let x : t ≡ over (cp_bytes r) b = et ∙ rw done in
      ap (take ((k + 7) / 8)) x ∙ take_at (cp_bytes r) (drop (length (cp_bytes r)) b) ((k + 7) / 8) (length-cp r ∙ sym (count_is k e).0)

-- ---- going back

module _ (s : List ℕ) (c : BackCall) where
  pub back-first : (x : Refusal) → refusal_answer x ≡ first (file_broken s ∷ []) → refusal_answer x ≡ back_refusal s c
  unfolding back_refusal back_tests
  back-first x e = stage_hit {X = ℕ} (Err x) x (file_broken s ∷ []) _ refl e

  pub back-missing : is_file s ≡ true → there (find 1 c.junction (settings_in s)) ≡ false → bare 23 ≡ back_refusal s c
  unfolding back_refusal back_tests first
  back-missing e m = rw (e, m)

  pub back-past : is_file s ≡ true → there (find 1 c.junction (settings_in s)) ≡ true
      → written_refusal (length c.out) (back_file s c.junction) ≡ back_refusal s c
  unfolding back_refusal back_tests written_refusal first
  back-past e m = rw (e, m)

-- ---- looking up

reads : (cp : List ℕ) → readable cp ≡ true → read_refusal (read_call cp (bit_count_of (length cp))) ≡ bare 0
unfolding readable read_refusal
reads cp c =
    let n : ℕ = bit_count_of (length cp) in
    first-none (read_tests cp n)
    (none_first (read_tests cp n) (read_numbered cp n) (eqb-true _ 0 (and_right (eqb (length cp) (bytes_for n)) _ c)))

module _ (s : List ℕ) (j : ℕ) where
  pub look-first : (x : Refusal) → refusal_answer x ≡ first (file_broken s ∷ []) → refusal_answer x ≡ look_refusal s j
  unfolding look_refusal look_tests
  look-first x e = stage_hit {X = ℕ} (Err x) x (file_broken s ∷ []) _ refl e

  pub look-missing : is_file s ≡ true → there (find 0 j (settings_in s)) ≡ false → bare 23 ≡ look_refusal s j
  unfolding look_refusal look_tests first
  look-missing e m = rw (e, m)

  look-past : is_file s ≡ true → there (find 0 j (settings_in s)) ≡ true → bare 0 ≡ look_refusal s j
  unfolding look_refusal look_tests first
  look-past e m = rw (e, m)

  -- a CP in a file is not refused, so its record is the one that is shown
  pub look-done : is_file s ≡ true → (cp : List ℕ) → find 0 j (settings_in s) ≡ some cp → (n : ℕ) → n ≡ bit_count_of (length cp)
      → (read_refusal (read_call cp n) ≡ look_refusal s j) × (read_record (read_call cp n) ≡ look_record s j)
  unfolding look_record record_of read_record
  look-done e cp q n en =
      let a = found-readable 0 j 1 (settings_in s) (lawful-read (version_in s) (settings_in s) (good-lawful s e)) in
      let c : readable cp ≡ true = one-readable j cp (ap (λ (x : Option (List ℕ)). all_readable (entry 1 j x)) (sym q) ∙ a) in
      let z : read_refusal (read_call cp n) ≡ bare 0 = ap (λ (k : ℕ). read_refusal (read_call cp k)) en ∙ reads cp c in
      let p : bare 0 ≡ look_refusal s j = look-past e (ap there q) in
      (z ∙ p, rw (z, ← p, q))
