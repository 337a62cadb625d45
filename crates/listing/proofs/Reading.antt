-- The entry at a place, step by step. Assumes nothing.
use mathlib.Core.Path.{◌≡◌, refl, sym, ap, ap₂, ◌∙◌}
use Prim.Native.Nat.{ℕ, ◌+◌, ◌-◌, ◌<◌, ◌≤◌}
use mathlib.Core.Bool.{Bool, true, false, not, cond}
use mathlib.Core.List.{List}
use native.Mathlib.Decide.{dec_le}
use native.Mathlib.Omega.{arith}
use borrow.Author.Tests.{lt-leb, le-leb, leb-true}
use lib.Dec.{eqb, leb}
use lib.ListN.{length, get_or, take, drop}
use Rattle.standard.specs.Record.{no_record}
use Rattle.standard.specs.Settings.{version_in, little_at, entry_at, next_at, trailer, bit_count_of}
use Rattle.standard.specs.Refusals.{outcome_answer}
use Rattle.standard.specs.Bits.{bit_at}
use Rattle.standard.specs.Cp.{record_in}
use Rattle.standard.specs.declared.Refusal.{Refusal}
use Rattle.standard.proofs.Stages.{refused_not}
use Rattle.std.specs.Prelude.{Result, Ok, Err, IfOk}
use Rattle.std.specs.Result.{result_unwrap_or}
use Rattle.standard.specs.Calls.{ReadCall, read_call, read_refusal, read_record}
use Rattle.standard.specs.declared.Record.{Record}
use Rattle.standard.specs.declared.Version.{Version}
use Rattle.theorems_settings.proofs.Entries.{entry_length}
use Rattle.listing.specs.Reading.{entry_there, entry_record, Reads}

leb_moved : (a b k n : ℕ) → b ≡ k + a → k ≤ n → leb a (n - k) ≡ leb b n
leb_moved a b k n e h = go (dec_le a (n - k))
  where
    go : Dec (a ≤ n - k) → leb a (n - k) ≡ leb b n
    go (yes l) = le-leb a (n - k) l ∙ sym (le-leb b n (omega arith))
    go (no l) = lt-leb a (n - k) (omega arith) ∙ sym (lt-leb b n (omega arith))

module _ (s : List ℕ) (at : ℕ) (v : Version) (e : v ≡ version_in s) where
  there_by : leb (at + 4 + get_or s (at + 3) 0 + v.start) (length s - trailer v) ≡ entry_there s at
  unfolding entry_there next_at
  there_by = ap (λ (u : Version). leb (at + 4 + get_or s (at + 3) 0 + u.start) (length s - trailer u)) e

  pub there_no : length s - trailer v < at + 4 + get_or s (at + 3) 0 + v.start → false ≡ entry_there s at
  there_no h = sym (lt-leb _ _ h) ∙ there_by

  -- the test that is left
  pub there_is : at ≤ length s - trailer v → leb (4 + get_or s (at + 3) 0 + v.start) (length s - trailer v - at) ≡ entry_there s at
  there_is h =
      leb_moved (4 + get_or s (at + 3) 0 + v.start) (at + 4 + get_or s (at + 3) 0 + v.start) at (length s - trailer v) (omega arith) h
      ∙ there_by

pub there_room : (s : List ℕ) (at : ℕ) → entry_there s at ≡ true → at + 4 + get_or s (at + 3) 0 + (version_in s).start ≤ length s
unfolding entry_there next_at
there_room s at h = omega (arith, leb-true (at + 4 + get_or s (at + 3) 0 + (version_in s).start) (length s - trailer (version_in s)) h)

-- ---- what is read

-- the fields of an entry whose CP has len bytes
pub reads-entry : (s : List ℕ) (at : ℕ) (v : Version) (len j n : ℕ) (r : Record) → v ≡ version_in s → len ≡ get_or s (at + 3) 0
    → at + 4 + get_or s (at + 3) 0 + (version_in s).start ≤ length s → j ≡ little_at s at 2 → n ≡ bit_count_of (at + 4 + len - (at + 4))
    → r ≡ read_record (read_call (take (at + 4 + len - (at + 4)) (drop (at + 4) s)) n)
    → Reads s at (record {
      junction = j;
      previous = not
          (eqb (get_or s (at + 2) 0) 0);
      «record» = r;
      next = at + 4 + len + v.start;
    })
unfolding entry_at next_at entry_record
reads-entry s at v len j n r e el room ej en er =
    let cp : List ℕ = take (get_or s (at + 3) 0) (drop (at + 4) s) in
    let d : at + 4 + len - (at + 4) ≡ get_or s (at + 3) 0 = omega arith in
    let l : length cp ≡ get_or s (at + 3) 0 = entry_length s at (omega arith) in
    record {
      junction = ej;
      previous = refl;
      cp =
          er ∙ ap₂ (λ (x : List ℕ) (k : ℕ). read_record (read_call x k)) (ap (λ (k : ℕ). take k (drop (at + 4) s)) d)
          (en ∙ ap bit_count_of (d ∙ sym l));
      next = ap₂ (λ (k : ℕ) (u : Version). at + 4 + k + u.start) el e;
    }

-- the record that is read, or none where the reader refuses
pub read_or : (c : ReadCall) (o : Result Record Refusal) → outcome_answer o ≡ read_refusal c → IfOk o (λ r. r ≡ read_record c)
    → result_unwrap_or o no_record ≡ read_record c
unfolding read_record
read_or c (Ok r) e h = h
read_or c (Err x) e h =
    sym (ap (λ (b : Bool). cond b (record_in (bit_at c.bytes)) no_record)
    (refused_not {X = Record} (Err x) x (read_refusal c) refl e))
