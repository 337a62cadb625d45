-- Document 02, A.7 and A.9: a settings file, of either version, is the bytes of its entries, a put and a going back write such a file, and
-- 'After any puts and goings back a look-up shows the setting last put or gone back to.' Assumes nothing.
use Rattle.std.specs.Prelude.{◌≡◌, ◌⊎◌, ℕ, ◌+◌, ◌*◌, ◌<◌, ◌≤◌, Bool, true, cond, List, [], ◌∷◌, ◌++◌, eqb, length, get_or, take}
use Rattle.std.proofs.Math.Option.{none, some}
use Rattle.standard.specs.Lists.{after}
use Rattle.standard.specs.First.{Answer, bare}
use Rattle.standard.specs.Bits.{bit_at}
use Rattle.standard.specs.Cp.{cp_bytes, record_in}
use Rattle.standard.specs.Settings.{version_one, version_two, version_in, version_for, Entry, file_of, settings_in, trailer, Shown, shown}
use Rattle.standard.specs.Settings.{after_put, after_back, put, back, junctions, lawful, is_file}
use Rattle.standard.specs.Calls.{accepted, PutCall, put_refusal, put_length, put_out, BackCall, back_refusal, back_length, back_out, look_refusal}
use Rattle.standard.specs.Calls.{look_record}
use Rattle.standard.specs.declared.Version.{Version}
use Rattle.theorems.specs.Runs.{over_calls}
use Rattle.theorems_cp.specs.RoundTrip.{Shaped}

-- ---- a file and its entries

-- what a byte holds
abbrev pub Bytes : List ℕ → Type 0
Bytes s = (i : ℕ) → get_or s i 0 < 256

-- 'a 2-byte junction number', 'one byte of CP length'
pub record Small (e : Entry) : Type 0 where
  pub number : e.junction < 65536
  pub short : length e.cp < 256

unfoldable pub Smalls : List Entry → Type 0
Smalls [] = Unit {0}
Smalls (e ∷ es) = Small e × Smalls es

-- a version that there is
abbrev pub Known : Version → Type 0
Known v = (v ≡ version_one) ⊎ (v ≡ version_two)

-- entries that a file can hold
abbrev pub Entries : Version → List Entry → Type 0
Entries v es = Known v × (lawful v es ≡ true) × Smalls es

pub record FileIsEntries : Type 0 where
  -- a file that keeps the rules is the bytes of its entries
  pub bytes : (s : List ℕ) → is_file s ≡ true → file_of (version_in s) (settings_in s) ≡ s
  -- and they are entries that a file can hold
  pub entries : (s : List ℕ) → Bytes s → is_file s ≡ true → Entries (version_in s) (settings_in s)
  -- the bytes of such entries are a file that keeps the rules, has that version and holds them
  pub file : (v : Version) (es : List Entry) → Entries v es
      → (is_file (file_of v es) ≡ true) × (version_in (file_of v es) ≡ v) × (settings_in (file_of v es) ≡ es)
  -- so it is the bytes of no others, in no other version
  pub others : (v u : Version) (es ds : List Entry) → Entries v es → Entries u ds → file_of v es ≡ file_of u ds → (v ≡ u) × (es ≡ ds)

-- ---- a call

pub data FileCall : Type 0 where
  to_put : PutCall → FileCall
  to_go_back : BackCall → FileCall

abbrev pub junction_of : FileCall → ℕ
junction_of (to_put c) = c.junction
junction_of (to_go_back c) = c.junction

-- what the types say of it: a 2-byte junction number, and the arrays of a record
abbrev pub Typed : FileCall → Type 0
Typed (to_put c) = (c.junction < 65536) × Shaped c.cp
Typed (to_go_back c) = c.junction < 65536

unfoldable pub answer_to : List ℕ → FileCall → Answer
answer_to s (to_put c) = put_refusal s c
answer_to s (to_go_back c) = back_refusal s c

abbrev pub accepts : List ℕ → FileCall → Bool
accepts s c = accepted (answer_to s c)

-- the length that it returns, and the buffer that it leaves
unfoldable pub length_by : List ℕ → FileCall → ℕ
length_by s (to_put c) = put_length s c
length_by s (to_go_back c) = back_length s c

unfoldable pub out_by : List ℕ → FileCall → List ℕ
out_by s (to_put c) = put_out s c
out_by s (to_go_back c) = back_out s c

-- the file after it: as many bytes of the buffer as it returns; the file that there was, where it is refused
unfoldable pub file_after : List ℕ → FileCall → List ℕ
file_after s c = cond (accepts s c) (take (length_by s c) (out_by s c)) s

-- what it does to the settings
unfoldable pub entries_after : FileCall → List Entry → List Entry
entries_after (to_put c) es = put c.junction (cp_bytes c.cp) es
entries_after (to_go_back c) es = back c.junction es

-- the most bytes of a file: for each junction two entries, and at most 122 bytes of CP in each
abbrev pub most_bytes : Version → ℕ
most_bytes v = (126 + v.start) * (2 * v.most) + trailer v

-- an accepted call was handed a file that keeps the rules and leaves one, of the length returned, of the same version or turned into
-- version 2 by its junctions
pub record Kept (s : List ℕ) (c : FileCall) : Type 0 where
  pub had : is_file s ≡ true
  pub file : is_file (file_after s c) ≡ true
  pub long : length (file_after s c) ≡ length_by s c
  pub version : version_in (file_after s c) ≡ version_for (version_in s) (junctions (settings_in (file_after s c)))
  pub most : length_by s c ≤ most_bytes (version_in (file_after s c))
  pub holds : settings_in (file_after s c) ≡ entries_after c (settings_in s)

abbrev pub CallKeeps : Type 0
CallKeeps = (s : List ℕ) → Bytes s → (c : FileCall) → Typed c → accepts s c ≡ true → Kept s c

-- ---- a list of calls, each handed the file that the one before it left

unfoldable pub AllTyped : List FileCall → Type 0
AllTyped [] = Unit {0}
AllTyped (c ∷ cs) = Typed c × AllTyped cs

abbrev pub file_left : List ℕ → List FileCall → List ℕ
file_left = after file_after

-- the accepted calls that name junction j
unfoldable pub naming : ℕ → List ℕ → List FileCall → List FileCall
naming j = over_calls accepts file_after (λ s c. cond (eqb (junction_of c) j) (c ∷ []) [])

-- what a file shows for junction j
abbrev pub shown_in : ℕ → List ℕ → Shown
shown_in j s = shown j (settings_in s)

-- what one call makes of what its junction shows, and what all those that name it make of it
unfoldable pub turned : Shown → FileCall → Shown
turned x (to_put c) = after_put (cp_bytes c.cp) x
turned x (to_go_back c) = after_back x

abbrev pub turned_all : Shown → List FileCall → Shown
turned_all = after turned

-- a look-up gives the record of the CP bytes cp
abbrev pub Looks : List ℕ → ℕ → List ℕ → Type 0
Looks s j cp = (accepted (look_refusal s j) ≡ true) × (look_record s j ≡ record_in (bit_at cp))

-- after the calls cs, begun with the file s
pub record Settled (s : List ℕ) (cs : List FileCall) : Type 0 where
  -- the file keeps the rules
  pub file : is_file (file_left s cs) ≡ true
  -- it has its version still, or version 2 once it has more junctions than that may have
  pub version : version_in (file_left s cs) ≡ version_for (version_in s) (junctions (settings_in (file_left s cs)))
  -- a junction shows what the calls that name it made of what it showed, whatever other calls there were between
  pub own : (j : ℕ) → shown_in j (file_left s cs) ≡ turned_all (shown_in j s) (naming j s cs)
  -- a look-up gives the current setting, or 23 where there is none
  pub looks : (j : ℕ) (cp : List ℕ) → (shown_in j (file_left s cs)).current ≡ some cp → Looks (file_left s cs) j cp
  pub missing : (j : ℕ) → (shown_in j (file_left s cs)).current ≡ none → look_refusal (file_left s cs) j ≡ bare 23
  -- 'the setting last put': a look-up gives its record, and the one that was current is previous, the older one dropped
  pub last_put : (j : ℕ) (before : List FileCall) (c : PutCall) → naming j s cs ≡ before ++ (to_put c ∷ [])
      → (accepted (look_refusal (file_left s cs) j) ≡ true) × (look_record (file_left s cs) j ≡ c.cp)
      × ((shown_in j (file_left s cs)).previous ≡ (turned_all (shown_in j s) before).current)
  -- 'or gone back to': a look-up gives the setting that was previous, and the one that was current is previous
  pub last_back : (j : ℕ) (before : List FileCall) (c : BackCall) → naming j s cs ≡ before ++ (to_go_back c ∷ [])
      → (cp : List ℕ) × ((turned_all (shown_in j s) before).previous ≡ some cp) × Looks (file_left s cs) j cp
      × ((shown_in j (file_left s cs)).previous ≡ (turned_all (shown_in j s) before).current)
  -- going back twice is as before
  pub twice : (j : ℕ) (before : List FileCall) (c d : BackCall) → naming j s cs ≡ before ++ (to_go_back c ∷ to_go_back d ∷ [])
      → shown_in j (file_left s cs) ≡ turned_all (shown_in j s) before
  -- a junction that no accepted call names keeps both settings, 'other CP bytes as they were'
  pub kept : (j : ℕ) → naming j s cs ≡ [] → shown_in j (file_left s cs) ≡ shown_in j s

abbrev pub CallsSettle : Type 0
CallsSettle = (s : List ℕ) → Bytes s → is_file s ≡ true → (cs : List FileCall) → AllTyped cs → Settled s cs

-- ---- junctions more

-- 'a 41st junction turns version 1 into version 2, every setting shown as it was'
abbrev pub FortyFirst : Type 0
FortyFirst =
    (s : List ℕ) → Bytes s → (c : PutCall) → Typed (to_put c) → accepts s (to_put c) ≡ true
    → version_in s ≡ version_one → junctions (settings_in s) ≡ 40 → (shown_in c.junction s).current ≡ none
    → (version_in (file_after s (to_put c)) ≡ version_two)
    × ((j : ℕ) → (c.junction ≡ j → ⊥) → shown_in j (file_after s (to_put c)) ≡ shown_in j s)

-- 'Refusal 24 then means a 401st'
abbrev pub FourHundredFirst : Type 0
FourHundredFirst =
    (s : List ℕ) (c : PutCall) → (put_refusal s c).number ≡ 24
    → (junctions (settings_in s) ≡ 400) × ((shown_in c.junction s).current ≡ none)
