-- Document 02, A.7 and A.9: the junction settings file. Its versions, its entries and their bytes, what a junction shows, putting and going
-- back, the rules of a file, and refusals 22 to 24. Assumes nothing.
use Rattle.std.specs.Prelude.{ℕ, zero, suc, ◌+◌, ◌-◌, ◌*◌, ◌/◌, ◌%◌, Bool, true, false, not, cond, ◌&&◌, ◌||◌, List, [], ◌∷◌, ◌++◌, eqb, leb, ltb, length, get_or, take, drop}
use Rattle.std.proofs.Math.Option.{Option, none, some}
use Rattle.standard.specs.First.{Test, test, first}
use Rattle.standard.specs.Bits.{bytes_for}
use Rattle.standard.specs.Cp.{cp_length, cp_bytes}
use Rattle.standard.specs.Refusals.{record_tests, read_tests}
use Rattle.standard.specs.declared.Record.{Record}
use Rattle.standard.specs.declared.Version.{Version}

-- ---- a version of the file

-- 'the 2-byte start', 'a byte counting the entries', 'at most 40 junctions', 'last a version byte, 1'
abbrev pub version_one : Version
version_one = record { start = 2; count = 1; most = 40; byte = 1 }

-- A.9: 'Version 2 ends in byte 2, has a 2-byte count and 4-byte starts, and is otherwise the same'; 'a 401st' is turned away
abbrev pub version_two : Version
version_two = record { start = 4; count = 2; most = 400; byte = 2 }

-- the version of a file, by its last byte; one that ends in neither 1 nor 2 breaks the rules of version 1
unfoldable pub version_in : List ℕ → Version
version_in s = cond (eqb (get_or s (length s - 1) 0) 2) version_two version_one

-- the version that a put leaves of version v, with n junctions then: it 'keeps a file's version, save that a 41st junction turns version 1
-- into version 2'
unfoldable pub version_for : Version → ℕ → Version
version_for v n = cond (leb n v.most) v version_two

-- ---- entries and their bytes

-- 'a 2-byte junction number, one byte for current (0) or previous (1), .. the CP bytes'
pub record Entry : Type 0 where
  pub junction : ℕ
  pub kind : ℕ
  pub cp : List ℕ

-- 'Numbers are low byte first.' A number in w bytes
unfoldable pub little : ℕ → ℕ → List ℕ
little zero v = []
little (suc w) v = v % 256 ∷ little w (v / 256)

-- the bytes of an entry, among them 'one byte of CP length in bytes' and, in w bytes, the 'start of the entry before it'
unfoldable pub entry_bytes : ℕ → ℕ → Entry → List ℕ
entry_bytes w before e = little 2 e.junction ++ (e.kind ∷ length e.cp ∷ (e.cp ++ little w before))

-- how many these are
abbrev pub entry_size : ℕ → Entry → ℕ
entry_size w e = 4 + length e.cp + w

-- 'Entries lie end to end': from place `at` on, where the entry before them starts at `before`
unfoldable pub entries_bytes : ℕ → ℕ → ℕ → List Entry → List ℕ
entries_bytes w before at [] = []
entries_bytes w before at (e ∷ es) = entry_bytes w before e ++ entries_bytes w at (at + entry_size w e) es

-- the 'start of the last entry'
unfoldable pub last_start : ℕ → ℕ → ℕ → List Entry → ℕ
last_start w before at [] = before
last_start w before at (e ∷ es) = last_start w at (at + entry_size w e) es

-- 'from place 0', 'the first pointing to itself'; 'The file ends in a trailer: a byte counting the entries, the 2-byte start of the last
-- entry, and last a version byte'; 'one with count 0 .. points to 0'
unfoldable pub file_of : Version → List Entry → List ℕ
file_of v es =
    entries_bytes v.start 0 0 es
    ++ (little v.count (length es) ++ (little v.start (last_start v.start 0 0 es) ++ (v.byte ∷ [])))

-- ---- the entries that stand in bytes s

-- the number in the w bytes from `at` on
unfoldable pub little_at : List ℕ → ℕ → ℕ → ℕ
little_at s at zero = 0
little_at s at (suc w) = get_or s at 0 + 256 * little_at s (suc at) w

-- the entry from `at` on
unfoldable pub entry_at : List ℕ → ℕ → Entry
entry_at s at =
    record { junction = little_at s at 2; kind = get_or s (at + 2) 0; cp = take (get_or s (at + 3) 0) (drop (at + 4) s) }

-- where the entry after it begins
unfoldable pub next_at : ℕ → List ℕ → ℕ → ℕ
next_at w s at = at + 4 + get_or s (at + 3) 0 + w

-- n entries from `at` on
unfoldable pub entries_at : ℕ → List ℕ → ℕ → ℕ → List Entry
entries_at w s at zero = []
entries_at w s at (suc n) = entry_at s at ∷ entries_at w s (next_at w s at) n

-- the bytes of the trailer
abbrev pub trailer : Version → ℕ
trailer v = v.count + v.start + 1

-- 'counting the entries'
abbrev pub count_in : Version → List ℕ → ℕ
count_in v s = little_at s (length s - trailer v) v.count

-- as many as the trailer says, 'from place 0'
unfoldable pub entries_in : Version → List ℕ → List Entry
entries_in v s = entries_at v.start s 0 (count_in v s)

-- the settings that a file holds
unfoldable pub settings_in : List ℕ → List Entry
settings_in s = entries_in (version_in s) s

-- ---- what a junction shows

-- the CP of the first entry of junction j and kind k
unfoldable pub find : ℕ → ℕ → List Entry → Option (List ℕ)
find k j [] = none
find k j (e ∷ es) = cond (eqb e.junction j && eqb e.kind k) (some e.cp) (find k j es)

abbrev pub there : Option (List ℕ) → Bool
there none = false
there (some cp) = true

-- its CP, 'with the setting before it kept for going back'
pub record Shown : Type 0 where
  pub current : Option (List ℕ)
  pub previous : Option (List ℕ)

abbrev pub shown : ℕ → List Entry → Shown
shown j es = record { current = find 0 j es; previous = find 1 j es }

-- 'Putting a setting moves current to previous, drops the older one'
abbrev pub after_put : List ℕ → Shown → Shown
after_put cp x = record { current = some cp; previous = x.current }

-- 'Going back exchanges the two settings'
abbrev pub after_back : Shown → Shown
after_back x = record { current = x.previous; previous = x.current }

-- ---- and the entries after that

-- an entry of junction j, where there is a CP for it
unfoldable pub entry : ℕ → ℕ → Option (List ℕ) → List Entry
entry k j none = []
entry k j (some cp) = record { junction = j; kind = k; cp = cp } ∷ []

-- the entries of a junction that shows x: 'one current and then at most one previous'
abbrev pub entries_for : ℕ → Shown → List Entry
entries_for j x = entry 0 j x.current ++ entry 1 j x.previous

-- those of the junctions below j, and above it
unfoldable pub below : ℕ → List Entry → List Entry
below j [] = []
below j (e ∷ es) = cond (ltb e.junction j) (e ∷ below j es) (below j es)

unfoldable pub above : ℕ → List Entry → List Entry
above j [] = []
above j (e ∷ es) = cond (ltb j e.junction) (e ∷ above j es) (above j es)

-- others in place of those of junction j, 'other CP bytes as they were'
unfoldable pub replace : ℕ → List Entry → List Entry → List Entry
replace j own es = below j es ++ (own ++ above j es)

-- the entries after a put of the CP cp for junction j, and after a going back
unfoldable pub put : ℕ → List ℕ → List Entry → List Entry
put j cp es = replace j (entries_for j (after_put cp (shown j es))) es

unfoldable pub back : ℕ → List Entry → List Entry
back j es = replace j (entries_for j (after_back (shown j es))) es

-- how many junctions there are: each has one current entry
unfoldable pub junctions : List Entry → ℕ
junctions [] = 0
junctions (e ∷ es) = cond (eqb e.kind 0) 1 0 + junctions es

-- 'writes the file afresh'
unfoldable pub put_file : List ℕ → ℕ → List ℕ → List ℕ
put_file s j cp =
    let es = put j cp (settings_in s) in
    file_of (version_for (version_in s) (junctions es)) es

-- 'written likewise'
unfoldable pub back_file : List ℕ → ℕ → List ℕ
back_file s j = file_of (version_in s) (back j (settings_in s))

-- ---- the rules of a file

-- two byte strings are equal, as a test
unfoldable pub same : List ℕ → List ℕ → Bool
same [] [] = true
same [] (y ∷ ys) = false
same (x ∷ xs) [] = false
same (x ∷ xs) (y ∷ ys) = eqb x y && same xs ys

-- the bytes are those of the entries that stand in them: every length, start and count, the version byte, and nothing else
unfoldable pub as_written : Version → List ℕ → Bool
as_written v s = same (file_of v (entries_in v s)) s

-- entry e may stand behind entry d: a current one, 'by rising junction number', or the previous one of the current one d
unfoldable pub follows : Entry → Entry → Bool
follows d e =
    (eqb e.kind 0 && ltb d.junction e.junction)
    || (eqb e.kind 1 && (eqb d.kind 0 && eqb e.junction d.junction))

-- entries behind entry d, each of which may stand behind the one before it
unfoldable pub in_order : Entry → List Entry → Bool
in_order d [] = true
in_order d (e ∷ es) = follows d e && in_order e es

-- 'one current and then at most one previous', so a current one is the first
unfoldable pub orderly : List Entry → Bool
orderly [] = true
orderly (e ∷ es) = eqb e.kind 0 && in_order e es

-- 'at most 40 junctions', in version 2 at most 400
unfoldable pub few : Version → List Entry → Bool
few v es = leb (junctions es) v.most

-- the bit count of a CP of n bytes: the length for g with one mask in 37 bytes, and 17 bytes for each further mask
unfoldable pub bit_count_of : ℕ → ℕ
bit_count_of n = cp_length ((n - 37) / 17)

-- a CP that is not refused; one of a length that no CP has is
unfoldable pub readable : List ℕ → Bool
readable cp =
    let n = bit_count_of (length cp) in
    eqb (length cp) (bytes_for n) && eqb (first (read_tests cp n)).number 0

-- no CP is refused
unfoldable pub all_readable : List Entry → Bool
all_readable [] = true
all_readable (e ∷ es) = readable e.cp && all_readable es

-- the entries keep the rules
unfoldable pub lawful : Version → List Entry → Bool
lawful v es = orderly es && (few v es && all_readable es)

-- and so do the bytes; 'An empty file gets 22; one with count 0 is valid'
unfoldable pub is_file : List ℕ → Bool
is_file s = as_written (version_in s) s && lawful (version_in s) (settings_in s)

-- ---- 'Turned away'. room is the length of the buffer for the file written

-- 22. 'the file breaks these rules or a CP is refused'
abbrev pub file_broken : List ℕ → Test
file_broken s = test 22 (not (is_file s))

-- 23. 'save on a put, the junction, or its previous setting when going back, is not there'
abbrev pub setting_missing : Option (List ℕ) → Test
setting_missing x = test 23 (not (there x))

-- 24. 'a put would make a 41st junction'; A.9: 'Refusal 24 then means a 401st'
abbrev pub too_many_junctions : List ℕ → ℕ → List ℕ → Test
too_many_junctions s j cp = test 24 (not (few version_two (put j cp (settings_in s))))

-- 17. the file written is longer than the buffer
abbrev pub no_room : ℕ → List ℕ → Test
no_room room t = test 17 (ltb room (length t))

-- 'These are checked in that order, after the put record's own refusals and before 17.'
unfoldable pub put_tests : List ℕ → ℕ → Record → ℕ → List Test
put_tests s j r room =
    let cp = cp_bytes r in
    record_tests r ++ (file_broken s ∷ too_many_junctions s j cp ∷ no_room room (put_file s j cp) ∷ [])

unfoldable pub back_tests : List ℕ → ℕ → ℕ → List Test
back_tests s j room = file_broken s ∷ setting_missing (shown j (settings_in s)).previous ∷ no_room room (back_file s j) ∷ []

unfoldable pub look_tests : List ℕ → ℕ → List Test
look_tests s j = file_broken s ∷ setting_missing (shown j (settings_in s)).current ∷ []
