-- The rules of a settings file as a walk from its first entry to its last meets them. The proofs show that they are the rules of Settings.
-- Assumes nothing.
use Rattle.std.specs.Prelude.{ℕ, zero, suc, ◌+◌, ◌-◌, Bool, true, cond, ◌&&◌, ◌||◌, List, [], ◌∷◌, eqb, leb, length, get_or}
use Rattle.standard.specs.Settings.{Entry, little_at, entry_at, next_at, trailer, count_in, entries_in, readable, lawful}
use Rattle.standard.specs.declared.Version.{Version}

-- an entry lies before `end`, and points to the entry before it
unfoldable pub placed : ℕ → List ℕ → ℕ → ℕ → ℕ → Bool
placed w s end at before =
    leb (at + 4) end && (leb (next_at w s at) end && eqb (little_at s (at + 4 + get_or s (at + 3) 0) w) before)

-- n entries lie end to end from `at` to `end`, each pointing to the one before it; the last starts at `last`
unfoldable pub layout : ℕ → List ℕ → ℕ → ℕ → ℕ → ℕ → ℕ → Bool
layout w s end last zero at before = eqb at end && eqb before last
layout w s end last (suc n) at before = placed w s end at before && layout w s end last n (next_at w s at) at

-- the start of the last entry, in the trailer
abbrev pub last_in : Version → List ℕ → ℕ
last_in v s = little_at s (length s - (v.start + 1)) v.start

unfoldable pub is_laid : Version → List ℕ → Bool
is_laid v s =
    leb (trailer v) (length s)
    && (eqb (get_or s (length s - 1) 0) v.byte
    && (layout v.start s (length s - trailer v) (last_in v s) (count_in v s) 0 0 && lawful v (entries_in v s)))

-- a current entry whose junction is at least `bar`, or, where `follow` says so, the previous one of junction bar - 1
unfoldable pub may_stand : ℕ → Bool → Entry → Bool
may_stand bar follow e =
    (eqb e.kind 0 && leb bar e.junction) || ((eqb e.kind 1 && follow) && eqb (e.junction + 1) bar)

unfoldable pub rising : ℕ → Bool → List Entry → Bool
rising bar follow [] = true
rising bar follow (e ∷ es) = may_stand bar follow e && rising (e.junction + 1) (eqb e.kind 0) es

-- ---- all of it in one walk

unfoldable pub good_at : List ℕ → ℕ → ℕ → Bool → Bool
good_at s at bar follow = may_stand bar follow (entry_at s at) && readable (entry_at s at).cp

-- a current entry counts its junction
unfoldable pub seen_at : List ℕ → ℕ → ℕ
seen_at s at = cond (eqb (get_or s (at + 2) 0) 0) 1 0

unfoldable pub walk : ℕ → List ℕ → ℕ → ℕ → ℕ → ℕ → ℕ → ℕ → ℕ → Bool → ℕ → Bool
walk w s end last most zero at before bar follow seen = (eqb at end && eqb before last) && leb seen most
walk w s end last most (suc n) at before bar follow seen =
    placed w s end at before
    && (good_at s at bar follow
    && walk w s end last most n (next_at w s at) at ((entry_at s at).junction + 1) (eqb (entry_at s at).kind 0) (seen + seen_at s at))
