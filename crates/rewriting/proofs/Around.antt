-- Entries of a file, those of a junction, and others of the file, laid one behind the other. Assumes nothing.
use mathlib.Core.List.{List, ◌++◌}
use mathlib.Core.Option.{some}
use Prim.Native.Nat.{◌+◌, ◌≤◌}
use native.Mathlib.Omega.{arith}
use lib.ListN.{length}
use Rattle.standard.specs.Settings.{Entry, entry}
use Rattle.entries.specs.declared.Entries.{Entries}
use Rattle.entries.specs.Entries.{listed, sizes}
use Rattle.laying.specs.declared.Writer.{Writer}
use Rattle.laying.specs.Laying.{Writes, Room, given}
use Rattle.laying.proofs.Joining.{room_front, room_behind, writes_append}
use Rattle.rewriting.specs.declared.JunctionSettings.{JunctionSettings}
use Rattle.rewriting.specs.Rewriting.{own_entries, around}

-- each run has room where all of them have

module _ (p : Writer) (front : Entries) (o : JunctionSettings) (rest : Entries) (h : Room p (around front (own_entries o) rest)) where
  abbrev us : List Entry
  us = entry 0 o.junction (some o.current.now)

  abbrev vs : List Entry
  vs = entry 1 o.junction (given o.previous)

  pub room_first : Room p (listed front)
  room_first = room_front p (listed front) (own_entries o ++ listed rest) h

  module _ (q1 : Writer) (l1 : Writes p (listed front) q1) where
    second : Room q1 (own_entries o ++ listed rest)
    second = room_behind p (listed front) (own_entries o ++ listed rest) q1 l1 h

    own : Room q1 (us ++ vs)
    own = room_front q1 (own_entries o) (listed rest) second

    pub room_second : q1.spot.to + (4 + length o.current.now + q1.start) ≤ length q1.out.now
    unfolding entry sizes
    room_second = omega (arith, room_front q1 us vs own)

    module _ (q2 : Writer) (l2 : Writes q1 us q2) where
      pub room_third : Room q2 vs
      room_third = room_behind q1 us vs q2 l2 own

      module _ (q3 : Writer) (l3 : Writes q2 vs q3) where
        written : Writes q1 (us ++ vs) q3
        written = writes_append q1 us q2 l2 (room_front q1 us vs own) vs q3 l3

        pub room_fourth : Room q3 (listed rest)
        room_fourth = room_behind q1 (own_entries o) (listed rest) q3 written second

        pub all_laid : (q4 : Writer) → Writes q3 (listed rest) q4 → Writes p (around front (own_entries o) rest) q4
        all_laid q4 l4 =
            writes_append p (listed front) q1 l1 room_first (own_entries o ++ listed rest) q4
            (writes_append q1 (own_entries o) q3 written own (listed rest) q4 l4)
