-- Behind the entry's four bytes. Assumes nothing.
use native.Mathlib.Omega.{arith}
use Rattle.places.proofs.Opening.{here_room, cp_is}
use Rattle.places.proofs.cp_of.Goals as goal

pub returns-clause-bytes : goal.returns-clause-bytes
returns-clause-bytes c = cp_is c.args.entries.now c.args.k _ _ c.place_after-at.ensures.value c.from.ensures

pub bounds-entries-at : goal.bounds-entries-at
bounds-entries-at c =
    let p = c.requires in
    let room = here_room c.args.entries.now c.args.k p.inside p.number.0 _ c.place_after-at.ensures.value in omega (arith, room)
