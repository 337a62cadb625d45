-- Four runs of entries, one behind the other. Assumes nothing.
use Rattle.rewriting.proofs.Around.{room_first, room_second, room_third, room_fourth, all_laid}
use Rattle.rewriting.proofs.put_entries.Goals as goal

pub copy_entries-requires-clause-room : goal.copy_entries-requires-clause-room
copy_entries-requires-clause-room c =
    let a = c.args in
    room_first a.writer.now a.front.now a.own.now a.rest.now c.requires.room

pub put_entry-requires-clause-room : goal.put_entry-requires-clause-room
put_entry-requires-clause-room c =
    let a = c.args in
    room_second a.writer.now a.front.now a.own.now a.rest.now c.requires.room _ c.copy_entries.ensures.lays

pub put_previous-requires-clause-room : goal.put_previous-requires-clause-room
put_previous-requires-clause-room c =
    let a = c.args in
    room_third a.writer.now a.front.now a.own.now a.rest.now c.requires.room _ c.copy_entries.ensures.lays _ c.put_entry.ensures.lays

pub copy_entries-requires-2-clause-room : goal.copy_entries-requires-2-clause-room
copy_entries-requires-2-clause-room c =
    let a = c.args in
    room_fourth a.writer.now a.front.now a.own.now a.rest.now c.requires.room _ c.copy_entries.ensures.lays _ c.put_entry.ensures.lays
    _ c.put_previous.ensures.lays

pub returns-clause-lays : goal.returns-clause-lays
returns-clause-lays c =
    let a = c.args in
    all_laid a.writer.now a.front.now a.own.now a.rest.now c.requires.room _ c.copy_entries.ensures.lays _ c.put_entry.ensures.lays
    _ c.put_previous.ensures.lays _ c.copy_entries-2.ensures.lays
