-- One entry a turn. Assumes nothing.
use mathlib.Core.Path.{refl, ◌∙◌}
use native.Mathlib.Omega.{arith}
use Rattle.laying.proofs.Joining.{copied_none, copied_more, copied_all, entry-there, entry-room}
use Rattle.laying.proofs.Writer.copy_entries.Goals as goal

pub loop-init : goal.loop-init
loop-init c = (copied_none c.args.self.now c.args.entries.now c.requires.inside, refl)

pub copy_entry-requires-clause-there : goal.copy_entry-requires-clause-there
copy_entry-requires-clause-there c =
    let a = c.args in
    let l = c.loop in
    omega (arith, entry-there a.self.now a.entries.now c.requires.room l.self l.at l.counter l.invariant.0 (omega arith))

pub copy_entry-requires-clause-room : goal.copy_entry-requires-clause-room
copy_entry-requires-clause-room c =
    let a = c.args in
    let l = c.loop in
    entry-room a.self.now a.entries.now c.requires.room l.self l.at l.counter l.invariant.0 (omega arith)

pub next_at-at-requires : goal.next_at-at-requires
next_at-at-requires c =
    let a = c.args in
    let l = c.loop in
    entry-there a.self.now a.entries.now c.requires.room l.self l.at l.counter l.invariant.0 (omega arith)

pub loop-preserved : goal.loop-preserved
loop-preserved c =
    let a = c.args in
    let l = c.loop in
    let w = c.copy_entry.ensures in (
      copied_more a.self.now a.entries.now c.requires.room l.self l.at l.counter l.invariant.0 (omega arith) _ w.lays _
          c.next_at-at.ensures.0,
      w.same_buffer ∙ l.invariant.1,
    )

pub returns-clause-lays : goal.returns-clause-lays
returns-clause-lays c =
    let a = c.args in
    let l = c.loop in
    copied_all a.self.now a.entries.now c.requires.room l.self l.at l.counter l.invariant.0 (omega arith)
