-- After n turns the first n frames are sent. Assumes nothing.
use mathlib.Core.Path.{◌≡◌, ap, ap₂, ◌∙◌}
use Prim.Native.Nat.{ℕ, ◌+◌, ◌*◌, ◌≤◌, ◌<◌}
use mathlib.Core.Bool.{Bool, cond}
use mathlib.Core.List.{List}
use native.Mathlib.Omega.{arith}
use lib.ListN.{length}
use Rattle.standard.specs.Bits.{bits_in}
use Rattle.standard.specs.Frame.{call_bits, send_frames, send_after}
use Rattle.standard.specs.Calls.{over}
use Rattle.standard.specs.declared.Law.{Law}
use Rattle.standard.specs.declared.LineState.{LineState}
use Rattle.standard.specs.declared.Record.{Record}
use Rattle.standard.proofs.Filling.{part_long}
use Rattle.mapping.specs.Tables.{mapping_of, point_tables}
use Rattle.mapping.specs.declared.Mapping.{Mapping}
use Rattle.frame.specs.Parts.{state_of}
use Rattle.frame.proofs.Widths.{width_in}
use Rattle.frame.specs.declared.Carried.{Carried}
use Rattle.frame.specs.Allowed.{Allowed, Drawn}
use Rattle.frames_sent.specs.Loops.{Sending}
use Rattle.frames_sent.proofs.Loops.{send_start, sendable, send_more, send_all, few_bits}
use Rattle.frames_sent.proofs.send_frames.Goals as goal

-- what the call draws up is drawn up of its record
drawn : {r : Record} {N : ℕ} {st : LineState} (x : Carried) {m : Mapping} {ps : List (List ℕ)} → Allowed r st N
    → state_of x st.sequence ≡ st → m ≡ mapping_of r → ps ≡ point_tables r → Drawn point_tables r (state_of x st.sequence) N m ps
drawn x w e em ep = record { allowed = rw e w; mapped = em; tabled = ep }

-- the turn is one of 1,024 at most, the octets are as many as were lent, and no more bits are sent than a call has
turn : {r : Record} {l : Law} {on : Bool} {v N : ℕ} {st : LineState} {ds : List Bool} {os₀ : List ℕ} {n used : ℕ}
    {state : LineState} {os : List ℕ} → Allowed r st N → Sending r l on v N st ds os₀ n used state os → n < N → 6 * N ≤ length os₀
    → (n < 1024) × (6 * n + 6 ≤ length os) × (used ≤ 49152)
turn {r = r} {on = on} {n = n} w p h room = (
  omega (arith, w.few),
  omega (arith, p.long),
  rw p.used (few_bits r on _ n (omega (arith, w.few)) w.place w.rate),
)

pub draw_up-mapping-requires : goal.draw_up-mapping-requires
draw_up-mapping-requires c = c.requires.0.index

pub carry-line-requires : goal.carry-line-requires
carry-line-requires c = c.requires.0.history

pub loop-n-init : goal.loop-n-init
loop-n-init c =
    let a = c.args in
    let w = c.requires.0 in
    let e = c.carry-line.ensures.0 in (
      record {
        past = c.carry-line.ensures.1;
        place = rw (ap (λ (st : LineState). st.place) e) w.place;
        done = rw (ap (λ (st : LineState). st.done) e) w.done;
      },
      λ r d.
          send_start r a.law a.control a.word a.frames (state_of c.carry-line.result c.args.state.sequence)
          a.bytes.now
          a.octets.now,
    )

pub field_at-bits-requires : goal.field_at-bits-requires
field_at-bits-requires c =
    let d = drawn c.carry-line.result c.requires.0 c.carry-line.ensures.0
    c.draw_up-mapping.ensures.0 c.draw_up-mapping.ensures.1 in
    let t = turn d.allowed (c.loop-n.invariant.1 _ d) c.loop-n-test.true c.requires.1 in
    let narrow = (width_in _ _ d.mapped d.allowed.rate c.is_control.result _ c.width_of-width.ensures).1 in
    (omega arith, omega (arith, t.2))

pub overflow_mul-at : goal.overflow_mul-at
overflow_mul-at c =
    let d = drawn c.carry-line.result c.requires.0 c.carry-line.ensures.0
    c.draw_up-mapping.ensures.0 c.draw_up-mapping.ensures.1 in
    let t = turn d.allowed (c.loop-n.invariant.1 _ d) c.loop-n-test.true c.requires.1 in
    omega (arith, t.0)

pub overflow_add-end : goal.overflow_add-end
overflow_add-end c =
    let d = drawn c.carry-line.result c.requires.0 c.carry-line.ensures.0
    c.draw_up-mapping.ensures.0 c.draw_up-mapping.ensures.1 in
    let t = turn d.allowed (c.loop-n.invariant.1 _ d) c.loop-n-test.true c.requires.1 in
    omega (arith, t.0)

pub slice_bounds-send_frame-end : goal.slice_bounds-send_frame-end
slice_bounds-send_frame-end c =
    let d = drawn c.carry-line.result c.requires.0 c.carry-line.ensures.0
    c.draw_up-mapping.ensures.0 c.draw_up-mapping.ensures.1 in
    let t = turn d.allowed (c.loop-n.invariant.1 _ d) c.loop-n-test.true c.requires.1 in
    omega (arith, t.1)

pub send_frame-line-requires : goal.send_frame-line-requires
send_frame-line-requires c =
    let a = c.args in
    let l = c.loop-n in
    let d = drawn c.carry-line.result c.requires.0 c.carry-line.ensures.0
    c.draw_up-mapping.ensures.0 c.draw_up-mapping.ensures.1 in
    let t = turn d.allowed (c.loop-n.invariant.1 _ d) c.loop-n-test.true c.requires.1 in (
      (
        _,
        sendable _ a.law a.control a.word a.frames _ a.bytes.now a.octets.now l.n _ _ _ l.line d c.loop-n-test.true
            c.reciprocals_of.ensures l.invariant.0,
      ),
      part_long l.octets (6 * l.n) 6 t.1,
    )

pub overflow_add-used : goal.overflow_add-used
overflow_add-used c =
    let d = drawn c.carry-line.result c.requires.0 c.carry-line.ensures.0
    c.draw_up-mapping.ensures.0 c.draw_up-mapping.ensures.1 in
    let t = turn d.allowed (c.loop-n.invariant.1 _ d) c.loop-n-test.true c.requires.1 in
    let narrow = (width_in _ _ d.mapped d.allowed.rate c.is_control.result _ c.width_of-width.ensures).1 in
    omega (arith, t.2)

pub loop-n-preserved : goal.loop-n-preserved
loop-n-preserved c =
    let a = c.args in
    let l = c.loop-n in
    let call = c.send_frame-line in
    let able = λ (r : Record) (d : Drawn point_tables r (state_of c.carry-line.result c.args.state.sequence) a.frames
    c.draw_up-mapping.result c.draw_up-mapping.new.points).
    sendable r a.law a.control a.word a.frames _ a.bytes.now a.octets.now l.n _ _ _ l.line d c.loop-n-test.true
    c.reciprocals_of.ensures l.invariant.0 in
    let d = drawn c.carry-line.result c.requires.0 c.carry-line.ensures.0
    c.draw_up-mapping.ensures.0 c.draw_up-mapping.ensures.1 in (
      (call.ensures _ (able _ d)).bounded,
      λ r d.
          send_more r a.law a.control a.word a.frames _ a.bytes.now a.octets.now l.n l.used _ _ l.line
          call.result
          l.sequence _ l.octets _ (l.invariant.1 r d)
          c.loop-n-test.true
          (c.width_of-width.ensures ∙ ap₂ (λ (b : Bool) (m : Mapping). cond b m.k m.d) c.is_control.ensures d.mapped)
          c.field_at-bits.ensures (call.ensures r (able r d))
          c.requires.1,
    )

pub state_of-requires : goal.state_of-requires
state_of-requires c = c.loop-n.invariant.0

pub shape_of-octets : goal.shape_of-octets
shape_of-octets c =
    let d = drawn c.carry-line.result c.requires.0 c.carry-line.ensures.0
    c.draw_up-mapping.ensures.0 c.draw_up-mapping.ensures.1 in
    (c.loop-n.invariant.1 _ d).long

pub returns : goal.returns
returns c =
    let a = c.args in
    let l = c.loop-n in
    let e = c.carry-line.ensures.0 in
    let d = drawn c.carry-line.result c.requires.0 e c.draw_up-mapping.ensures.0 c.draw_up-mapping.ensures.1 in
    let all = send_all a.r a.law a.control a.word a.frames _ a.bytes.now a.octets.now l.n l.used
    (state_of l.line l.sequence) l.octets (l.invariant.1 _ d) (omega arith) in
    let bits : LineState → List Bool = λ st. bits_in (call_bits a.r a.control st.place a.frames) a.bytes.now in (
      c.state_of.ensures ∙ all.0 ∙ ap (λ (st : LineState). send_after a.r a.control a.word a.frames st (bits st)) e,
      all.1 ∙ ap
          (λ (st : LineState). over (send_frames a.r a.law a.control a.word a.frames st (bits st)) a.octets.now) e,
    )
