-- After n turns the first n frames are received, and fewer than 64 of their bits are held. Assumes nothing.
use mathlib.Core.Path.{◌≡◌, refl, sym, ap, ap₂, ◌∙◌, subst}
use Prim.Native.Nat.{ℕ, ◌+◌, ◌-◌, ◌*◌, ◌≤◌, ◌<◌}
use mathlib.Core.Bool.{Bool, cond, ◌&&◌}
use mathlib.Core.List.{List}
use native.Mathlib.Omega.{arith}
use lib.Dec.{eqb}
use lib.ListN.{length, get_or, take}
use Rattle.standard.specs.Lists.{last_or}
use Rattle.standard.specs.Bits.{bytes_for, bytes_of, nth}
use Rattle.standard.specs.Frame.{is_control, width, call_bits, receive_frames, receive_after, receive_said}
use Rattle.standard.specs.Calls.{over}
use Rattle.standard.specs.declared.LineState.{LineState}
use Rattle.standard.specs.declared.Record.{Record}
use Rattle.standard.specs.declared.Said.TheVariants.{Nothing}
use Rattle.standard.proofs.Filling.{part_long}
use Rattle.bits.specs.PutField.{put_field, poured}
use Rattle.bits.proofs.Joining.{poured-none, length-poured, pours, poured-out}
use Rattle.mapping.specs.declared.Mapping.{Mapping}
use Rattle.mapping.specs.Tables.{mapping_of, label_tables}
use Rattle.frame.specs.Parts.{state_of}
use Rattle.frame.proofs.Widths.{width_in}
use Rattle.frame.specs.declared.Carried.{Carried}
use Rattle.frame.specs.Allowed.{Allowed, Drawn}
use Rattle.frames_received.proofs.Loops.{receive_start, receivable, receive_more, receive_all, word_fits, bits-room}
use Rattle.frames_received.proofs.receive_frames.Goals as goal

-- what the call draws up is drawn up of its record
drawn : {r : Record} {N : ℕ} {st : LineState} (x : Carried) {m : Mapping} {ls : List (List ℕ)} → Allowed r st N
    → state_of x st.sequence ≡ st → m ≡ mapping_of r → ls ≡ label_tables r → Drawn label_tables r (state_of x st.sequence) N m ls
drawn x w e em el = record { allowed = rw e w; mapped = em; tabled = el }

-- the data buffer has room for the call's bits
room_for : (r : Record) (on : Bool) (N : ℕ) {st : LineState} (x : Carried) (bs : List ℕ) → state_of x st.sequence ≡ st
    → bytes_for (call_bits r on st.place N) ≤ length bs → bytes_for (call_bits r on x.place N) ≤ length bs
room_for r on N x bs e h =
    subst (λ (p : ℕ). bytes_for (call_bits r on p N) ≤ length bs) (sym (ap (λ (st : LineState). st.place) e)) h

pub draw_up-mapping-requires : goal.draw_up-mapping-requires
draw_up-mapping-requires c = c.requires.0.index

pub carry-line-requires : goal.carry-line-requires
carry-line-requires c = c.requires.0.history

pub loop-n-init : goal.loop-n-init
loop-n-init c =
    let a = c.args in
    let w = c.requires.0 in
    let e = c.carry-line.ensures.0 in
    let byte : (i : ℕ) → get_or a.bytes.now i 0 < 256 = λ i. omega (arith, c.type_inv.bytes i) in
    let empty = poured-none a.bytes.now 0 byte in (
      record {
        past = c.carry-line.ensures.1;
        place = rw (ap (λ (st : LineState). st.place) e) w.place;
        done = rw (ap (λ (st : LineState). st.done) e) w.done;
      },
      record { few = omega arith; small = omega arith },
      λ r d. rw empty
          (receive_start r a.law a.control a.frames (state_of c.carry-line.result a.state.sequence) a.octets.now
          a.bytes.now a.marks.now byte),
    )

pub overflow_mul-at : goal.overflow_mul-at
overflow_mul-at c = omega (arith, c.loop-n-test.true, c.requires.0.few)

pub overflow_add-end : goal.overflow_add-end
overflow_add-end c = omega (arith, c.loop-n-test.true, c.requires.0.few)

pub slice_bounds-six-end : goal.slice_bounds-six-end
slice_bounds-six-end c = omega (arith, c.requires.1)

pub receive_frame-got-requires : goal.receive_frame-got-requires
receive_frame-got-requires c =
    let a = c.args in
    let l = c.loop-n in
    let e = c.carry-line.ensures.0 in
    let d = drawn c.carry-line.result c.requires.0 e c.draw_up-mapping.ensures.0 c.draw_up-mapping.ensures.2 in
    let able = receivable _ a.law a.control a.frames _ a.octets.now a.bytes.now a.marks.now _ _ l.line d l.invariant.0 in (
      (_, able),
      part_long a.octets.now (6 * l.n) 6 (omega (arith, c.requires.1)),
    )

pub pour-pouring-requires : goal.pour-pouring-requires
pour-pouring-requires c =
    let a = c.args in
    let l = c.loop-n in
    let e = c.carry-line.ensures.0 in
    let d = drawn c.carry-line.result c.requires.0 e c.draw_up-mapping.ensures.0 c.draw_up-mapping.ensures.2 in
    let wide : c.width_of.result ≡ width a.r (is_control a.control l.line.place) =
    c.width_of.ensures ∙ ap₂ (λ (b : Bool) (m : Mapping). cond b m.k m.d) c.is_control-is_control.ensures d.mapped in
    let narrow = (width_in _ _ d.mapped d.allowed.rate c.is_control-is_control.result _ c.width_of.ensures).1 in
    let received = c.receive_frame-got.ensures _
    (receivable _ a.law a.control a.frames _ a.octets.now a.bytes.now a.marks.now _ _ l.line d l.invariant.0) in
    let long : length l.bytes ≡ length a.bytes.now = sym (length-poured l.bytes l.pouring) ∙ (l.invariant.2 _ d).long_bits in
    let room = room_for a.r a.control a.frames c.carry-line.result a.bytes.now e c.requires.2 in
    let enough = bits-room a.r a.law a.control a.frames _ a.octets.now a.bytes.now a.marks.now l.n _ _ l.line
    l.sequence _ _ l.bytes l.marks _ _ _ (l.invariant.2 _ d) c.loop-n-test.true c.requires.1 refl wide received room in
    (l.invariant.1, omega (arith, narrow), omega (arith, enough, long, length-poured l.bytes l.pouring))

pub bounds-marks-n : goal.bounds-marks-n
bounds-marks-n c =
    let a = c.args in
    let l = c.loop-n in
    let e = c.carry-line.ensures.0 in
    let d = drawn c.carry-line.result c.requires.0 e c.draw_up-mapping.ensures.0 c.draw_up-mapping.ensures.2 in
    omega (arith, c.loop-n-test.true, c.requires.3, (l.invariant.2 _ d).long_marks)

pub loop-n-preserved : goal.loop-n-preserved
loop-n-preserved c =
    let a = c.args in
    let l = c.loop-n in
    let e = c.carry-line.ensures.0 in
    let d = drawn c.carry-line.result c.requires.0 e c.draw_up-mapping.ensures.0 c.draw_up-mapping.ensures.2 in
    let wide : c.width_of.result ≡ width a.r (is_control a.control l.line.place) =
    c.width_of.ensures ∙ ap₂ (λ (b : Bool) (m : Mapping). cond b m.k m.d) c.is_control-is_control.ensures d.mapped in
    let narrow = (width_in _ _ d.mapped d.allowed.rate c.is_control-is_control.result _ c.width_of.ensures).1 in
    let able = λ (r : Record) (d : Drawn label_tables r (state_of c.carry-line.result a.state.sequence) a.frames
    c.draw_up-mapping.result c.draw_up-mapping.new.labels).
    receivable r a.law a.control a.frames _ a.octets.now a.bytes.now a.marks.now _ _ l.line d l.invariant.0 in
    let received = c.receive_frame-got.ensures _ (able _ d) in
    let fits = word_fits a.r a.law a.control a.frames _ a.octets.now a.bytes.now a.marks.now l.n _ _ l.line l.sequence
    _ _ l.bytes l.marks _ _ _ (l.invariant.2 _ d) c.loop-n-test.true c.requires.1 refl wide received in
    let put = pours l.bytes l.pouring c.width_of.result c.receive_frame-got.result.bits l.invariant.1 fits
    (omega (arith, narrow)) _ _ c.pour-pouring.ensures.0 c.pour-pouring.ensures.1 in (
      received.bounded,
      put.0,
      λ r d.
          receive_more r a.law a.control a.frames _ a.octets.now a.bytes.now a.marks.now l.n _ _ l.line
          l.sequence _ _ _ l.marks _ _ l.said (l.invariant.2 r d) c.loop-n-test.true c.requires.1 refl
          (c.width_of.ensures ∙ ap₂ (λ (b : Bool) (m : Mapping). cond b m.k m.d) c.is_control-is_control.ensures d.mapped)
          (c.receive_frame-got.ensures r (able r d)) c.requires.3 _
          (ap (λ (b : Bool). b && eqb l.line.done 15) c.is_control-is_control.ensures) put.2 _ put.1 _
          c.say-said.ensures,
    )

pub pour_out-requires : goal.pour_out-requires
pour_out-requires c =
    let a = c.args in
    let l = c.loop-n in
    let e = c.carry-line.ensures.0 in
    let d = drawn c.carry-line.result c.requires.0 e c.draw_up-mapping.ensures.0 c.draw_up-mapping.ensures.2 in
    let p = l.invariant.2 _ d in
    let all : l.n ≡ a.frames = omega (arith, p.done) in
    let used : 8 * l.pouring.to + l.pouring.count ≡ call_bits a.r a.control c.carry-line.result.place a.frames =
    p.filled ∙ ap (call_bits _ _ _) all in
    let long : length l.bytes ≡ length a.bytes.now = sym (length-poured l.bytes l.pouring) ∙ (l.invariant.2 _ d).long_bits in
    let room = room_for a.r a.control a.frames c.carry-line.result a.bytes.now e c.requires.2 in
    (l.invariant.1, omega (arith, room, long, used))

pub state_of-requires : goal.state_of-requires
state_of-requires c = c.loop-n.invariant.0

pub shape_of-bytes : goal.shape_of-bytes
shape_of-bytes c =
    let a = c.args in
    let l = c.loop-n in
    let e = c.carry-line.ensures.0 in
    let d = drawn c.carry-line.result c.requires.0 e c.draw_up-mapping.ensures.0 c.draw_up-mapping.ensures.2 in
    let long : length l.bytes ≡ length a.bytes.now = sym (length-poured l.bytes l.pouring) ∙ (l.invariant.2 _ d).long_bits in
    c.pour_out.auto.bytes ∙ long

pub shape_of-marks : goal.shape_of-marks
shape_of-marks c =
    let a = c.args in
    let l = c.loop-n in
    let e = c.carry-line.ensures.0 in
    let d = drawn c.carry-line.result c.requires.0 e c.draw_up-mapping.ensures.0 c.draw_up-mapping.ensures.2 in
    (l.invariant.2 _ d).long_marks

pub returns : goal.returns
returns c =
    let a = c.args in
    let l = c.loop-n in
    let e = c.carry-line.ensures.0 in
    let d = drawn c.carry-line.result c.requires.0 e c.draw_up-mapping.ensures.0 c.draw_up-mapping.ensures.2 in
    let N = a.frames in
    let os = take (6 * N) a.octets.now in
    let byte : (i : ℕ) → get_or a.bytes.now i 0 < 256 = λ i. grind arith in
    let room = room_for a.r a.control a.frames c.carry-line.result a.bytes.now e c.requires.2 in
    let filled = 8 * l.pouring.to + l.pouring.count in
    let rest : 8 * bytes_for l.pouring.count - l.pouring.count ≡ 8 * bytes_for filled - filled = omega arith in
    let all =
    receive_all a.r a.law a.control N _ a.octets.now a.bytes.now a.marks.now l.n filled
    (state_of l.line l.sequence)
    l.said _ _ l.marks (l.invariant.2 _ d) (omega arith) byte room
    (poured-out l.bytes _ l.pouring l.invariant.1 c.pour_out.ensures
    ∙ ap (λ (k : ℕ). put_field (poured l.bytes l.pouring) filled k 0) rest) in (
      c.state_of.ensures ∙ all.0 ∙ ap (λ (st : LineState). receive_after a.r a.law a.control N st os) e,
      all.1 ∙ ap (λ (st : LineState). last_or Nothing (receive_said a.r a.law a.control N st os)) e,
      all.2 ∙ ap
          (λ (st : LineState).
          over (bytes_of (bytes_for (call_bits a.r a.control st.place N)) (nth (receive_frames a.r a.law a.control N st os)))
          a.bytes.now)
          e,
      all.3,
    )
