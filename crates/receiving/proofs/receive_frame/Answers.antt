-- The mark and the bits on the line are heard, and then split into control bits and data. Assumes nothing.
use mathlib.Core.Path.{ap, ◌∙◌}
use native.Mathlib.Omega.{arith}
use mathlib.Core.Bool.{Bool}
use mathlib.Core.List.{List}
use Prim.Native.Nat.{ℕ}
use lib.Dec.{eqb}
use Rattle.standard.specs.Bits.{number_of}
use Rattle.standard.specs.Scrambler.{push_all, descramble}
use Rattle.standard.specs.Frame.{sign_at}
use Rattle.coding.specs.Past.{turned}
use Rattle.coding.proofs.Stream.{turned_lt}
use Rattle.coding.proofs.SixSigns.{sign_is}
use Rattle.frame.proofs.Widths.{width_in}
use Rattle.receiving.proofs.Receiving.{data_bits_lem, received-bits, received-state}
use Rattle.receiving.proofs.receive_frame.Goals as goal

pub descramble_past-plain-requires : goal.descramble_past-plain-requires
descramble_past-plain-requires c =
    let s = c.requires.0.1 in
    let w = width_in _ _ s.legible.mapped s.legible.rate c.is_control-control.result _ c.width_of-width.ensures in
    (s.bounded.past, w.0, w.1)

pub next_place-requires : goal.next_place-requires
next_place-requires c =
    c.requires.0.1.bounded.place

pub next_done-requires : goal.next_done-requires
next_done-requires c =
    c.requires.0.1.bounded.done

pub returns : goal.returns
returns c r s =
    let a = c.args in
    let os = a.octets.now in
    let h = turned a.line.past in
    let m = s.legible.mapped in
    let control = c.is_control-control.ensures in
    let width = c.width_of-width.ensures in
    let heard = c.hear-heard.ensures r s.legible in
    let good = ap (λ (x : ℕ). eqb x 0) heard.0 in
    let bits = data_bits_lem r a.receiver.now.law os _ m a.line a.on a.sequence.now _ heard.1 _ control _ width _ c.data_of.ensures in
    let out = c.descramble_past-plain.ensures in
    record {
      mark = heard.0;
      state =
          received-state r a.receiver.now.law os _ m a.line a.on a.sequence.now _ heard.1 _ control _ width _ _ _ good
          (out.1 ∙ ap (λ (bs : List Bool). turned (push_all h bs)) bits)
          (c.bit_of.ensures ∙ sign_is (sign_at os) _ c.signs_in-signs.ensures 5 (omega arith)) c.doubtful_after.ensures
          c.next_place.ensures.0 c.next_done.ensures.0 c.lost_after.ensures
          c.keep.ensures;
      bounded = record {
        past = rw out.1 (turned_lt _);
        place = c.next_place.ensures.1;
        done =
            c.next_done.ensures.1;
      };
      bits =
          c.if_good.ensures
          ∙ received-bits r a.receiver.now.law os _ m a.line a.on a.sequence.now _ heard.1 _ control _ width _ good _
          (out.0 ∙ ap (λ (bs : List Bool). number_of (descramble h bs)) bits);
    }
