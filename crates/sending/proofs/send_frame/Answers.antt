-- The parts of the code are those of the definition. Assumes nothing.
use native.Mathlib.Omega.{arith}
use mathlib.Core.Path.{refl, ◌∙◌}
use native.Mathlib.Nat.{lt_of_lt_of_le}
use lib.Pow.{pow_mono}
use Rattle.standard.specs.Frame.{send_frame}
use Rattle.mapping.proofs.Tables.{size-le}
use Rattle.coding.proofs.Stream.{scrambled_lt}
use Rattle.frame.proofs.Widths.{width_in}
use Rattle.sending.proofs.Sending.{sent-below, sent-small, sent-sign, sent-octets, sent-long, sent_line, sent-state}
use Rattle.sending.proofs.send_frame.Goals as goal

pub scramble_past-sent-requires : goal.scramble_past-sent-requires
scramble_past-sent-requires c =
    let s = c.requires.0.1 in
    let w = width_in _ _ s.mapped s.rate c.is_control-control.result _ c.width_of.ensures in
    (s.bounded.past, w.0, w.1)

pub joined_bits-together-requires : goal.joined_bits-together-requires
joined_bits-together-requires c =
    let s = c.requires.0.1 in
    let k = width_in _ _ s.mapped s.rate c.is_control-control.result _ c.width_of.ensures in (
      c.bits_to_send-six.ensures.2,
      lt_of_lt_of_le (scrambled_lt c.scramble_past-sent.ensures).0
          (pow_mono {i = c.width_of.result} {j = 48} k.1),
    )

pub labels_of-labels-requires : goal.labels_of-labels-requires
labels_of-labels-requires c =
    let s = c.requires.0.1 in
    let a = c.args in
    let number = sent_line _ a.sender.now.law _ _ _ _ s a.on a.word a.bits a.sequence.now _ c.is_control-control.ensures _ c.width_of.ensures
    _ _ c.scramble_past-sent.ensures _ _ c.bits_to_send-six.ensures.0 c.bits_to_send-six.ensures.1 _ c.joined_bits-together.ensures in (
      sent-below _ a.sender.now.law _ _ _ _ s a.line.sign _ (sent-long _ a.sender.now.law _ _ _ _ s a.on a.word a.bits a.sequence.now) _ number,
      size-le _ _ s.mapped,
      s.inverse,
    )

pub write_octets-requires : goal.write_octets-requires
write_octets-requires c =
    let p = c.requires in
    let s = p.0.1 in
    let a = c.args in
    let number = sent_line _ a.sender.now.law _ _ _ _ s a.on a.word a.bits a.sequence.now _ c.is_control-control.ensures _ c.width_of.ensures
    _ _ c.scramble_past-sent.ensures _ _ c.bits_to_send-six.ensures.0 c.bits_to_send-six.ensures.1 _ c.joined_bits-together.ensures in (
      sent-small _ a.sender.now.law _ _ _ _ s a.line.sign _ (sent-long _ a.sender.now.law _ _ _ _ s a.on a.word a.bits a.sequence.now) _ number _
          c.labels_of-labels.ensures,
      p.1,
    )

pub next_place-requires : goal.next_place-requires
next_place-requires c =
    c.requires.0.1.bounded.place

pub next_done-requires : goal.next_done-requires
next_done-requires c =
    c.requires.0.1.bounded.done

pub returns : goal.returns
unfolding send_frame
returns c r s =
    let a = c.args in
    let sent = c.scramble_past-sent.ensures in
    let six = c.bits_to_send-six.ensures in
    let long = sent-long r a.sender.now.law _ _ _ _ s a.on a.word a.bits a.sequence.now in
    let number = sent_line r a.sender.now.law _ _ _ _ s a.on a.word a.bits a.sequence.now _ c.is_control-control.ensures _ c.width_of.ensures
    _ _ c.scramble_past-sent.ensures _ _ c.bits_to_send-six.ensures.0 c.bits_to_send-six.ensures.1 _ c.joined_bits-together.ensures in
    let labels = c.labels_of-labels.ensures in
    let signs = c.signs_of-signs.ensures in
    record {
      octets = sent-octets r a.sender.now.law _ _ _ _ s a.line.sign _ long _ number _ labels _ signs _ c.write_octets.ensures;
      state =
          sent-state r a.sender.now.law _ _ _ _ s a.on a.word a.bits a.sequence.now _ c.is_control-control.ensures _
          c.width_of.ensures _ _ sent _ _ six.0 six.1 _ refl
          (c.bit_of.ensures ∙ sent-sign r a.sender.now.law _ _ _ _ s a.line.sign _ long _ number _ labels _ signs 5
          (omega arith)) refl
          c.next_place.ensures.0 c.next_done.ensures.0 refl;
      bounded =
          record {
            past = (scrambled_lt sent).1;
            place = c.next_place.ensures.1;
            done = c.next_done.ensures.1;
          };
    }
