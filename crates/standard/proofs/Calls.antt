-- What an accepted call of the sender and of the receiver reads, writes and leaves. Assumes nothing.
use mathlib.Core.Path.{◌≡◌, ◌∙◌}
use Prim.Native.Nat.{◌*◌, ◌≤◌, ◌<◌}
use mathlib.Core.Bool.{true, false}
use native.Mathlib.Omega.{arith}
use borrow.Author.Tests.{ltb-false}
use lib.ListN.{length, take, drop}
use lib.Seq.{length-take-le, take_at}
use Rattle.standard.specs.Lists.{last_or}
use Rattle.standard.specs.Bits.{bits_in, bytes_for}
use Rattle.standard.specs.Frame.{call_bits, send_frames, send_after, receive_frames, receive_marks, receive_after, receive_said}
use Rattle.standard.specs.Refusals.{place_too_large}
use Rattle.standard.specs.Calls.{accepted, SendCall, send_refusal, send_bits, send_left, send_octets, ReceiveCall, receive_refusal}
use Rattle.standard.specs.Calls.{receive_octets, receive_left, receive_bytes, receive_marked, receive_says}
use Rattle.standard.specs.declared.Law.{Law}
use Rattle.standard.specs.declared.LineState.{LineState}
use Rattle.standard.specs.declared.Record.{Record}
use Rattle.standard.specs.declared.Said.TheVariants.{Nothing}
use Rattle.standard.proofs.Bits.{length-bits_in, bits_written}
use Rattle.standard.proofs.Frame.{Holds, length-send_frames, length-receive_frames, length-receive_marks}
use Rattle.standard.proofs.Refusals.{passed, few_passed, rated_passed, holds_passed}

pub record Sends (r : Record) (l : Law) (st : LineState) (c : SendCall) : Type 0 where
  pub many : length (send_bits st c) ≡ call_bits r c.control st.place c.frames
  pub octets : take (6 * c.frames) (send_octets st c) ≡ send_frames r l c.control c.sequence c.frames st (send_bits st c)
  pub state : send_left st c ≡ send_after r c.control c.sequence c.frames st (send_bits st c)
  pub few : c.frames ≤ 1024
  pub places : place_too_large st ≡ false
  pub holds : 0 < c.frames → Holds r

pub sends-own : (st : LineState) (c : SendCall) → accepted (send_refusal st c) ≡ true → Sends c.cp c.law st c
unfolding send_refusal send_bits send_left send_octets
sends-own st c e =
    let n = c.frames in
    let os = send_frames c.cp c.law c.control c.sequence n st (send_bits st c) in
    let p = passed c.cp st n _ _ e in
    record {
      many = length-bits_in (call_bits c.cp c.control st.place n) c.bytes;
      octets = rw e
          (take_at os (drop (length os) c.octets) (6 * n)
          (length-send_frames c.cp c.law c.control n st c.sequence (send_bits st c) ∙ omega arith));
      state = rw e;
      few = few_passed c.cp st n _ _ p;
      places = p.places;
      holds = holds_passed c.cp st n _ _ p;
    }

pub record Receives (r : Record) (l : Law) (st : LineState) (c : ReceiveCall) : Type 0 where
  pub many : length (receive_octets c) ≡ c.frames * 6
  pub bits : bits_in (call_bits r c.control st.place c.frames) (receive_bytes st c) ≡ receive_frames r l c.control c.frames st
      (receive_octets c)
  pub marks : take c.frames (receive_marked st c) ≡ receive_marks r l c.frames (receive_octets c)
  pub state : receive_left st c ≡ receive_after r l c.control c.frames st (receive_octets c)
  pub says : receive_says st c ≡ last_or Nothing (receive_said r l c.control c.frames st (receive_octets c))
  pub few : c.frames ≤ 1024
  pub places : place_too_large st ≡ false
  pub rated : 0 < c.frames → (0 < r.drn) × (r.drn ≤ 28)

pub receives-own : (st : LineState) (c : ReceiveCall) → accepted (receive_refusal st c) ≡ true → Receives c.cp c.law st c
unfolding receive_refusal receive_octets receive_left receive_bytes receive_marked receive_says
receives-own st c e =
    let n = c.frames in
    let k = call_bits c.cp c.control st.place n in
    let bs = receive_frames c.cp c.law c.control n st (receive_octets c) in
    let ms = receive_marks c.cp c.law n (receive_octets c) in
    let p = passed c.cp st n _ _ e in
    record {
      many = length-take-le (6 * n) c.octets (ltb-false (length c.octets) (6 * n) p.enough) ∙ omega arith;
      bits = rw e (bits_written k (bytes_for k) bs _ (length-receive_frames c.cp c.law c.control n st (receive_octets c))
          (omega arith));
      marks = rw e (take_at ms (drop (length ms) c.marks) n (length-receive_marks c.cp c.law c.control n st (receive_octets c)));
      state = rw e;
      says = rw e;
      few = few_passed c.cp st n _ _ p;
      places = p.places;
      rated = rated_passed c.cp st n _ _ p;
    }
