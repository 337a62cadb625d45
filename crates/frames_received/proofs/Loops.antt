-- Frame by frame through the line of a call. Assumes nothing.
use mathlib.Core.Path.{◌≡◌, refl, sym, ap, ap₂, ◌∙◌}
use Prim.Native.Nat.{ℕ, suc, ◌+◌, ◌-◌, ◌*◌, ◌^◌, ◌≤◌, ◌<◌}
use mathlib.Core.Bool.{Bool, true, false, cond}
use mathlib.Core.List.{List, [], ◌∷◌, ◌++◌, append-nil}
use native.Mathlib.Nat.{zero-div}
use native.Mathlib.Numerals.{add-one}
use native.Mathlib.Omega.{arith}
use lib.ListN.{length, get_or, take, drop, set, length-set, get_or-append, get_or-eq_default}
use lib.Seq.{drop-cons, set_at, append_snoc, get_or-append-add}
use Rattle.standard.specs.Lists.{last_or, parts, joined, each, after}
use Rattle.standard.specs.Bits.{odd, bit, bit_at, bytes_for, bytes_of, nth}
use Rattle.standard.specs.Control.{judged}
use Rattle.standard.specs.Frame.{is_control, width, data_bits, call_bits, ends_in, Incoming, receive_frame}
use Rattle.standard.specs.Frame.{said_in, receive_next, mark, six_in, incoming_frames, receive_frames}
use Rattle.standard.specs.Frame.{receive_marks, receive_after, receive_said}
use Rattle.standard.specs.Calls.{over}
use Rattle.standard.specs.declared.Law.{Law}
use Rattle.standard.specs.declared.LineState.{LineState}
use Rattle.standard.specs.declared.Record.{Record}
use Rattle.standard.specs.declared.Said.{Said}
use Rattle.standard.specs.declared.Said.TheVariants.{Nothing}
use Rattle.standard.proofs.Bits.{number_of-at, number_of-lt}
use Rattle.standard.proofs.Lists.{last_or_snoc}
use Rattle.standard.proofs.Frame.{said-end, said-none, length-receive_frame, length-receive_frames, length-receive_marks}
use Rattle.standard.proofs.Frame.{call_bits_mono, next_in}
use Rattle.standard.proofs.Frame.{receive_bits_next, receive_frames-next, receive_after-next, receive_said-next, receive_marks-next}
use Rattle.bits.specs.PutField.{put_field}
use Rattle.bits.proofs.PutField.{length-put_field}
use Rattle.mapping.specs.declared.Mapping.{Mapping}
use Rattle.mapping.specs.Tables.{label_tables}
use Rattle.frame.specs.declared.Carried.{Carried}
use Rattle.frame.specs.Parts.{state_of, Bounded}
use Rattle.receiving.specs.declared.FrameReceived.{FrameReceived}
use Rattle.receiving.specs.Parts.{Receivable, ReceivedAs}
use Rattle.frames_received.specs.Buffers.{bits_over}
use Rattle.frame.specs.Allowed.{Drawn}
use Rattle.frames_received.specs.Loops.{Receiving}
use Rattle.frames_received.proofs.Buffers.{frame-octets, bits_over-none, bits_over_more, bits_over-bytes}

-- the bits of a list and of a list after it
nth_left : (xs ys : List Bool) (p : ℕ) → p < length xs → nth xs p ≡ nth (xs ++ ys) p
unfolding nth
nth_left xs ys p h = sym (get_or-append xs ys false p h)

nth_right : (xs ys : List Bool) (j : ℕ) → nth ys j ≡ nth (xs ++ ys) (length xs + j)
unfolding nth
nth_right xs ys j = sym (get_or-append-add xs ys j false)

-- one mark more
mark_more : (xs : List ℕ) (n v : ℕ) (buffer : List ℕ) → length xs ≡ n → n < length buffer → set (xs ++ drop n buffer) n v ≡ (xs ++ (v ∷ []))
    ++ drop (n + 1) buffer
mark_more xs n v buffer e h =
    ap (λ (t : List ℕ). set (xs ++ t) n v) (drop-cons buffer n 0 h) ∙ set_at xs (get_or buffer n 0) (drop (suc n) buffer) v n e
    ∙ sym (append_snoc xs v (drop (suc n) buffer)) ∙ ap (λ (k : ℕ). (xs ++ (v ∷ [])) ++ drop k buffer) (sym (add-one n))

module _ (r : Record) (l : Law) (on : Bool) (N : ℕ) (st : LineState) (line bs₀ ms₀ : List ℕ) where
  abbrev os : List ℕ
  os = take (6 * N) line

  abbrev all : ℕ
  all = call_bits r on st.place N

  pub receive_start : ((i : ℕ) → get_or bs₀ i 0 < 256) → Receiving r l on N st os bs₀ ms₀ 0 0 st Nothing bs₀ ms₀
  unfolding receive_frames receive_after receive_marks receive_said incoming_frames parts joined each after data_bits last_or
  receive_start b =
      record {
        done = omega arith;
        filled = refl;
        left = refl;
        said = refl;
        long_bits = refl;
        bits = bits_over-none (nth []) bs₀ b;
        long_marks = refl;
        marks = refl;
      }

  pub receivable : (m : Mapping) (ls : List (List ℕ)) (x : Carried) → Drawn label_tables r st N m ls → Bounded x → Receivable r m ls x
  receivable m ls x d low =
      record { legible = record { rate = d.allowed.rate; mapped = d.mapped; labels = d.tabled }; bounded = low }

  -- one frame more, the six octets `part`, of k data bits
  module _ (n filled k : ℕ) (x : Carried) (cs cs' bs bs' ms part : List ℕ) (y : FrameReceived) (before : Said)
      (p : Receiving r l on N st os bs₀ ms₀ n filled (state_of x cs) before bs ms) (h : n < N) (room : 6 * N ≤ length line)
      (ep : part ≡ take (6 * n + 6 - 6 * n) (drop (6 * n) line)) (wide : k ≡ width r (is_control on x.place))
      (e : ReceivedAs r l (six_in on part) x cs y cs') where
    abbrev next : Incoming
    next = next_in r l on n st os

    octets_are : six_in on part ≡ next
    octets_are =
        let six-wide : 6 * n + 6 - 6 * n ≡ 6 = omega arith in
        ap (six_in on) (ep ∙ ap (λ (k : ℕ). take k (drop (6 * n) line)) six-wide ∙ frame-octets line n N h room)

    k_is : k ≡ width r (is_control on (receive_after r l on n st os).place)
    k_is = wide ∙ ap (λ (z : LineState). width r (is_control on z.place)) p.left

    next-filled : filled + k ≡ call_bits r on st.place (n + 1)
    next-filled = ap₂ ◌+◌ p.filled k_is ∙ sym (receive_bits_next r l on n st os)

    abbrev given : List Bool
    given = receive_frames r l on n st os

    abbrev gives : List Bool
    gives = receive_frame r l (state_of x cs) (six_in on part)

    whole : given ++ gives ≡ receive_frames r l on (n + 1) st os
    whole =
        ap₂ (λ (z : LineState) (f : Incoming). given ++ receive_frame r l z f) p.left octets_are ∙ sym (receive_frames-next r l on n st os)

    -- the word that is poured is as wide as the frame
    pub word_fits : y.bits < 2 ^ k
    word_fits =
        let long : length gives ≡ k = length-receive_frame r l (state_of x cs) (six_in on part) ∙ sym wide in
        rw (e.bits, ← long) (number_of-lt gives)

    pub bits-room : bytes_for all ≤ length bs₀ → filled + k ≤ 8 * length bs
    bits-room fits = omega (arith, next-filled, call_bits_mono r on st.place (n + 1) N (omega arith), p.long_bits)

    said_more : (ends : Bool) → ends ≡ ends_in (state_of x cs) on
        → cond ends (judged y.line.lost (bit_at cs')) before ≡ last_or Nothing (receive_said r l on (n + 1) st os)
    said_more ends ee =
        go ends (sym ee)
        ∙ ap (last_or Nothing) (ap₂ (λ (z : LineState) (f : Incoming). receive_said r l on n st os ++ said_in r l z f) p.left octets_are
        ∙ sym (receive_said-next r l on n st os))
      where
        go : (b : Bool) → ends_in (state_of x cs) on ≡ b → cond b (judged y.line.lost (bit_at cs')) before
            ≡ last_or Nothing (receive_said r l on n st os ++ said_in r l (state_of x cs) (six_in on part))
        go true q =
            ap (λ (z : LineState). judged z.lost (bit_at z.sequence)) e.state
            ∙ sym (last_or_snoc Nothing _ (receive_said r l on n st os))
            ∙ ap (λ (z : List Said). last_or Nothing (receive_said r l on n st os ++ z))
            (sym (said-end r l (state_of x cs) (six_in on part) q))
        go false q =
            p.said ∙ ap (last_or Nothing) (sym (append-nil (receive_said r l on n st os)))
            ∙ ap (λ (z : List Said). last_or Nothing (receive_said r l on n st os ++ z))
            (sym (said-none r l (state_of x cs) (six_in on part) q))

    pub receive_more : N ≤ length ms₀ → (ends : Bool) → ends ≡ ends_in (state_of x cs) on → bs' ≡ put_field bs filled k y.bits
        → (to : ℕ) → to ≡ filled + k → (answer : Said) → answer ≡ cond ends (judged y.line.lost (bit_at cs')) before
        → Receiving r l on N st os bs₀ ms₀ (n + 1) to (state_of y.line cs') answer bs' (set ms n y.mark)
    receive_more marked ends ee eb to et answer ea =
        let at = call_bits r on st.place n in
        let put : bs' ≡ put_field bs at k y.bits = eb ∙ ap (λ (i : ℕ). put_field bs i k y.bits) p.filled in
        let glong : length given ≡ at = length-receive_frames r l on n st os in
        record {
          done = omega arith;
          filled = et ∙ next-filled;
          left = e.state ∙ ap₂ (receive_next r l) p.left octets_are ∙ sym (receive_after-next r l on n st os);
          said = ea ∙ said_more ends ee;
          long_bits = ap length put ∙ length-put_field bs at k y.bits ∙ p.long_bits;
          bits =
              put ∙ ap (λ (x : List ℕ). put_field x at k y.bits) p.bits
              ∙ bits_over_more (nth given) (nth (receive_frames r l on (n + 1) st os)) bs₀ at k y.bits
              (λ q i. nth_left given gives q (omega (arith, glong)) ∙ ap (λ (x : List Bool). nth x q) whole)
              (λ j i.
              ap (λ (x : ℕ). bit x j) e.bits ∙ number_of-at gives j ∙ nth_right given gives j
              ∙ ap₂ (λ (x : List Bool) (i : ℕ). nth x (i + j)) whole glong)
              ∙ ap (λ (i : ℕ). bits_over i (nth (receive_frames r l on (n + 1) st os)) bs₀)
              (ap (λ (i : ℕ). i + k) (sym p.filled) ∙ next-filled);
          long_marks = length-set ms n y.mark ∙ p.long_marks;
          marks =
              ap (λ (x : List ℕ). set x n y.mark) p.marks
              ∙ mark_more (receive_marks r l n os) n y.mark ms₀ (length-receive_marks r l on n st os) (omega arith)
              ∙ ap (λ (x : ℕ). (receive_marks r l n os ++ (x ∷ [])) ++ drop (n + 1) ms₀)
              (e.mark ∙ ap (λ (f : Incoming). mark r l f.octets) octets_are)
              ∙ ap (λ (x : List ℕ). x ++ drop (n + 1) ms₀) (sym (receive_marks-next r l on n st os));
        }

  -- the rest of the last byte is zeroed at the end
  pub receive_all : (n filled : ℕ) (state : LineState) (said : Said) (bs bs' ms : List ℕ)
      → Receiving r l on N st os bs₀ ms₀ n filled state said bs ms → N ≤ n → ((i : ℕ) → get_or bs₀ i 0 < 256) → bytes_for all ≤ length bs₀
      → bs' ≡ put_field bs filled (8 * bytes_for filled - filled) 0
      → (state ≡ receive_after r l on N st os)
      × (said ≡ last_or Nothing (receive_said r l on N st os))
      × (bs' ≡ over (bytes_of (bytes_for all) (nth (receive_frames r l on N st os))) bs₀)
      × (ms ≡ over (receive_marks r l N os) ms₀)
  unfolding nth
  receive_all n filled state said bs bs' ms p h b room eb =
      let e : n ≡ N = omega (arith, p.done) in
      let f : filled ≡ all = p.filled ∙ ap (call_bits r on st.place) e in
      let given : List Bool = receive_frames r l on N st os in
      let glong : length given ≡ all = length-receive_frames r l on N st os in
      let z : all + (8 * bytes_for all - all) ≡ 8 * bytes_for all = omega arith in
      let y : n ≡ length (receive_marks r l N os) = e ∙ sym (length-receive_marks r l on N st os) in (
        p.left ∙ ap (λ (i : ℕ). receive_after r l on i st os) e,
        p.said ∙ ap (λ (i : ℕ). last_or Nothing (receive_said r l on i st os)) e,
        eb ∙ ap₂ (λ (x : List ℕ) (i : ℕ). put_field x i (8 * bytes_for i - i) 0)
            (p.bits ∙ ap (λ (i : ℕ). bits_over (call_bits r on st.place i) (nth (receive_frames r l on i st os)) bs₀) e) f
            ∙ bits_over_more (nth given) (nth given) bs₀ all (8 * bytes_for all - all) 0 (λ q i. refl) (λ j i. zeros given j glong)
            ∙ ap (λ (i : ℕ). bits_over i (nth given) bs₀) z ∙ bits_over-bytes (bytes_for all) (nth given) bs₀ b room,
        p.marks ∙ ap₂ (λ (i j : ℕ). receive_marks r l i os ++ drop j ms₀) e y,
      )
    where
      zeros : (given : List Bool) (j : ℕ) → length given ≡ all → bit 0 j ≡ nth given (all + j)
      zeros given j g = ap odd (zero-div (2 ^ j)) ∙ sym (get_or-eq_default given false {n = all + j} (omega arith))
