-- Frame by frame through the data of a call. Assumes nothing.
use mathlib.Core.Path.{◌≡◌, refl, sym, ap, ap₂, ◌∙◌}
use Prim.Native.Nat.{ℕ, ◌+◌, ◌-◌, ◌*◌, ◌≤◌, ◌<◌}
use mathlib.Core.Bool.{Bool}
use mathlib.Core.List.{List, ◌++◌}
use native.Mathlib.Nat.{mul-le-mul}
use native.Mathlib.Omega.{arith}
use borrow.Rule.Slice.PartMut.{put_mid}
use lib.ListN.{length, take, drop, length-append, length-drop}
use Rattle.standard.specs.Lists.{list_from, joined, each, after}
use Rattle.standard.specs.Bits.{bit_at, bits_in, field, bits_of}
use Rattle.standard.specs.Record.{D}
use Rattle.standard.specs.Frame.{is_control, width, data_bits, call_bits, Outgoing, send_frame, send_next}
use Rattle.standard.specs.Frame.{outgoing_frames, send_frames, send_after}
use Rattle.standard.specs.Calls.{over}
use Rattle.standard.specs.declared.Law.{Law}
use Rattle.standard.specs.declared.LineState.{LineState}
use Rattle.standard.specs.declared.Record.{Record}
use Rattle.standard.proofs.Frame.{length-send_frames}
use Rattle.standard.proofs.Frame.{call_bits-le, call_bits_mono, next_out, send_bits-next, send_frames-next, send_after-next}
use Rattle.standard.proofs.Filling.{front_more}
use Rattle.mapping.specs.declared.Mapping.{Mapping}
use Rattle.mapping.specs.Tables.{point_tables}
use Rattle.frame.specs.declared.Carried.{Carried}
use Rattle.coding.specs.Reciprocals.{reciprocal_of}
use Rattle.frame.specs.Parts.{state_of, Bounded}
use Rattle.sending.specs.Parts.{outgoing, Sendable, SentAs}
use Rattle.frame.specs.Allowed.{Drawn}
use Rattle.frames_sent.specs.Loops.{Sending}
use Rattle.frames_sent.proofs.Buffers.{frame-bits}

module _ (r : Record) (l : Law) (on : Bool) (v N : ℕ) (st : LineState) (bytes os₀ : List ℕ) where
  abbrev ds : List Bool
  ds = bits_in (call_bits r on st.place N) bytes

  pub send_start : Sending r l on v N st ds os₀ 0 0 st os₀
  unfolding send_frames send_after outgoing_frames joined each after data_bits
  send_start = record { done = omega arith; used = refl; left = refl; long = refl; octets = refl }

  pub sendable : (n : ℕ) (m : Mapping) (vs : List ℕ) (ps : List (List ℕ)) (x : Carried) → Drawn point_tables r st N m ps → n < N
      → vs ≡ list_from (reciprocal_of m.sizes) 0 6 → Bounded x → Sendable r m vs ps x
  sendable n m vs ps x d h ev low =
      record {
        rate = d.allowed.rate;
        mapped = d.mapped;
        inverse = ev;
        points = d.tabled;
        holds = d.allowed.holds
            (omega arith);
        bounded = low;
      }

  -- one frame more, of k data bits
  module _ (n used k word : ℕ) (x y : Carried) (cs cs' os six : List ℕ) (p : Sending r l on v N st ds os₀ n used (state_of x cs) os)
      (h : n < N) (wide : k ≡ width r (is_control on x.place)) (ew : word ≡ field (bit_at bytes) used k)
      (e : SentAs r l (outgoing r on v x word) x cs y cs' six) where
    abbrev f : Outgoing
    f = next_out r l on n st v ds

    at_place : x.place ≡ (send_after r on v n st ds).place
    at_place = ap (λ (z : LineState). z.place) p.left

    -- the bits are those after the ones used
    next-used : used + k ≡ call_bits r on st.place (n + 1)
    next-used =
        ap₂ ◌+◌ p.used (wide ∙ ap (λ (q : ℕ). width r (is_control on q)) at_place) ∙ sym (send_bits-next r l on n st v ds)

    bits_are : bits_of k word ≡ f.bits
    bits_are =
        let room = call_bits_mono r on st.place (n + 1) N (omega arith) in
        ap (bits_of k) ew ∙ frame-bits bytes used k (call_bits r on st.place N) (omega (arith, next-used))
        ∙ ap₂ (λ (d q : ℕ). take d (drop q ds)) (wide ∙ ap (λ (q : ℕ). width r (is_control on q)) at_place) p.used

    frame_is : outgoing r on v x word ≡ f
    frame_is =
        ap (λ (bs : List Bool). record { control = on; sequence = v; bits = bs })
        (ap (λ (d : ℕ). bits_of d word) (sym wide) ∙ bits_are)

    pub send_more : 6 * N ≤ length os₀
        → Sending r l on v N st ds os₀ (n + 1) (used + k) (state_of y cs') (put_mid (6 * n) (6 * n + 6 - 6 * n) os six)
    send_more room =
        let front : List ℕ = send_frames r l on v n st ds in
        let flong : length front ≡ 6 * n = length-send_frames r l on n st v ds ∙ omega arith in
        let q : 6 * n + 6 ≡ 6 * (n + 1) = omega arith in
        let is : put_mid (6 * n) (6 * n + 6 - 6 * n) os six ≡ send_frames r l on v (n + 1) st ds ++ drop (6 * (n + 1)) os₀ =
        ap (λ (x : List ℕ). put_mid (6 * n) (6 * n + 6 - 6 * n) x six) p.octets ∙ front_more front six os₀ (6 * n) 6 flong
        ∙ ap₂ (λ (x : List ℕ) (k : ℕ). (front ++ x) ++ drop k os₀) (e.octets ∙ ap₂ (send_frame r l) p.left frame_is) q
        ∙ ap (λ (x : List ℕ). x ++ drop (6 * (n + 1)) os₀) (sym (send_frames-next r l on n st v ds)) in
        record {
          done = omega arith;
          used = next-used;
          left = e.state ∙ ap₂ send_next p.left frame_is ∙ sym (send_after-next r l on n st v ds);
          long = ap length is ∙ length-append (send_frames r l on v (n + 1) st ds) (drop (6 * (n + 1)) os₀)
              ∙ omega (arith, length-send_frames r l on (n + 1) st v ds, length-drop (6 * (n + 1)) os₀);
          octets = is;
        }

  pub send_all : (n used : ℕ) (state : LineState) (os : List ℕ) → Sending r l on v N st ds os₀ n used state os → N ≤ n
      → (state ≡ send_after r on v N st ds) × (os ≡ over (send_frames r l on v N st ds) os₀)
  send_all n used state os p h =
      let e : n ≡ N = omega (arith, p.done) in
      let z : 6 * n ≡ length (send_frames r l on v N st ds) = omega (arith, length-send_frames r l on N st v ds) in
      (p.left ∙ ap (λ (k : ℕ). send_after r on v k st ds) e, p.octets ∙ ap₂ (λ (k i : ℕ). send_frames r l on v k st ds ++ drop i os₀) e z)

-- no call has more data bits than these
pub few_bits : (r : Record) (on : Bool) (p n : ℕ) → n ≤ 1024 → p < 64 → r.drn ≤ 28 → call_bits r on p n ≤ 49152
few_bits r on p n a b d =
    let most : n * D r ≤ 1024 * 48 = mul-le-mul {n₂ = 1024} {m₂ = 48} a (omega arith) in
    omega (arith, call_bits-le r on p n b)
