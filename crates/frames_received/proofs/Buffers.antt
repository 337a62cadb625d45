-- Laws of buffers that are written frame by frame. Assumes nothing.
use mathlib.Core.Path.{◌≡◌, sym, ap, ◌∙◌}
use Prim.Native.Nat.{ℕ, ◌+◌, ◌-◌, ◌*◌, ◌/◌, ◌%◌, ◌≤◌, ◌<◌}
use mathlib.Core.Bool.{Bool, cond}
use mathlib.Core.List.{List}
use native.Mathlib.Decide.{dec_lt}
use native.Mathlib.Omega.{arith}
use borrow.Author.Tests.{lt-ltb, le-ltb, le-leb, lt-leb}
use lib.Dec.{ltb}
use lib.ListN.{length, get_or, take, drop, length-append, length-drop, get_or-append}
use lib.Seq.{ext_get_or, take_all, get_or-take, get_or-drop, get_or-append-add, length-take-le}
use Rattle.standard.specs.Bits.{bit, bit_at, field, bytes_of}
use Rattle.standard.specs.Cp.{put, covers}
use Rattle.standard.specs.Calls.{over}
use Rattle.standard.proofs.Lists.{get_d_list}
use Rattle.standard.proofs.Bits.{field_lt, length-bytes_of, bytes_of_ext, bit_at-bytes, bytes_back}
use Rattle.bits.specs.PutField.{put_field}
use Rattle.bits.proofs.PutField.{put_field-bytes}
use Rattle.frames_received.specs.Buffers.{bits_over}

-- the six octets of frame n
pub frame-octets : (os : List ℕ) (n N : ℕ) → n < N → 6 * N ≤ length os → take 6 (drop (6 * n) os) ≡ take 6 (drop (n * 6) (take (6 * N) os))
frame-octets os n N h l =
    let e : 6 * n ≡ n * 6 = omega arith in
    ap (λ (i : ℕ). take 6 (drop i os)) e
    ∙ ext_get_or 0 (take 6 (drop (n * 6) os)) (take 6 (drop (n * 6) (take (6 * N) os)))
    (long os (omega arith) ∙ sym (long (take (6 * N) os) (omega (arith, length-take-le (6 * N) os l))))
    (λ j k.
    let i : j < 6 = rw (long os (omega arith)) at k in
    get_or-take 6 (drop (n * 6) os) j 0 i ∙ get_or-drop (n * 6) os j 0
    ∙ sym (get_or-take 6 (drop (n * 6) (take (6 * N) os)) j 0 i ∙ get_or-drop (n * 6) (take (6 * N) os) j 0
    ∙ get_or-take (6 * N) os (n * 6 + j) 0 (omega arith)))
  where
    long : (xs : List ℕ) → n * 6 + 6 ≤ length xs → length (take 6 (drop (n * 6) xs)) ≡ 6
    long xs k = length-take-le 6 (drop (n * 6) xs) (omega (arith, length-drop (n * 6) xs))

-- ---- bits over the front of bytes

module _ (f : ℕ → Bool) (s : List ℕ) where
  pub bits_over-none : ((i : ℕ) → get_or s i 0 < 256) → s ≡ bits_over 0 f s
  unfolding bits_over
  bits_over-none b =
      sym (bytes_of_ext (length s) (λ p. cond (ltb p 0) (f p) (bit_at s p)) (bit_at s) (λ p h. rw (le-ltb p 0 (omega arith)))
      ∙ bytes_back (length s) s b (omega arith) ∙ take_all (length s) s (omega arith))

-- k bits more: those of the number v
pub bits_over_more : (f g : ℕ → Bool) (s : List ℕ) (n k v : ℕ) → ((p : ℕ) → p < n → f p ≡ g p) → ((j : ℕ) → j < k → bit v j ≡ g (n + j))
    → put_field (bits_over n f s) n k v ≡ bits_over (n + k) g s
unfolding bits_over
bits_over_more f g s n k v a b =
    put_field-bytes (length s) (λ p. cond (ltb p n) (f p) (bit_at s p)) n k v
    ∙ bytes_of_ext (length s) (λ p. cond (covers (put n k v) p) (bit v (p - n)) (cond (ltb p n) (f p) (bit_at s p)))
    (λ p. cond (ltb p (n + k)) (g p) (bit_at s p)) (λ p h. go p (dec_lt p n) (dec_lt p (n + k)))
  where
    go : (p : ℕ) → Dec (p < n) → Dec (p < n + k) → cond (covers (put n k v) p) (bit v (p - n)) (cond (ltb p n) (f p) (bit_at s p))
        ≡ cond (ltb p (n + k)) (g p) (bit_at s p)
    go p (yes l) d = rw (lt-leb n p l, lt-ltb p n l, lt-ltb p (n + k) (omega arith)) (a p l)
    go p (no l) (yes d) =
        let e : n + (p - n) ≡ p = omega arith in
        rw (le-leb n p (omega arith), lt-ltb p (n + k) d) (b (p - n) (omega arith) ∙ ap g e)
    go p (no l) (no d) = rw (le-leb n p (omega arith), le-ltb p (n + k) (omega arith), le-ltb p n (omega arith))

-- whole bytes
module _ (m : ℕ) (f : ℕ → Bool) (s : List ℕ) (bytes : (i : ℕ) → get_or s i 0 < 256) (h : m ≤ length s) where
  abbrev written : List ℕ
  written = over (bytes_of m f) s

  long : length (bytes_of m f) ≡ m
  long = length-bytes_of m f

  past : (i : ℕ) → m ≤ i → get_or written i 0 ≡ get_or s i 0
  past i l =
      let e : i ≡ length (bytes_of m f) + (i - m) = omega (arith, long) in
      let z : length (bytes_of m f) + (i - m) ≡ i = omega (arith, long) in
      ap (λ (k : ℕ). get_or written k 0) e ∙ get_or-append-add (bytes_of m f) (drop (length (bytes_of m f)) s) (i - m) 0
      ∙ get_or-drop (length (bytes_of m f)) s (i - m) 0 ∙ ap (λ (k : ℕ). get_or s k 0) z

  written_lt : (i : ℕ) → get_or written i 0 < 256
  unfolding bytes_of
  written_lt i = go (dec_lt i m)
    where
      go : Dec (i < m) → get_or written i 0 < 256
      go (yes l) = rw (get_or-append (bytes_of m f) (drop (length (bytes_of m f)) s) 0 i (omega (arith, long))
          ∙ get_d_list (λ k. field f (8 * k) 8) 0 m i l) (field_lt f (8 * i) 8)
      go (no l) = rw (past i (omega arith)) (bytes i)

  written_bit : (p : ℕ) → cond (ltb p (8 * m)) (f p) (bit_at s p) ≡ bit_at written p
  unfolding bit_at
  written_bit p = go (dec_lt p (8 * m))
    where
      go : Dec (p < 8 * m) → cond (ltb p (8 * m)) (f p) (bit_at s p) ≡ bit_at written p
      go (yes l) = rw (lt-ltb p (8 * m) l) (sym (bit_at-bytes m f (drop (length (bytes_of m f)) s) p l))
      go (no l) = rw (le-ltb p (8 * m) (omega arith)) (sym (ap (λ (x : ℕ). bit x (p % 8)) (past (p / 8) (omega arith))))

  pub bits_over-bytes : bits_over (8 * m) f s ≡ over (bytes_of m f) s
  unfolding bits_over
  bits_over-bytes =
      let n : length written ≡ length s = length-append (bytes_of m f) (drop (length (bytes_of m f)) s)
      ∙ omega (arith, long, length-drop (length (bytes_of m f)) s) in
      bytes_of_ext (length s) (λ p. cond (ltb p (8 * m)) (f p) (bit_at s p)) (bit_at written) (λ p l. written_bit p)
      ∙ bytes_back (length s) written written_lt (omega arith) ∙ take_all (length s) written (omega arith)
