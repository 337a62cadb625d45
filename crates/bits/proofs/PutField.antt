-- Laws of bits put into bytes. Assumes nothing.
use mathlib.Core.Path.{◌≡◌, refl, sym, ap, ◌∙◌}
use Prim.Native.Nat.{ℕ, ◌+◌, ◌-◌, ◌*◌, ◌/◌, ◌%◌, ◌^◌, ◌≤◌, ◌<◌}
use mathlib.Core.Bool.{Bool, cond, and-false}
use mathlib.Core.List.{List, [], append-nil}
use native.Mathlib.Nat.{mod-lt}
use native.Mathlib.Decide.{dec_lt, ℕ_discrete}
use native.Mathlib.Omega.{arith}
use borrow.Author.Tests.{lt-ltb, le-ltb, le-leb, lt-leb}
use lib.ListN.{length, get_or, set, length-set}
use lib.Pow.{pow_pos}
use lib.Seq.{get_or-set_same, get_or-set_other, take_all}
use Rattle.standard.specs.Bits.{bit, bit_at, field, bytes_of}
use Rattle.standard.specs.Cp.{put, covers}
use Rattle.standard.proofs.Lists.{list_from_is}
use Rattle.standard.proofs.Bits.{field_is, length-bytes_of, bytes_of_ext, bit_at-bytes, bytes_back}
use Rattle.bits.specs.PutField.{bit_with, put_field}
use Rattle.bits.proofs.Bits.{low_bit, down_bit, bit_at_byte}

-- ---- one bit

module _ (f : ℕ → Bool) (p k v n : ℕ) where
  -- a bit of the field
  pub bit_with_in : p ≤ n → n < p + k → bit_with f p k v n ≡ bit v (n - p)
  bit_with_in a b = rw (le-leb p n a, lt-ltb n (p + k) b)

  -- the bits before it and after it
  pub bit_with-below : n < p → bit_with f p k v n ≡ f n
  bit_with-below a = rw (lt-leb p n a)

  pub bit_with-above : p + k ≤ n → bit_with f p k v n ≡ f n
  bit_with-above a = rw (le-ltb n (p + k) a, and-false)

-- the same bit, counted from b bits before
pub bit_with_from : (f g : ℕ → Bool) (b p k v n : ℕ) → f n ≡ g (b + n) → bit_with f p k v n ≡ bit_with g (b + p) k v (b + n)
bit_with_from f g b p k v n e = go (dec_lt n p) (dec_lt n (p + k))
  where
    go : Dec (n < p) → Dec (n < p + k) → bit_with f p k v n ≡ bit_with g (b + p) k v (b + n)
    go (yes l) h = bit_with-below f p k v n l ∙ e ∙ sym (bit_with-below g (b + p) k v (b + n) (omega arith))
    go (no l) (yes h) =
        let d : n - p ≡ b + n - (b + p) = omega arith in
        bit_with_in f p k v n (omega arith) h ∙ ap (bit v) d ∙ sym (bit_with_in g (b + p) k v (b + n) (omega arith) (omega arith))
    go (no l) (no h) = bit_with-above f p k v n (omega arith) ∙ e ∙ sym (bit_with-above g (b + p) k v (b + n) (omega arith))

-- ---- all their bits

bit_at-own : (m : ℕ) (f : ℕ → Bool) (n : ℕ) → n < 8 * m → bit_at (bytes_of m f) n ≡ f n
bit_at-own m f n h = ap (λ (t : List ℕ). bit_at t n) (sym (append-nil (bytes_of m f))) ∙ bit_at-bytes m f [] n h

module _ (s : List ℕ) (p k v : ℕ) where
  pub length-put_field : length (put_field s p k v) ≡ length s
  unfolding put_field
  length-put_field = length-bytes_of (length s) (bit_with (bit_at s) p k v)

  bit_at-put_field : (n : ℕ) → n < 8 * length s → bit_at (put_field s p k v) n ≡ bit_with (bit_at s) p k v n
  unfolding put_field
  bit_at-put_field n h = bit_at-own (length s) (bit_with (bit_at s) p k v) n h

-- what the definition says
opened : (s : List ℕ) (p k v : ℕ) → put_field s p k v ≡ bytes_of (length s) (bit_with (bit_at s) p k v)
unfolding put_field
opened s p k v = refl

-- a field put into the bytes of a bit string
pub put_field-bytes : (m : ℕ) (f : ℕ → Bool) (p k v : ℕ) → put_field (bytes_of m f) p k v
    ≡ bytes_of m (λ n. cond (covers (put p k v) n) (bit v (n - p)) (f n))
put_field-bytes m f p k v =
    opened (bytes_of m f) p k v ∙ ap (λ (j : ℕ). bytes_of j (bit_with (bit_at (bytes_of m f)) p k v)) (length-bytes_of m f)
    ∙ bytes_of_ext m (bit_with (bit_at (bytes_of m f)) p k v) (bit_with f p k v)
    (λ n h. ap (λ (b : Bool). cond (covers (put p k v) n) (bit v (n - p)) b) (bit_at-own m f n h))

-- a field of no bits changes nothing
pub put_field-none : (s : List ℕ) (p v : ℕ) → ((i : ℕ) → get_or s i 0 < 256) → put_field s p 0 v ≡ s
unfolding put_field
put_field-none s p v b =
    bytes_of_ext (length s) (bit_with (bit_at s) p 0 v) (bit_at s) (λ n h. same n (dec_lt n p)) ∙ bytes_back (length s) s b (omega arith)
    ∙ take_all (length s) s (omega arith)
  where
    same : (n : ℕ) → Dec (n < p) → bit_with (bit_at s) p 0 v n ≡ bit_at s n
    same n (yes h) = bit_with-below (bit_at s) p 0 v n h
    same n (no h) = bit_with-above (bit_at s) p 0 v n (omega arith)

-- the bits above a field's do not count
pub put_field-same : (s : List ℕ) (p k v w : ℕ) → ((j : ℕ) → j < k → bit v j ≡ bit w j) → put_field s p k v ≡ put_field s p k w
unfolding put_field
put_field-same s p k v w e =
    bytes_of_ext (length s) (bit_with (bit_at s) p k v) (bit_with (bit_at s) p k w) (λ n h. go n (dec_lt n p) (dec_lt n (p + k)))
  where
    go : (n : ℕ) → Dec (n < p) → Dec (n < p + k) → bit_with (bit_at s) p k v n ≡ bit_with (bit_at s) p k w n
    go n (yes a) b = bit_with-below (bit_at s) p k v n a ∙ sym (bit_with-below (bit_at s) p k w n a)
    go n (no a) (yes b) =
        bit_with_in (bit_at s) p k v n (omega arith) b ∙ e (n - p) (omega arith) ∙ sym (bit_with_in (bit_at s) p k w n (omega arith) b)
    go n (no a) (no b) = bit_with-above (bit_at s) p k v n (omega arith) ∙ sym (bit_with-above (bit_at s) p k w n (omega arith))

-- a field with n bits more at its top
module _ (s : List ℕ) (p k n v : ℕ) where
  abbrev part : ℕ → Bool
  part = bit_at (put_field s p k v)

  bit_more : (m : ℕ) → m < 8 * length s → bit_with part (p + k) n (v / 2 ^ k) m ≡ bit_with (bit_at s) p (k + n) v m
  bit_more m h = go (dec_lt m p) (dec_lt m (p + k)) (dec_lt m (p + k + n))
    where
      f : ℕ → Bool
      f = bit_at s

      x : ℕ
      x = v / 2 ^ k

      go : Dec (m < p) → Dec (m < p + k) → Dec (m < p + k + n) → bit_with part (p + k) n x m ≡ bit_with f p (k + n) v m
      go (yes a) b c = bit_with-below part (p + k) n x m (omega arith) ∙ bit_at-put_field s p k v m h ∙ bit_with-below f p k v m a
          ∙ sym (bit_with-below f p (k + n) v m a)
      go (no a) (yes b) c =
          bit_with-below part (p + k) n x m b ∙ bit_at-put_field s p k v m h ∙ bit_with_in f p k v m (omega arith) b
          ∙ sym (bit_with_in f p (k + n) v m (omega arith) (omega arith))
      go (no a) (no b) (yes c) =
          let e : k + (m - (p + k)) ≡ m - p = omega arith in
          bit_with_in part (p + k) n x m (omega arith) c ∙ down_bit v k (m - (p + k)) ∙ ap (bit v) e
          ∙ sym (bit_with_in f p (k + n) v m (omega arith) (omega arith))
      go (no a) (no b) (no c) =
          bit_with-above part (p + k) n x m (omega arith) ∙ bit_at-put_field s p k v m h ∙ bit_with-above f p k v m (omega arith)
          ∙ sym (bit_with-above f p (k + n) v m (omega arith))

  put_field_more : put_field (put_field s p k v) (p + k) n (v / 2 ^ k) ≡ put_field s p (k + n) v
  put_field_more =
      opened (put_field s p k v) (p + k) n (v / 2 ^ k) ∙ ap (λ (m : ℕ). bytes_of m (bit_with part (p + k) n (v / 2 ^ k)))
      (length-put_field s p k v)
      ∙ bytes_of_ext (length s) (bit_with part (p + k) n (v / 2 ^ k)) (bit_with (bit_at s) p (k + n) v) bit_more ∙ sym (opened s p (k + n) v)

-- the code's loops put n bits more
pub put_field_step : (s₀ s₁ s₂ : List ℕ) (p k n v : ℕ) → s₁ ≡ put_field s₀ p k v → s₂ ≡ put_field s₁ (p + k) n (v / 2 ^ k)
    → s₂ ≡ put_field s₀ p (k + n) v
put_field_step s₀ s₁ s₂ p k n v e₁ e₂ = e₂ ∙ ap (λ (s : List ℕ). put_field s (p + k) n (v / 2 ^ k)) e₁ ∙ put_field_more s₀ p k n v

-- the m bits from bit b on, put back with a field in them
pub put_field_part : (s : List ℕ) (b m x p k v : ℕ) → p + k ≤ m → ((j : ℕ) → j < m → bit x j ≡ bit_with (bit_at s) (b + p) k v (b + j))
    → put_field s b m x ≡ put_field s (b + p) k v
unfolding put_field
put_field_part s b m x p k v room same =
    bytes_of_ext (length s) (bit_with (bit_at s) b m x) (bit_with (bit_at s) (b + p) k v) (λ n h. go n (dec_lt n b) (dec_lt n (b + m)))
  where
    go : (n : ℕ) → Dec (n < b) → Dec (n < b + m) → bit_with (bit_at s) b m x n ≡ bit_with (bit_at s) (b + p) k v n
    go n (yes l) h = bit_with-below (bit_at s) b m x n l ∙ sym (bit_with-below (bit_at s) (b + p) k v n (omega arith))
    go n (no l) (yes h) =
        let e : b + (n - b) ≡ n = omega arith in
        bit_with_in (bit_at s) b m x n (omega arith) h ∙ same (n - b) (omega arith) ∙ ap (bit_with (bit_at s) (b + p) k v) e
    go n (no l) (no h) = bit_with-above (bit_at s) b m x n (omega arith) ∙ sym (bit_with-above (bit_at s) (b + p) k v n (omega arith))

-- one byte
pub put_field_byte : (s : List ℕ) (i w : ℕ) → ((m : ℕ) → get_or s m 0 < 256) → i < length s → set s i (w % 256) ≡ put_field s (8 * i) 8 w
unfolding put_field bytes_of
put_field_byte s i w bytes h =
    list_from_is (λ m. field g (8 * m) 8) 0 (length s) (set s i x) (simp length-set) (λ m l. go m (ℕ_discrete m i) (dec_lt m i))
  where
    x : ℕ
    x = w % 256

    g : ℕ → Bool
    g = bit_with (bit_at s) (8 * i) 8 w

    go : (m : ℕ) → Dec (m ≡ i) → Dec (m < i) → get_or (set s i x) m 0 ≡ field g (8 * m) 8
    go m (yes e) l =
        rw e (get_or-set_same s i x 0 h
        ∙ sym (field_is g (8 * i) 8 x
        (λ j q.
        let d : 8 * i + j - 8 * i ≡ j = omega arith in
        bit_with_in (bit_at s) (8 * i) 8 w (8 * i + j) (omega arith) (omega arith) ∙ ap (bit w) d ∙ sym (low_bit 8 w j q))
        (mod-lt w (pow_pos 8))))
    go m (no e) (yes l) =
        get_or-set_other s i m x 0 e
        ∙ sym (field_is g (8 * m) 8 (get_or s m 0) (λ j q. bit_with-below (bit_at s) (8 * i) 8 w (8 * m + j) (omega arith) ∙ bit_at_byte s m j q)
        (bytes m))
    go m (no e) (no l) =
        get_or-set_other s i m x 0 e
        ∙ sym (field_is g (8 * m) 8 (get_or s m 0) (λ j q. bit_with-above (bit_at s) (8 * i) 8 w (8 * m + j) (omega arith) ∙ bit_at_byte s m j q)
        (bytes m))
