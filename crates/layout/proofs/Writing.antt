-- Zeroed bytes into which the fields of a record are put are its CP. Assumes nothing.
use mathlib.Core.Path.{◌≡◌, refl, sym, ap, ap₂, ◌∙◌}
use mathlib.Core.Logic.{◌⊎◌, inl, inr}
use Prim.Native.Nat.{ℕ, suc, ◌+◌, ◌-◌, ◌*◌, ◌/◌, ◌%◌, ◌≤◌, ◌<◌}
use mathlib.Core.Bool.{Bool, true, false, cond, ◌||◌}
use mathlib.Core.List.{List, [], ◌∷◌, ◌++◌, append-nil}
use native.Mathlib.Decide.{dec_le, dec_lt}
use native.Mathlib.Omega.{arith}
use lib.ListN.{length, replicate, length-replicate, get_or-replicate}
use Rattle.standard.specs.Lists.{list_from}
use Rattle.standard.specs.Bits.{bit, bit_at, field, bytes_of}
use Rattle.standard.specs.Record.{half_of, top_index, in_mask}
use Rattle.standard.specs.Cp.{gamma, cp_byte_count, run_place, Field, put, covers, bit_in, head_fields, mask_run, mask_fields, cp_body}
use Rattle.standard.specs.Cp.{start_bit, cp_crc, crc_field, cp_bit, cp_bytes}
use Rattle.standard.specs.declared.Record.{Record}
use Rattle.standard.proofs.Bits.{field_ext, field-number, bytes_of_ext, bit_at-own}
use Rattle.standard.proofs.Crc.{crc_over_ext}
use Rattle.standard.proofs.Cp.{bit_in-left, covers_no, cp_crc_lem}
use Rattle.standard.proofs.Lists.{list_from_is, list_from_ext}
use Rattle.bits.specs.PutField.{put_field}
use Rattle.bits.proofs.PutField.{put_field-bytes}
use Rattle.layout.specs.Writing.{put_fields, run_of}

-- ---- fields put into zeroed bytes

pub cleared : (n : ℕ) → replicate n 0 ≡ bytes_of n (bit_in [])
unfolding bytes_of bit_in field
cleared n = list_from_is (λ k. field (bit_in []) (8 * k) 8) 0 n (replicate n 0) (length-replicate n 0) (λ k l. get_or-replicate n k 0 0 l)

-- a field more
put_one : (n : ℕ) (x : Field) (xs : List Field) → put_field (bytes_of n (bit_in xs)) x.at x.width x.value ≡ bytes_of n (bit_in (x ∷ xs))
unfolding bit_in
put_one n x xs = put_field-bytes n (bit_in xs) x.at x.width x.value

put_all : (n : ℕ) (xs ys : List Field) → put_fields (bytes_of n (bit_in ys)) xs ≡ bytes_of n (bit_in (xs ++ ys))
unfolding put_fields
put_all n [] ys = refl
put_all n (x ∷ xs) ys = ap (λ (s : List ℕ). put_field s x.at x.width x.value) (put_all n xs ys) ∙ put_one n x (xs ++ ys)

-- the masks, then the head
pub body_put : (n : ℕ) (r : Record) → put_fields (put_fields (replicate n 0) (mask_fields r)) (head_fields r) ≡ bytes_of n (bit_in (cp_body r))
unfolding cp_body
body_put n r =
    ap (λ (s : List ℕ). put_fields (put_fields s (mask_fields r)) (head_fields r)) (cleared n)
    ∙ ap (λ (s : List ℕ). put_fields s (head_fields r)) (put_all n (mask_fields r) [])
    ∙ put_all n (head_fields r) (mask_fields r ++ [])
    ∙ ap (λ (xs : List Field). bytes_of n (bit_in (head_fields r ++ xs))) (append-nil (mask_fields r))

-- ---- the runs of the masks

-- run k of all the masks, end to end
abbrev pub run_field : List ℕ → ℕ → Field
run_field mask k = put (run_place (k / 8) (k % 8)) 16 (run_of mask (k / 8) (k % 8))

run_value : (r : Record) (m c : ℕ) → field (in_mask r m) (16 * c) 16 ≡ run_of r.mask m c
unfolding in_mask
run_value r m c =
    field_ext (in_mask r m) (bit (half_of r (2 * m + c / 4))) (16 * c) (16 * (c % 4)) 16
    (λ j l.
    let d : (16 * c + j) / 64 ≡ c / 4 = omega arith in
    let e : (16 * c + j) % 64 ≡ 16 * (c % 4) + j = omega arith in
    ap₂ (λ (x y : ℕ). bit (half_of r (2 * m + x)) y) d e)
    ∙ field-number (half_of r (2 * m + c / 4)) (16 * (c % 4)) 16

pub mask_fields_lem : (r : Record) → mask_fields r ≡ list_from (run_field r.mask) 0 (8 * (top_index r + 1))
unfolding mask_fields
mask_fields_lem r =
    list_from_ext (λ k. mask_run r (k / 8) (k % 8)) (run_field r.mask) (8 * (top_index r + 1))
    (λ k l. ap (put (run_place (k / 8) (k % 8)) 16) (run_value r (k / 8) (k % 8)))

pub run_none : (s : List ℕ) (mask : List ℕ) (n : ℕ) → s ≡ put_fields s (list_from (run_field mask) n (n - n))
unfolding put_fields list_from
run_none s mask n = let z : n - n ≡ 0 = omega arith in rw z

-- the runs from k on, and the one before them
pub run_more : (s t u : List ℕ) (mask : List ℕ) (k n : ℕ) → 0 < k → k ≤ n → t ≡ put_fields s (list_from (run_field mask) k (n - k))
    → u ≡ put_field t (run_place ((k - 1) / 8) ((k - 1) % 8)) 16 (run_of mask ((k - 1) / 8) ((k - 1) % 8))
    → u ≡ put_fields s (list_from (run_field mask) (k - 1) (n - (k - 1)))
unfolding put_fields list_from
run_more s t u mask k n p h e q =
    let a : n - (k - 1) ≡ suc (n - k) = omega arith in
    let b : suc (k - 1) ≡ k = omega arith in
    q ∙ rw (a, b, e)

-- ---- a field put last

covers_true : (x : Field) (n : ℕ) → covers x n ≡ true → (x.at ≤ n) × (n < x.at + x.width)
covers_true x n e = go (dec_le x.at n) (dec_lt n (x.at + x.width))
  where
    off : (n < x.at) ⊎ (x.at + x.width ≤ n) → ⊥
    off o = let q : covers x n ≡ false = covers_no x n o in let z : ◌≡◌ {A = ℕ} 0 1 = cc in omega arith

    go : Dec (x.at ≤ n) → Dec (n < x.at + x.width) → (x.at ≤ n) × (n < x.at + x.width)
    go (yes a) (yes b) = (a, b)
    go (no a) b = absurd (off (inl (omega arith)))
    go (yes a) (no b) = absurd (off (inr (omega arith)))

-- a field that stands at the end of a list shows on top, where nothing else has its bits
on_top : (x : Field) (xs : List Field) (n : ℕ) → (covers x n ≡ true → bit_in (xs ++ (x ∷ [])) n ≡ bit x.value (n - x.at))
    → bit_in (x ∷ xs) n ≡ bit_in (xs ++ (x ∷ [])) n
unfolding bit_in
on_top x xs n h = go (covers x n) refl
  where
    go : (b : Bool) → covers x n ≡ b → cond (covers x n) (bit x.value (n - x.at)) (bit_in xs n) ≡ bit_in (xs ++ (x ∷ [])) n
    go true e = rw e (sym (h e))
    go false e = rw e (sym (bit_in-left xs (x ∷ []) n (ap (λ (b : Bool). b || false) e)))

-- ---- the CRC

module _ (r : Record) where
  abbrev g : ℕ
  g = top_index r

  crc_on_top : (n : ℕ) → bit_in (crc_field r ∷ cp_body r) n ≡ cp_bit r n
  unfolding cp_bit crc_field
  crc_on_top n =
      on_top (crc_field r) (cp_body r) n
      (λ e.
      let k = covers_true (crc_field r) n e in
      let a : 273 + gamma g ≤ n = k.0 in
      let b : n < 273 + gamma g + 16 = k.1 in
      let q : 273 + gamma g + (n - (273 + gamma g)) ≡ n = omega arith in
      ap (cp_bit r) (sym q) ∙ cp_crc_lem r (n - (273 + gamma g)) (omega arith))

  crc_value : (n : ℕ) → 272 + gamma g ≤ 8 * n → cp_crc (bit_at (bytes_of n (bit_in (cp_body r)))) g ≡ cp_crc (bit_in (cp_body r)) g
  unfolding cp_crc
  crc_value n h =
      crc_over_ext start_bit (bit_at (bytes_of n (bit_in (cp_body r)))) (bit_in (cp_body r)) 18 (254 + gamma g)
      (λ k l. bit_at-own n (bit_in (cp_body r)) (18 + k) (omega arith))

  pub crc_put : (s : List ℕ) (x : ℕ) → s ≡ bytes_of (cp_byte_count g) (bit_in (cp_body r)) → x ≡ cp_crc (bit_at s) g
      → put_field s (273 + gamma g) 16 x ≡ cp_bytes r
  unfolding cp_bytes crc_field
  crc_put s x e q =
      let v : x ≡ cp_crc (bit_in (cp_body r)) g = q ∙ ap (λ (t : List ℕ). cp_crc (bit_at t) g) e ∙ crc_value (cp_byte_count g) (omega arith) in
      ap₂ (λ (t : List ℕ) (y : ℕ). put_field t (273 + gamma g) 16 y) e v ∙ put_one (cp_byte_count g) (crc_field r) (cp_body r)
      ∙ bytes_of_ext (cp_byte_count g) (bit_in (crc_field r ∷ cp_body r)) (cp_bit r) (λ n l. crc_on_top n)

-- the steps of the writer: zeroed, masks, head, CRC
pub cp-put : (r : Record) (g x : ℕ) (s s₁ s₂ s₃ s₄ : List ℕ) → length s ≡ cp_byte_count (top_index r) → g ≡ top_index r
    → s₁ ≡ replicate (length s) 0 → s₂ ≡ put_fields s₁ (mask_fields r) → s₃ ≡ put_fields s₂ (head_fields r)
    → x ≡ cp_crc (bit_at s₃) g → s₄ ≡ put_field s₃ (273 + gamma g) 16 x → s₄ ≡ cp_bytes r
cp-put r g x s s₁ s₂ s₃ s₄ n q e₁ e₂ e₃ c e₄ =
    let body : s₃ ≡ bytes_of (cp_byte_count (top_index r)) (bit_in (cp_body r))
    = e₃ ∙ ap (λ (t : List ℕ). put_fields t (head_fields r))
    (e₂ ∙ ap (λ (t : List ℕ). put_fields t (mask_fields r)) (e₁ ∙ ap (λ (k : ℕ). replicate k 0) n))
    ∙ body_put (cp_byte_count (top_index r)) r in
    e₄ ∙ ap (λ (k : ℕ). put_field s₃ (273 + gamma k) 16 x) q ∙ crc_put r s₃ x body
    (c ∙ ap (cp_crc (bit_at s₃)) q)
