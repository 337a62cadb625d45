-- Laws of the default DIL: its training symbols by the generator, its segments one after the other, and its octets by place. Assumes
-- nothing.
use mathlib.Core.Path.{◌≡◌, refl, ap, ap₂, ◌∙◌}
use Prim.Native.Nat.{ℕ, ◌+◌, ◌*◌, ◌%◌, ◌≤◌, ◌<◌}
use mathlib.Core.Bool.{true, beq}
use mathlib.Core.List.{List, [], ◌++◌}
use native.Mathlib.Nat.{zero-add}
use native.Mathlib.Numerals.{add-one}
use native.Mathlib.Omega.{arith}
use lib.Dec.{eqb, ltb, eqb→eq, ltb→lt}
use lib.ListN.{length, get_or}
use Rattle.standard.specs.Lists.{list_from, joined}
use Rattle.standard.specs.Bits.{bit}
use Rattle.standard.specs.Octets.{octet}
use Rattle.standard.specs.Dil.{segment_length, symbol_sign, symbol_ucode, segment, dil, training_symbols, table5, default_dil}
use Rattle.standard.specs.Dil.{generated_symbol}
use Rattle.standard.specs.declared.Law.{Law}
use Rattle.standard.proofs.Lists.{length-list_from, get_d_list, list_from_snoc, list_from_ext, every_at, beq→eq, Sized, sized_list_from}
use Rattle.standard.proofs.Lists.{joined_snoc, length-joined, joined_at}

-- the training symbol of segment n
abbrev pub training_symbol : ℕ → ℕ
training_symbol n = get_or training_symbols n 0

pub training-lt : (n : ℕ) → n < 125 → training_symbol n < 128
unfolding training_symbols
training-lt n h = ltb→lt _ 128 (every_at (λ n. ltb (training_symbol n) 128) 125 tt n h)

-- the generator gives it, by one computed test over the table
pub generated_is : (n : ℕ) → n < 125 → generated_symbol n ≡ training_symbol n
unfolding training_symbols generated_symbol
generated_is n h = eqb→eq _ (training_symbol n) (every_at (λ n. eqb (generated_symbol n) (training_symbol n)) 125 tt n h)

-- ---- a segment: twelve symbols, and since TP is all ones each is the training symbol

segment_twelve : (u : ℕ) → u < 128 → segment_length table5 u ≡ 12
unfolding segment_length table5
segment_twelve u h = eqb→eq _ 12 (every_at (λ u. eqb (segment_length table5 u) 12) 128 tt u h)

no_reference : (u k : ℕ) → k < 12 → symbol_ucode table5 u k ≡ u
unfolding symbol_ucode table5
no_reference u k h = rw (beq→eq (bit 0x0fff (k % 12)) true (every_at (λ k. beq (bit 0x0fff (k % 12)) true) 12 tt k h))

module _ (l : Law) where
  -- symbol k of the segment of u
  abbrev pub symbol_of : ℕ → ℕ → ℕ
  symbol_of u k = octet l (bit 0x0fc0 k) u

  symbol_is : (u k : ℕ) → k < 12 → octet l (symbol_sign table5 k) (symbol_ucode table5 u k) ≡ symbol_of u k
  unfolding symbol_sign table5
  symbol_is u k h =
      let z : k % 12 ≡ k = omega arith in
      ap₂ (octet l) (ap (bit 0x0fc0) z) (no_reference u k h)

  pub segment_listed : (u : ℕ) → u < 128 → segment table5 l u ≡ list_from (symbol_of u) 0 12
  unfolding segment
  segment_listed u h = ap (list_from _ 0) (segment_twelve u h) ∙ list_from_ext _ (symbol_of u) 12 (symbol_is u)

  -- ---- the segments one after the other

  abbrev pub segment_at : ℕ → List ℕ
  segment_at n = segment table5 l (training_symbol n)

  -- the first n
  abbrev pub segments : ℕ → List ℕ
  segments n = joined (list_from segment_at 0 n)

  pub segments_next : (n : ℕ) → segments (n + 1) ≡ segments n ++ segment_at n
  segments_next n = rw (add-one, list_from_snoc segment_at 0 n, zero-add) (joined_snoc (list_from segment_at 0 n) (segment_at n))

  sized : (n : ℕ) → n ≤ 125 → Sized 12 (list_from segment_at 0 n)
  sized n h =
      sized_list_from 12 segment_at 0 n
      (λ k b. ap length (segment_listed (training_symbol k) (training-lt k (omega arith))) ∙ length-list_from (symbol_of (training_symbol k)) 0 12)

  pub length_segments : (n : ℕ) → n ≤ 125 → length (segments n) ≡ n * 12
  length_segments n h = length-joined 12 (list_from segment_at 0 n) (sized n h) ∙ ap (λ (m : ℕ). m * 12) (length-list_from segment_at 0 n)

  -- ---- the whole

  pub default_dil_is : default_dil l ≡ segments 125
  unfolding dil table5 default_dil
  default_dil_is = refl

  pub length-default_dil : length (default_dil l) ≡ 1500
  length-default_dil = ap length default_dil_is ∙ length_segments 125 (omega arith)

  pub default_dil-at : (n k : ℕ) → n < 125 → k < 12 → get_or (default_dil l) (n * 12 + k) 0 ≡ symbol_of (training_symbol n) k
  default_dil-at n k h b =
      let u = training_symbol n in
      ap (λ (s : List ℕ). get_or s (n * 12 + k) 0) default_dil_is
      ∙ joined_at 12 (list_from segment_at 0 125) (sized 125 (omega arith)) n (omega (arith, length-list_from segment_at 0 125)) k b 0
      ∙ ap (λ (s : List ℕ). get_or s k 0) (get_d_list segment_at [] 125 n h ∙ segment_listed u (training-lt n h)) ∙ get_d_list (symbol_of u) 0 12 k b
