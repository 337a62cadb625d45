-- The bytes of a line state, filled in from the front. Assumes nothing.
use mathlib.Core.Path.{◌≡◌, refl, ap, ◌∙◌}
use Prim.Native.Nat.{ℕ, ◌+◌, ◌/◌, ◌≤◌}
use mathlib.Core.List.{List, [], ◌∷◌, ◌++◌}
use native.Mathlib.Omega.{arith}
use borrow.Rule.Slice.PartMut.{put_mid}
use lib.ListN.{length, get_or, set, take, drop, replicate, length-drop}
use lib.Seq.{set_at, get_or-drop, length-take-le}
use Rattle.std.proofs.lemmas.List.{get_or-take}
use mir.Val.{bool_byte}
use Rattle.std.specs.Int.{w32, to_le_bytes}
use Rattle.standard.specs.Lists.{list_from}
use Rattle.standard.specs.Bits.{weight}
use Rattle.standard.specs.declared.LineState.{LineState}
use Rattle.standard.proofs.Lists.{list_from_is}
use Rattle.standard.proofs.Words.{byte_weight}
use Rattle.states.specs.StateBytes.{state_byte, state_bytes}

-- n bytes from byte p on, each by its place
pub part_listed : (s : List ℕ) (p n : ℕ) → p + n ≤ length s → take n (drop p s) ≡ list_from (λ i. get_or s (p + i) 0) 0 n
part_listed s p n h =
    list_from_is (λ i. get_or s (p + i) 0) 0 n (take n (drop p s)) (length-take-le n (drop p s) (omega (arith, length-drop p s)))
    (λ i l. get_or-take n (drop p s) i 0 l ∙ get_or-drop p s i 0)

-- twelve elements, each by its place
listed : (xs ys : List ℕ) → length xs ≡ 12 → xs ++ ys ≡ list_from (λ i. get_or xs i 0) 0 12 ++ ys
listed xs ys e = ap (λ (x : List ℕ). x ++ ys) (list_from_is (λ i. get_or xs i 0) 0 12 xs e (λ i h. refl))

module _ (st : LineState) where
  -- the first eight bytes, behind the history's four
  abbrev front : List ℕ → List ℕ
  front h = set (set (set (set (h ++ replicate 17 0) 4 (bool_byte st.sign)) 5 st.doubtful) 6 st.place) 7 st.done

  pub bytes-are : (h bits : List ℕ) → h ≡ to_le_bytes w32 st.history → bits ≡ st.sequence → length bits ≡ length (take 12 (drop 8 (front h)))
      → set (put_mid 8 12 (front h) bits) 20 (bool_byte st.lost) ≡ state_bytes st
  unfolding state_bytes state_byte list_from
  bytes-are h bits eh eb l =
      let twelve : length bits ≡ 12 = rw eh at l in
      let t = rw eb at twelve in
      let low : st.history / 1 ≡ st.history = omega arith in
      rw (eh, eb, low, byte_weight st.sign, byte_weight st.lost, set_at st.sequence 0 [] (weight st.lost) 12 t, listed st.sequence (weight st.lost ∷ []) t)
