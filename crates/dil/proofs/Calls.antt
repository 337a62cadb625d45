-- Laws of a call of `send_dil`: what it answers, and the buffer after so many segments. Assumes nothing.
use mathlib.Core.Path.{◌≡◌, refl, sym, ap, ap₂, ◌∙◌}
use Prim.Native.Nat.{ℕ, ◌+◌, ◌-◌, ◌*◌, ◌≤◌, ◌<◌}
use mathlib.Core.List.{List, ◌++◌}
use native.Mathlib.Omega.{arith}
use borrow.Author.Tests.{lt-ltb, le-ltb}
use borrow.Rule.Slice.PartMut.{put_mid}
use lib.ListN.{length, drop, length-append, length-drop}
use Rattle.standard.specs.First.{bare, first}
use Rattle.standard.specs.Lists.{list_from, joined}
use Rattle.standard.specs.Calls.{dil_call, dil_refusal, dil_octets}
use Rattle.standard.specs.declared.Law.{Law}
use Rattle.standard.proofs.Dil.{segment_at, segments, segments_next, length_segments, default_dil_is, length-default_dil}
use Rattle.standard.proofs.Filling.{front_more}

module _ (l : Law) (os : List ℕ) where
  -- the buffer with its first n segments written
  abbrev pub with_segments : ℕ → List ℕ
  with_segments n = segments l n ++ drop (n * 12) os

  pub with_none : os ≡ with_segments 0
  unfolding list_from joined
  with_none = refl

  pub with_more : (xs part : List ℕ) (n : ℕ) → n < 125 → xs ≡ with_segments n → part ≡ segment_at l n
      → put_mid (n * 12) (n * 12 + 12 - n * 12) xs part ≡ with_segments (n + 1)
  with_more xs part n h e p =
      let z : n * 12 + 12 ≡ (n + 1) * 12 = omega arith in
      ap (λ (x : List ℕ). put_mid (n * 12) (n * 12 + 12 - n * 12) x part) e
      ∙ front_more (segments l n) part os (n * 12) 12 (length_segments l n (omega arith))
      ∙ ap₂ (λ (x : List ℕ) (k : ℕ). x ++ drop k os) (ap (λ (x : List ℕ). segments l n ++ x) p ∙ sym (segments_next l n)) z

  pub with_long : (xs : List ℕ) (n : ℕ) → n ≤ 125 → 1500 ≤ length os → xs ≡ with_segments n → length xs ≡ length os
  with_long xs n h room e =
      ap length e ∙ length-append (segments l n) (drop (n * 12) os) ∙ omega (arith, length_segments l n h, length-drop (n * 12) os)

  -- ---- the answer

  pub dil_refused : length os < 1500 → (bare 17 ≡ dil_refusal (dil_call l os)) × (os ≡ dil_octets (dil_call l os))
  unfolding first dil_refusal dil_octets
  dil_refused h = rw (length-default_dil l, lt-ltb (length os) 1500 h) (refl, refl)

  pub dil-done : 1500 ≤ length os → (bare 0 ≡ dil_refusal (dil_call l os)) × (with_segments 125 ≡ dil_octets (dil_call l os))
  unfolding first dil_refusal dil_octets
  dil-done h = rw (length-default_dil l, le-ltb (length os) 1500 h, default_dil_is l) (refl, refl)
