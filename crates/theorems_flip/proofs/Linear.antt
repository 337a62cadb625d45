-- The descrambler and the differential coding of signs are linear over XOR: with some bits the other way, what changes follows from those
-- alone. Assumes nothing.
use mathlib.Core.Path.{◌≡◌, refl, sym, ap, ap₂, ◌∙◌}
use Prim.Native.Nat.{ℕ, zero, suc, ◌+◌, ◌-◌, ◌*◌, ◌/◌, ◌%◌, ◌^◌, ◌<◌}
use mathlib.Core.Bool.{Bool, true, false}
use mathlib.Core.List.{List, [], ◌∷◌, ◌++◌}
use native.Mathlib.Nat.{zero-div, zero-add}
use native.Mathlib.Omega.{arith}
use lib.ListN.{length, replicate}
use lib.Pow.{field, mod-mod-pow, shr-shr}
use Rattle.standard.specs.Bits.{◌⊕◌, weight, odd, positive, bit}
use Rattle.standard.specs.Scrambler.{taps, push, push_all, descramble}
use Rattle.standard.specs.Signs.{sign_bits}
use Rattle.standard.proofs.Bits.{weight-lt, odd-weight, field_is}

-- ---- XOR

pub xor_false : (a : Bool) → a ⊕ false ≡ a
xor_false true = refl
xor_false false = refl

-- the middle two of four exchanged
four : (a b c d : Bool) → a ⊕ b ⊕ (c ⊕ d) ≡ a ⊕ c ⊕ (b ⊕ d)
four false false c d = refl
four false true true d = refl
four false true false d = refl
four true false true true = refl
four true false true false = refl
four true false false d = refl
four true true true d = refl
four true true false true = refl
four true true false false = refl

-- place by place, as far as the first list goes
abbrev pub mix : List Bool → List Bool → List Bool
mix [] es = []
mix (s ∷ ss) [] = s ∷ ss
mix (s ∷ ss) (e ∷ es) = (s ⊕ e) ∷ mix ss es

pub length_mix : (ss es : List Bool) → length (mix ss es) ≡ length ss
length_mix [] es = refl
length_mix (s ∷ ss) [] = refl
length_mix (s ∷ ss) (e ∷ es) = ap suc (length_mix ss es)

pub mix_zeros : (ss : List Bool) (n : ℕ) → mix ss (replicate n false) ≡ ss
mix_zeros [] n = refl
mix_zeros (s ∷ ss) zero = refl
mix_zeros (s ∷ ss) (suc n) = ap₂ ◌∷◌ (xor_false s) (mix_zeros ss n)

pub mix_append : (a b e f : List Bool) → length a ≡ length e → mix (a ++ b) (e ++ f) ≡ mix a e ++ mix b f
mix_append [] b [] f n = refl
mix_append [] b (y ∷ e) f n = absurd (omega arith)
mix_append (x ∷ a) b [] f n = absurd (omega arith)
mix_append (x ∷ a) b (y ∷ e) f n = ap (λ (r : List Bool). (x ⊕ y) ∷ r) (mix_append a b e f (omega arith))

-- ---- signs

pub signs_linear : (g e : Bool) (ts us : List Bool) → length ts ≡ length us
    → sign_bits (g ⊕ e) (mix ts us) ≡ mix (sign_bits g ts) (sign_bits e us)
unfolding sign_bits
signs_linear g e [] us n = refl
signs_linear g e (t ∷ ts) [] n = absurd (omega arith)
signs_linear g e (t ∷ ts) (u ∷ us) n = ap₂ ◌∷◌ (four t u g e) (signs_linear t u ts us (omega arith))

-- ---- histories

-- the latest bit of a history, and those before it
push-first : (h : ℕ) (s : Bool) → bit (push h s) 0 ≡ s
unfolding push
push-first h s =
    let e : (2 * h + weight s) % 2 ^ 23 / 2 ^ 0 % 2 ≡ weight s % 2 = omega (arith, weight-lt s) in
    ap positive e ∙ odd-weight s

push-later : (h : ℕ) (s : Bool) (j i : ℕ) → i + 1 + (1 + j) ≡ 23 → bit (push h s) (1 + j) ≡ bit h j
unfolding push
push-later h s j i e =
    let half : (2 * h + weight s) / 2 ≡ h = omega (arith, weight-lt s) in
    ap (λ (n : ℕ). odd ((2 * h + weight s) % 2 ^ n / 2 ^ (1 + j))) (sym e)
    ∙ ap odd (field (2 * h + weight s) (i + 1) (1 + j))
    ∙ ap positive (mod-mod-pow ((2 * h + weight s) / 2 ^ (1 + j)) i 1)
    ∙ ap odd (sym (shr-shr (2 * h + weight s) 1 j) ∙ ap (λ (n : ℕ). n / 2 ^ j) half)

-- of the 23 bits of h those of d are the other way in h'
abbrev pub Mixed : ℕ → ℕ → ℕ → Type 0
Mixed d h h' = (j : ℕ) → j < 23 → bit h' j ≡ bit h j ⊕ bit d j

pub mixed_none : (h : ℕ) → Mixed 0 h h
mixed_none h j l = rw zero-div (sym (xor_false (bit h j)))

pub none_mixed : (h h' : ℕ) → Mixed 0 h h' → h < 2 ^ 23 → h' < 2 ^ 23 → h' ≡ h
none_mixed h h' m l l' =
    let same : (j : ℕ) → j < 23 → bit h' j ≡ bit h j = λ j k. m j k ∙ rw zero-div (xor_false (bit h j)) in
    sym (field_is (bit h) 0 23 h' (λ j k. ap (bit h) (zero-add j) ∙ sym (same j k)) l') ∙ field_is (bit h) 0 23 h
    (λ j k. ap (bit h) (zero-add j)) l

mixed_push : (d h h' : ℕ) (s e : Bool) → Mixed d h h' → Mixed (push d e) (push h s) (push h' (s ⊕ e))
mixed_push d h h' s e m zero l = push-first h' (s ⊕ e) ∙ sym (ap₂ ◌⊕◌ (push-first h s) (push-first d e))
mixed_push d h h' s e m (suc j) l =
    let z : suc j ≡ 1 + j = omega arith in
    let k : 21 - j + 1 + (1 + j) ≡ 23 = omega arith in
    rw z
    (push-later h' (s ⊕ e) j (21 - j) k ∙ m j (omega arith)
    ∙ sym (ap₂ ◌⊕◌ (push-later h s j (21 - j) k) (push-later d e j (21 - j) k)))

mixed_taps : (d h h' : ℕ) → Mixed d h h' → taps h' ≡ taps h ⊕ taps d
unfolding taps
mixed_taps d h h' m = ap₂ ◌⊕◌ (m 17 (omega arith)) (m 22 (omega arith)) ∙ four (bit h 17) (bit d 17) (bit h 22) (bit d 22)

pub history_linear : (d h h' : ℕ) (ss es : List Bool) → length ss ≡ length es → Mixed d h h'
    → Mixed (push_all d es) (push_all h ss) (push_all h' (mix ss es))
unfolding push_all
history_linear d h h' [] [] n m = m
history_linear d h h' [] (e ∷ es) n m = absurd (omega arith)
history_linear d h h' (s ∷ ss) [] n m = absurd (omega arith)
history_linear d h h' (s ∷ ss) (e ∷ es) n m =
    history_linear (push d e) (push h s) (push h' (s ⊕ e)) ss es (omega arith) (mixed_push d h h' s e m)

pub descramble_linear : (d h h' : ℕ) (ss es : List Bool) → length ss ≡ length es → Mixed d h h'
    → descramble h' (mix ss es) ≡ mix (descramble h ss) (descramble d es)
unfolding descramble
descramble_linear d h h' [] es n m = refl
descramble_linear d h h' (s ∷ ss) [] n m = absurd (omega arith)
descramble_linear d h h' (s ∷ ss) (e ∷ es) n m =
    ap₂ ◌∷◌ (ap (λ (b : Bool). s ⊕ e ⊕ b) (mixed_taps d h h' m) ∙ four s e (taps h) (taps d))
    (descramble_linear (push d e) (push h s) (push h' (s ⊕ e)) ss es (omega arith) (mixed_push d h h' s e m))
