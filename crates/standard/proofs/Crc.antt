-- Laws of the CRC. Assumes nothing.
use mathlib.Core.Path.{◌≡◌, refl, sym, ap, ap₂, ◌∙◌}
use mathlib.Core.Logic.{◌⊎◌, inl, inr}
use Prim.Native.Nat.{ℕ, zero, suc, ◌+◌, ◌*◌, ◌/◌, ◌%◌, ◌≤◌, ◌<◌, ◌^◌}
use mathlib.Core.Bool.{Bool, true, false, cond, not}
use mathlib.Core.List.{[], ◌∷◌}
use native.Mathlib.Nat.{add-zero, not-suc-le-zero, pow-suc, eq-or-lt_of_le, le_of_suc-le-suc}
use native.Mathlib.Numerals.{add-one}
use native.Mathlib.Omega.{arith}
use lib.Bits.{bit_xor, differ, xor_step, xor_zero_l, xor_self, xor_shr, xor_lt}
use lib.Dec.{lit<}
use Rattle.standard.specs.Lists.{list_from, after}
use Rattle.standard.specs.Bits.{◌⊕◌, weight, positive, odd, bit_at}
use Rattle.standard.specs.Crc.{crc_step, crc_over}
use Rattle.standard.proofs.Lists.{of_either}
use Rattle.standard.proofs.Bits.{xor_cancel}

-- the check value of this CRC, of the nine bytes '123456789'
crc_check : crc_over (λ n. false) (bit_at (0x31 ∷ 0x32 ∷ 0x33 ∷ 0x34 ∷ 0x35 ∷ 0x36 ∷ 0x37 ∷ 0x38 ∷ 0x39 ∷ [])) 0 72 ≡ 0x6f91
unfolding crc_over crc_step bit_at
crc_check = refl

pub crc_step-lt : (x : ℕ) (b : Bool) → x < 2 ^ 16 → crc_step x b < 2 ^ 16
unfolding crc_step
crc_step-lt x b h =
    of_either (λ z. z < 2 ^ 16) (odd x ⊕ b) (xor_lt 16 (x / 2) 0x8408 (omega arith) (lit< tt)) (omega arith)

module _ (skipped : ℕ → Bool) where
  pub crc_over-lt : (f : ℕ → Bool) (p k : ℕ) → crc_over skipped f p k < 2 ^ 16
  unfolding crc_over
  crc_over-lt f p zero = lit< tt
  crc_over-lt f p (suc k) = of_either (λ z. z < 2 ^ 16) (skipped (p + k)) (crc_over-lt f p k)
      (crc_step-lt (crc_over skipped f p k) (f (p + k)) (crc_over-lt f p k))

  pub crc_over_ext : (f g : ℕ → Bool) (p k : ℕ) → ((j : ℕ) → j < k → f (p + j) ≡ g (p + j)) → crc_over skipped f p k ≡ crc_over skipped g p k
  unfolding crc_over
  crc_over_ext f g p zero h = refl
  crc_over_ext f g p (suc k) h =
      ap₂ (λ (x : ℕ) (b : Bool). cond (skipped (p + k)) x (crc_step x b)) (crc_over_ext f g p k (λ j l. h j (omega arith)))
      (h k (omega arith))

  -- a bit that is skipped
  pub crc_over_skip : (f : ℕ → Bool) (p k : ℕ) → skipped (p + k) ≡ true → crc_over skipped f p (k + 1) ≡ crc_over skipped f p k
  unfolding crc_over
  crc_over_skip f p k h = ap (crc_over skipped f p) (add-one k) ∙ rw h

  -- n bits more, of which none is
  pub crc_over-run : (f : ℕ → Bool) (p k n : ℕ) → ((j : ℕ) → j < n → skipped (p + k + j) ≡ false)
      → crc_over skipped f p (k + n) ≡ after crc_step (crc_over skipped f p k) (list_from f (p + k) n)
  unfolding crc_over after list_from
  crc_over-run f p k zero h = ap (crc_over skipped f p) (add-zero k)
  crc_over-run f p k (suc n) h =
      let e : k + suc n ≡ suc k + n = omega arith in
      let q : p + suc k ≡ suc (p + k) = omega arith in
      let taken : crc_over skipped f p (suc k) ≡ crc_step (crc_over skipped f p k) (f (p + k)) = rw (simp add-zero at (h 0 (omega arith))) in
      ap (crc_over skipped f p) e
      ∙ crc_over-run f p (suc k) n (λ j l. let z : p + suc k + j ≡ p + k + suc j = omega arith in ap skipped z ∙ h (suc j) (omega arith))
      ∙ ap₂ (λ (x i : ℕ). after crc_step x (list_from f i n)) taken q

-- ---- the register tells every single wrong bit

differ_lt : (p q : ℕ) → p < 2 → q < 2 → differ p q < 2
differ_lt zero q h k = k
differ_lt (suc p) zero h k = h
differ_lt (suc p) (suc q) h k = differ_lt p q (omega arith) (omega arith)

differ_back : (p q : ℕ) → p < 2 → q < 2 → differ (differ p q) q ≡ p
differ_back zero zero h k = refl
differ_back zero (suc zero) h k = refl
differ_back zero (suc (suc q)) h k = absurd (omega arith)
differ_back (suc zero) zero h k = refl
differ_back (suc zero) (suc zero) h k = refl
differ_back (suc zero) (suc (suc q)) h k = absurd (omega arith)
differ_back (suc (suc p)) q h k = absurd (omega arith)

xor_low : (a b : ℕ) → bit_xor a b % 2 ≡ differ (a % 2) (b % 2)
xor_low a b = let d = differ_lt (a % 2) (b % 2) (omega arith) (omega arith) in omega (arith, xor_step a b)

-- XOR with one number, twice
xor-back : (k x a : ℕ) → x < 2 ^ k → bit_xor (bit_xor x a) a ≡ x
xor-back zero x a h =
    let z : x ≡ 0 = omega arith in
    ap (λ (y : ℕ). bit_xor (bit_xor y a) a) z ∙ ap (λ (y : ℕ). bit_xor y a) (xor_zero_l a) ∙ xor_self a ∙ sym z
xor-back (suc k) x a h =
    xor_step (bit_xor x a) a
    ∙ ap₂ (λ (i j : ℕ). i * 2 + j)
    (ap (λ (y : ℕ). bit_xor y (a / 2)) (xor_shr x a 1) ∙ xor-back k (x / 2) (a / 2) (omega (arith, pow-suc 2 k)))
    (ap (λ (y : ℕ). differ y (a % 2)) (xor_low x a) ∙ differ_back (x % 2) (a % 2) (omega arith) (omega arith))
    ∙ omega arith

-- XOR with 8408 sets the top bit
high : (x : ℕ) → x < 32768 → 32768 ≤ bit_xor x 0x8408
high x h =
    let z : x / 2 ^ 15 ≡ 0 = omega arith in
    let e : bit_xor x 0x8408 / 2 ^ 15 ≡ 1 = xor_shr x 0x8408 15 ∙ ap (λ (y : ℕ). bit_xor y 1) z in
    omega arith

odd-same : (c c' : ℕ) → odd c ≡ odd c' → c % 2 ≡ c' % 2
odd-same c c' e = go (c % 2) (c' % 2) (omega arith) (omega arith) e
  where
    go : (p q : ℕ) → p < 2 → q < 2 → positive p ≡ positive q → p ≡ q
    go zero zero h k e = refl
    go zero (suc q) h k e = let z : ◌≡◌ {A = ℕ} 0 1 = ap weight e in absurd (omega arith)
    go (suc p) zero h k e = let z : ◌≡◌ {A = ℕ} 1 0 = ap weight e in absurd (omega arith)
    go (suc p) (suc q) h k e = omega arith

-- one bit to two registers leaves them different
step_inj : (c c' : ℕ) (b : Bool) → c < 2 ^ 16 → c' < 2 ^ 16 → crc_step c b ≡ crc_step c' b → c ≡ c'
unfolding crc_step
step_inj c c' b h k e = go (odd c ⊕ b) (odd c' ⊕ b) refl refl e
  where
    whole : c / 2 ≡ c' / 2 → odd c ⊕ b ≡ odd c' ⊕ b → c ≡ c'
    whole q u = let low = odd-same c c' (sym (xor_cancel (odd c) b) ∙ ap (λ (x : Bool). x ⊕ b) u ∙ xor_cancel (odd c') b) in omega arith

    go : (u v : Bool) → odd c ⊕ b ≡ u → odd c' ⊕ b ≡ v → cond u (bit_xor (c / 2) 0x8408) (c / 2) ≡ cond v (bit_xor (c' / 2) 0x8408) (c' / 2) →
        c ≡ c'
    go true true p q r = whole
        (sym (xor-back 15 (c / 2) 0x8408 (omega arith)) ∙ ap (λ (x : ℕ). bit_xor x 0x8408) r ∙ xor-back 15 (c' / 2) 0x8408 (omega arith))
        (p ∙ sym q)
    go true false p q r = absurd (omega (arith, high (c / 2) (omega arith)))
    go false true p q r = absurd (omega (arith, high (c' / 2) (omega arith)))
    go false false p q r = whole r (p ∙ sym q)

-- and so do two bits to one register
step_flip : (c : ℕ) (b : Bool) → c < 2 ^ 16 → crc_step c (not b) ≡ crc_step c b → ⊥
unfolding crc_step
step_flip c b h e = go (odd c) b e
  where
    go : (u b : Bool) → cond (u ⊕ not b) (bit_xor (c / 2) 0x8408) (c / 2) ≡ cond (u ⊕ b) (bit_xor (c / 2) 0x8408) (c / 2) → ⊥
    go true true r = omega (arith, high (c / 2) (omega arith))
    go true false r = omega (arith, high (c / 2) (omega arith))
    go false true r = omega (arith, high (c / 2) (omega arith))
    go false false r = omega (arith, high (c / 2) (omega arith))

-- below bit b, f is g but for bit n
pub record OneWrong (b : ℕ) (g f : ℕ → Bool) (n : ℕ) : Type 0 where
  pub wrong : f n ≡ not (g n)
  pub same : (j : ℕ) → j < b → (j ≡ n → ⊥) → f j ≡ g j

-- no bit is skipped
abbrev pub none : ℕ → Bool
none n = false

pub crc_differs : (b : ℕ) (g f : ℕ → Bool) (p k n : ℕ) → OneWrong b g f (p + n) → p + k ≤ b → n < k → crc_over none f p k ≡ crc_over none g p
    k → ⊥
unfolding crc_over
crc_differs b g f p zero n o l h e = not-suc-le-zero h
crc_differs b g f p (suc k) n o l h e = go (eq-or-lt_of_le (le_of_suc-le-suc h)) (crc_differs b g f p k n o (omega arith))
  where
    go : (n ≡ k) ⊎ (n < k) → (n < k → crc_over none f p k ≡ crc_over none g p k → ⊥) → ⊥
    go (inl q) ih =
        let q' : p + k ≡ p + n = omega arith in
        step_flip (crc_over none g p k) (g (p + k)) (crc_over-lt none g p k)
        (ap₂ crc_step (sym (crc_over_ext none f g p k (λ j i. o.same (p + j) (omega arith) (λ z. omega arith)))) (sym (rw q' o.wrong)) ∙
        e)
    go (inr q) ih =
        ih q (step_inj (crc_over none f p k) (crc_over none g p k) (g (p + k)) (crc_over-lt none f p k) (crc_over-lt none g p k)
        (ap (crc_step (crc_over none f p k)) (sym (o.same (p + k) (omega arith) (λ z. omega arith))) ∙ e))
