-- Laws of the scrambler: descrambling undoes it, and a descrambler forgets its history after 23 bits. Assumes nothing.
use mathlib.Core.Path.{◌≡◌, refl, sym, ap, ap₂, ◌∙◌}
use Prim.Native.Nat.{ℕ, zero, suc, ◌+◌, ◌-◌, ◌*◌, ◌/◌, ◌%◌, ◌^◌, ◌≤◌, ◌<◌}
use mathlib.Core.Bool.{Bool, false}
use mathlib.Core.List.{List, [], ◌∷◌, ◌++◌}
use native.Mathlib.Decide.{dec_le}
use native.Mathlib.Nat.{mod-lt, mod-one}
use native.Mathlib.Omega.{arith}
use lib.Dec.{lit<}
use lib.ListN.{length, get_or}
use lib.Pow.{mod-pow-add, mod-mod-pow, field}
use Rattle.standard.specs.Bits.{◌⊕◌, weight, positive, bit}
use Rattle.standard.specs.Scrambler.{taps, push, push_all, scramble, descramble}
use Rattle.standard.proofs.Bits.{xor_cancel, weight-lt}

pub descramble-scramble : (h : ℕ) (ds : List Bool) → descramble h (scramble h ds) ≡ ds
unfolding scramble descramble
descramble-scramble h [] = refl
descramble-scramble h (d ∷ ds) = ap₂ ◌∷◌ (xor_cancel d (taps h)) (descramble-scramble (push h (d ⊕ taps h)) ds)

pub length-scramble : (h : ℕ) (ds : List Bool) → length (scramble h ds) ≡ length ds
unfolding scramble
length-scramble h [] = refl
length-scramble h (d ∷ ds) = ap suc (length-scramble (push h (d ⊕ taps h)) ds)

pub length-descramble : (h : ℕ) (ss : List Bool) → length (descramble h ss) ≡ length ss
unfolding descramble
length-descramble h [] = refl
length-descramble h (s ∷ ss) = ap suc (length-descramble (push h s) ss)

pub scramble-append : (h : ℕ) (a b : List Bool) → scramble h (a ++ b) ≡ scramble h a ++ scramble (push_all h (scramble h a)) b
unfolding scramble push_all
scramble-append h [] b = refl
scramble-append h (d ∷ ds) b = ap (λ (r : List Bool). (d ⊕ taps h) ∷ r) (scramble-append (push h (d ⊕ taps h)) ds b)

pub push_all-append : (h : ℕ) (a b : List Bool) → push_all h (a ++ b) ≡ push_all (push_all h a) b
unfolding push_all
push_all-append h [] b = refl
push_all-append h (s ∷ ss) b = push_all-append (push h s) ss b

pub push-lt : (h : ℕ) (s : Bool) → push h s < 2 ^ 23
unfolding push
push-lt h s = mod-lt (2 * h + weight s) (lit< tt)

pub push_all-lt : (h : ℕ) (ss : List Bool) → h < 2 ^ 23 → push_all h ss < 2 ^ 23
unfolding push_all
push_all-lt h [] l = l
push_all-lt h (s ∷ ss) l = push_all-lt (push h s) ss (push-lt h s)

-- ---- forgetting

half_double : (h : ℕ) (b : Bool) → (2 * h + weight b) / 2 ≡ h
half_double h b = omega (arith, weight-lt b)

low_double : (h : ℕ) (b : Bool) → (2 * h + weight b) % 2 ≡ weight b
low_double h b = omega (arith, weight-lt b)

push_low : (k j h : ℕ) (b : Bool) → j + (k + 1) ≡ 23 → push h b % 2 ^ (k + 1) ≡ h % 2 ^ k * 2 + weight b
unfolding push
push_low k j h b e =
    ap (λ (n : ℕ). (2 * h + weight b) % 2 ^ n % 2 ^ (k + 1)) (sym e)
    ∙ mod-mod-pow (2 * h + weight b) j (k + 1)
    ∙ mod-pow-add (2 * h + weight b) k 1
    ∙ ap₂ (λ (x y : ℕ). x % 2 ^ k * 2 + y) (half_double h b) (low_double h b)

-- histories that agree in all but their c oldest bits
abbrev pub Close : ℕ → ℕ → ℕ → Type 0
Close c h h' = h % 2 ^ (23 - c) ≡ h' % 2 ^ (23 - c)

pub any_close : (c h h' : ℕ) → 23 ≤ c → Close c h h'
any_close c h h' l = let z : 23 - c ≡ 0 = omega arith in rw z (mod-one h ∙ sym (mod-one h'))

-- the same bit to both: one bit less
closer : (c h h' : ℕ) (b : Bool) → Close c h h' → Close (c - 1) (push h b) (push h' b)
closer zero h h' b e =
    let low : (x : ℕ) → push x b % 2 ^ 23 ≡ x % 2 ^ 23 % 2 ^ 22 * 2 + weight b = λ x. push_low 22 0 x b refl
    ∙ ap (λ (y : ℕ). y * 2 + weight b) (sym (mod-mod-pow x 1 22)) in
    low h ∙ ap (λ (y : ℕ). y % 2 ^ 22 * 2 + weight b) e ∙ sym (low h')
closer (suc c) h h' b e = let m : suc c - 1 ≡ c = omega arith in rw m (go (dec_le 23 c))
  where
    go : Dec (23 ≤ c) → Close c (push h b) (push h' b)
    go (yes l) = any_close c (push h b) (push h' b) l
    go (no l) =
        let k : 23 - c ≡ 23 - suc c + 1 = omega arith in
        let low : (x : ℕ) → push x b % 2 ^ (23 - suc c + 1) ≡ x % 2 ^ (23 - suc c) * 2 + weight b = λ x. push_low (23 - suc c) c x b
        (omega arith) in
        rw k (low h ∙ ap (λ (y : ℕ). y * 2 + weight b) e ∙ sym (low h'))

pub closer_all : (c h h' : ℕ) (ss : List Bool) → Close c h h' → Close (c - length ss) (push_all h ss) (push_all h' ss)
unfolding push_all
closer_all c h h' [] e = let z : c - 0 ≡ c = omega arith in rw z e
closer_all c h h' (s ∷ ss) e =
    let z : c - suc (length ss) ≡ c - 1 - length ss = omega arith in
    rw z (closer_all (c - 1) (push h s) (push h' s) ss (closer c h h' s e))

-- a tap reads the 23 latest bits
tap : (h j k : ℕ) → j + 1 + k ≡ 23 → h / 2 ^ k % 2 ≡ h % 2 ^ 23 / 2 ^ k % 2
tap h j k e = sym (ap (λ (n : ℕ). h % 2 ^ n / 2 ^ k % 2) (sym e) ∙ ap (λ (n : ℕ). n % 2) (field h (j + 1) k) ∙ mod-mod-pow (h / 2 ^ k) j 1)

close_taps : (h h' : ℕ) → Close 0 h h' → taps h ≡ taps h'
unfolding taps
close_taps h h' e =
    let at : (j k : ℕ) → j + 1 + k ≡ 23 → bit h k ≡ bit h' k =
    λ j k q. ap positive (tap h j k q ∙ ap (λ (n : ℕ). n / 2 ^ k % 2) e ∙ sym (tap h' j k q)) in
    ap₂ ◌⊕◌ (at 5 17 refl) (at 0 22 refl)

-- so what is descrambled past c bits is the same
pub same-past : (c h h' : ℕ) (ss : List Bool) (p : ℕ) → Close c h h' → c ≤ p → get_or (descramble h ss) p false
    ≡ get_or (descramble h' ss) p false
unfolding descramble
same-past c h h' [] p e l = refl
same-past c h h' (s ∷ ss) zero e l = let z : c ≡ 0 = omega arith in ap (λ (b : Bool). s ⊕ b) (close_taps h h' (rw z at e))
same-past c h h' (s ∷ ss) (suc p) e l = same-past (c - 1) (push h s) (push h' s) ss p (closer c h h' s e) (omega arith)
