-- Laws of the choice of points. Assumes nothing.
use mathlib.Core.Path.{◌≡◌, refl, sym, ap, ap₂, ◌∙◌}
use Prim.Native.Nat.{ℕ, zero, suc, ◌+◌, ◌*◌, ◌-◌, ◌/◌, ◌^◌, ◌≤◌, ◌<◌}
use mathlib.Core.Bool.{Bool, true, false}
use native.Mathlib.Nat.{add-zero, mul-le-mul, pow-suc, pow-zero, one-mul}
use native.Mathlib.Omega.{arith}
use borrow.Author.Tests.{le-leb, lt-leb}
use lib.Dec.{leb}
use lib.Pow.{pow-add}
use Rattle.standard.specs.Lists.{lowest_from, list_where}
use Rattle.standard.specs.Bits.{weight, field}
use Rattle.standard.specs.Octets.{magnitude}
use Rattle.standard.specs.Plan.{linear_values, sum_of_squares, takes, looked_at, choice_at, lowest_mask}
use Rattle.standard.specs.declared.Law.{Law}
use Rattle.standard.proofs.Lists.{lowest_hit, lowest-past}
use Rattle.standard.proofs.Bits.{field_lt, field_split}
use Rattle.standard.proofs.Octets.{magnitude-lt}
use Rattle.standard.proofs.Plan.{sum_snoc}
use Rattle.choosing.specs.Choosing.{choice_of, Before}
use Rattle.choosing.specs.declared.Chosen.{Chosen}

-- ---- sixth powers

cube : (m : ℕ) → m ^ 3 ≡ m * m * m
cube m =
    let two : m ^ 2 ≡ m * m = pow-suc m 1 ∙ ap (λ (x : ℕ). x * m) (pow-suc m 0 ∙ rw (pow-zero, one-mul)) in
    pow-suc m 2 ∙ ap (λ (x : ℕ). x * m) two

pub sixth : (m : ℕ) → m * m * m * (m * m * m) ≡ m ^ 6
sixth m = sym (pow-add m 3 3 ∙ rw (cube m))

module _ (m : ℕ) (h : m ≤ 128) where
  pub two_le : m * m ≤ 2 ^ 14
  two_le = mul-le-mul h h

  pub three_le : m * m * m ≤ 2 ^ 21
  three_le = mul-le-mul two_le h

  pub six_le : m * m * m * (m * m * m) ≤ 2 ^ 42
  six_le = mul-le-mul three_le three_le

-- ---- the search for M: those below m are too small

module _ (k : ℕ) where
  abbrev pub search_from : ℕ → ℕ
  search_from m = lowest_from (λ M. leb (2 ^ k) (M ^ 6)) m (128 - m)

  pub search_past : (m : ℕ) → m < 128 → m ^ 6 < 2 ^ k → search_from m ≡ search_from (m + 1)
  search_past m h s =
      let e : 128 - m - 1 ≡ 128 - (m + 1) = omega arith in
      lowest-past (λ M. leb (2 ^ k) (M ^ 6)) m (128 - m) (omega arith) (lt-leb (2 ^ k) (m ^ 6) s) ∙ rw e

  pub search_hit : (m : ℕ) → 2 ^ k ≤ m ^ 6 → search_from m ≡ m
  search_hit m s = lowest_hit (λ M. leb (2 ^ k) (M ^ 6)) m (128 - m) (le-leb (2 ^ k) (m ^ 6) s)

-- ---- a Ucode is looked at

pub square_le : (v : ℕ) → v < 2 ^ 15 → v * v ≤ 2 ^ 30
square_le v h = let k : v ≤ 2 ^ 15 = omega arith in mul-le-mul k k

module _ (c : Chosen) (v i d : ℕ) where
  abbrev pub Looked : Chosen → Type 0
  Looked r =
      (r.bits ≡ c.bits + weight (takes (choice_of c) v) * 2 ^ i) × (choice_of r ≡ looked_at d (choice_of c) v)
      × (r.sum ≡ c.sum + weight (takes (choice_of c) v) * (v * v))

  pub not_taken : takes (choice_of c) v ≡ false → Looked c
  unfolding looked_at
  not_taken e = rw e (omega arith, refl, omega arith)

  pub taken : (one : ℕ) → one ≡ 2 ^ i → takes (choice_of c) v ≡ true
      → Looked (record { bits = c.bits + one; floor = v + d; wanted = c.wanted - 1; sum = c.sum + v * v })
  unfolding looked_at
  taken one q e = rw (e, q) (omega arith, refl, omega arith)

-- ---- sums and bits of one more

sum-le : (l : Law) (m : ℕ → Bool) (n : ℕ) → n ≤ 128 → sum_of_squares (linear_values l m n) ≤ n * 2 ^ 30
unfolding linear_values sum_of_squares list_where
sum-le l m zero h = omega arith
sum-le l m (suc n) h =
    omega (arith, sum_snoc l m n, sum-le l m n (omega arith), one (m n) (square_le (magnitude l n) (magnitude-lt l n (omega arith))))
  where
    one : {x : ℕ} (b : Bool) → x ≤ 2 ^ 30 → weight b * x ≤ 2 ^ 30
    one true k = omega arith
    one false k = omega arith

field_more : (f : ℕ → Bool) (p k : ℕ) → field f p (k + 1) ≡ field f p k + weight (f (p + k)) * 2 ^ k
unfolding field
field_more f p k = field_split f p k 1 ∙ ap (λ (x : ℕ). field f p k + x) (one (f (p + k)))
  where
    one : (b : Bool) → 2 ^ k * (weight b + 2 * 0) ≡ weight b * 2 ^ k
    one true = omega arith
    one false = omega arith

-- ---- the Ucodes from `from` on: i of them were looked at, and p came of it

module _ (l : Law) (d M from : ℕ) where
  abbrev mask : ℕ → Bool
  mask = lowest_mask l d M

  pub record Half (i : ℕ) (p : Chosen) : Type 0 where
    pub before : Before l d M (from + i) p
    pub bits_are : p.bits ≡ field mask from i

  pub half_begun : (c p : Chosen) → choice_of p ≡ choice_of c → p.sum ≡ c.sum → p.bits ≡ 0 → Before l d M from c → Half 0 p
  unfolding field
  half_begun c p e s z b =
      record { before = rw (add-zero from) (record { choice = e ∙ b.choice; sum_is = s ∙ b.sum_is }); bits_are = z }

  module _ (i : ℕ) (p : Chosen) (h : Half i p) where
    pub bits_small : p.bits < 2 ^ i
    bits_small = rw h.bits_are (field_lt mask from i)

    pub sum-small : from + i ≤ 128 → p.sum < 2 ^ 63
    sum-small b = omega (arith, h.before.sum_is, sum-le l mask (from + i) b)

    pub half_more : (v : ℕ) (r : Chosen) → v ≡ magnitude l (from + i) → Looked p v i d r → Half (i + 1) r
    unfolding choice_at lowest_mask
    half_more v r e k =
        let q : takes (choice_of p) v ≡ mask (from + i) = ap₂ takes h.before.choice e in
        let s : from + (i + 1) ≡ suc (from + i) = omega arith in
        record {
          before = rw s (record {
            choice = k.1 ∙ ap₂ (looked_at d) h.before.choice e;
            sum_is = k.2 ∙ ap₂ ◌+◌ h.before.sum_is (ap₂ (λ (b : Bool) (x : ℕ). weight b * (x * x)) q e) ∙ sym (sum_snoc l mask (from + i));
          });
          bits_are = k.0 ∙ ap₂ ◌+◌ h.bits_are (ap (λ (b : Bool). weight b * 2 ^ i) q) ∙ sym (field_more mask from i);
        }

-- before the first
pub begun : (l : Law) (d M b : ℕ) → Before l d M 0 (record { bits = b; floor = (d + 1) / 2; wanted = M; sum = 0 })
unfolding choice_at linear_values list_where sum_of_squares
begun l d M b = record { choice = refl; sum_is = refl }
