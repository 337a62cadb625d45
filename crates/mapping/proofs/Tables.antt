-- The tables of the six intervals, one interval a turn, and what stands in them. Assumes nothing.
use mathlib.Core.Path.{◌≡◌, refl, ap, ap₂, ◌∙◌}
use Prim.Native.Nat.{ℕ, ◌+◌, ◌≤◌, ◌<◌}
use mathlib.Core.Bool.{Bool, true, false, cond, not}
use mathlib.Core.List.{List, []}
use native.Mathlib.Decide.{dec_lt}
use native.Mathlib.Nat.{not-suc-le-zero}
use native.Mathlib.Omega.{arith}
use borrow.Author.Tests.{ne_eqb}
use lib.Dec.{eqb}
use lib.ListN.{length, get_or, set, length-set, get_or-eq_default}
use Rattle.standard.specs.Record.{index_of, in_mask, K, D}
use Rattle.standard.specs.Constellation.{label_of, point_of, member, point, sizes}
use Rattle.standard.specs.declared.Record.{Record}
use Rattle.standard.proofs.Lists.{list_from_is, list_from_ext, get_d_list}
use Rattle.standard.proofs.Filling.{one_more}
use Rattle.standard.proofs.Constellation.{size_of-le, label-above}
use Rattle.standard.proofs.Frame.{length-sizes, size-at}
use Rattle.constellation.specs.Mask.{has, mask_of}
use Rattle.constellation.proofs.Masks.{mask-member, mask-label, mask-point}
use Rattle.mapping.specs.declared.Mapping.{Mapping}
use Rattle.mapping.specs.Tables.{mapping_of, point_table, label_or_none, label_table, point_tables, label_tables, DrawnBefore}

module _ (r : Record) (i : ℕ) where
  -- the tables of an interval's mask are the interval's
  pub mask-points : point_table (has (mask_of r i)) ≡ point_table (member r i)
  unfolding point_table
  mask-points = list_from_ext (point_of (has (mask_of r i)) 128) (point_of (member r i) 128) 128 (λ c l. mask-point r i c)

  pub mask-labels : label_table (has (mask_of r i)) ≡ label_table (member r i)
  unfolding label_table label_or_none
  mask-labels =
      list_from_ext (label_or_none (has (mask_of r i))) (label_or_none (member r i)) 128
      (λ u l. ap₂ (λ (b : Bool) (x : ℕ). cond b x 255) (mask-member r i u l) (mask-label r i u))

  -- intervals that name one mask have one membership
  pub same-member : (j : ℕ) → index_of r j ≡ index_of r i → member r j ≡ member r i
  unfolding member
  same-member j e = ap {B = ℕ → Bool} (λ (m : ℕ). in_mask r m) e

module _ (r : Record) (ps ls : List (List ℕ)) where
  pub before-none : length ps ≡ 6 → length ls ≡ 6 → DrawnBefore r ps ls 0
  before-none a b =
      record { long_points = a; long_labels = b; points = λ j h. absurd (not-suc-le-zero h); labels = λ j h. absurd (not-suc-le-zero h) }

  pub before_more : (i : ℕ) → i < 6 → DrawnBefore r ps ls i → DrawnBefore r (set ps i (point_table (member r i)))
      (set ls i (label_table (member r i))) (i + 1)
  before_more i h p =
      record {
        long_points = length-set ps i _ ∙ p.long_points;
        long_labels = length-set ls i _ ∙ p.long_labels;
        points = one_more [] (λ j. point_table (member r j)) ps i _ (omega (arith, p.long_points)) refl p.points;
        labels = one_more [] (λ j. label_table (member r j)) ls i _ (omega (arith, p.long_labels)) refl p.labels;
      }

  pub before-all : DrawnBefore r ps ls 6 → (ps ≡ point_tables r) × (ls ≡ label_tables r)
  unfolding point_tables label_tables
  before-all p = (
    list_from_is (λ i. point_table (member r i)) [] 6 ps p.long_points p.points,
    list_from_is (λ i. label_table (member r i)) [] 6 ls p.long_labels p.labels,
  )

-- ---- what stands in them

module _ (r : Record) (ts : List (List ℕ)) (i : ℕ) (h : i < 6) where
  pub point_in : ts ≡ point_tables r → (c : ℕ) → c < 128 → get_or (get_or ts i []) c 0 ≡ point r i c
  unfolding point_tables point_table
  point_in e c l =
      ap (λ (x : List (List ℕ)). get_or (get_or x i []) c 0) e ∙ ap (λ (t : List ℕ). get_or t c 0)
      (get_d_list (λ j. point_table (member r j)) [] 6 i h)
      ∙ get_d_list (point_of (member r i) 128) 0 128 c l

  pub label_in_lem : ts ≡ label_tables r → (u : ℕ) → u < 128 → get_or (get_or ts i []) u 0 ≡ label_or_none (member r i) u
  unfolding label_tables label_table
  label_in_lem e u l =
      ap (λ (x : List (List ℕ)). get_or (get_or x i []) u 0) e ∙ ap (λ (t : List ℕ). get_or t u 0)
      (get_d_list (λ j. label_table (member r j)) [] 6 i h)
      ∙ get_d_list (label_or_none (member r i)) 0 128 u l

-- K, D and the sizes, one by one
pub mapped : (r : Record) (k d : ℕ) (ss : List ℕ) → k ≡ K r → d ≡ D r → ss ≡ sizes r → record { k = k; d = d; sizes = ss } ≡ mapping_of r
mapped r k d ss ek ed es = rw (ek, ed, es) refl

-- no number has more than 42 bits, no frame more than 48, and no mask more than 128 Ucodes
module _ (r : Record) (m : Mapping) (e : m ≡ mapping_of r) where
  pub number-le : r.drn ≤ 28 → m.k ≤ 42
  number-le h = omega (arith, ap (λ (x : Mapping). x.k) e)

  pub width-le : r.drn ≤ 28 → m.d ≤ 48
  width-le h = omega (arith, ap (λ (x : Mapping). x.d) e)

  pub width_ge : 20 ≤ m.d
  width_ge = omega (arith, ap (λ (x : Mapping). x.d) e)

  pub size-le : (i : ℕ) → get_or m.sizes i 0 ≤ 128
  size-le i = rw e (go (dec_lt i 6))
    where
      go : Dec (i < 6) → get_or (sizes r) i 0 ≤ 128
      go (yes h) = omega (arith, size-at r i h, size_of-le (member r i) 128)
      go (no h) = omega (arith, get_or-eq_default (sizes r) 0 {n = i} (omega (arith, length-sizes r)))

-- none stands where the mask lacks the Ucode, and there alone
module _ (m : ℕ → Bool) (u : ℕ) (h : u < 128) where
  pub none-outside : eqb (label_or_none m u) 255 ≡ not (m u)
  unfolding label_or_none
  none-outside = go (m u)
    where
      go : (b : Bool) → eqb (cond b (label_of m 128 u) 255) 255 ≡ not b
      go true = ne_eqb (label_of m 128 u) 255 (λ (e : label_of m 128 u ≡ 255). omega (arith, label-above m 128 u h, size_of-le m 128))
      go false = refl

  pub label_inside : m u ≡ true → label_or_none m u ≡ label_of m 128 u
  unfolding label_or_none
  label_inside e = rw e
