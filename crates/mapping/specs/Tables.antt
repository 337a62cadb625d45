-- A.6: the tables that a call draws up once, and K and D with the sizes. A mask is a function of the Ucode. Assumes nothing.
use Rattle.std.specs.Prelude.{◌≡◌, ℕ, ◌≤◌, ◌<◌, Bool, cond, List, [], length, get_or}
use Rattle.standard.specs.Lists.{list_from}
use Rattle.standard.specs.Record.{index_of, K, D}
use Rattle.standard.specs.Constellation.{label_of, point_of, member, sizes}
use Rattle.standard.specs.declared.Record.{Record}
use Rattle.mapping.specs.declared.Mapping.{Mapping}

-- 'the Ucodes in label order': place c has the Ucode that label c names; places from M on, which no label has, have 0
unfoldable pub point_table : (ℕ → Bool) → List ℕ
point_table m = list_from (point_of m 128) 0 128

-- 'from Ucode to label or none': none is 255
unfoldable pub label_or_none : (ℕ → Bool) → ℕ → ℕ
label_or_none m u = cond (m u) (label_of m 128 u) 255

-- 'a 128-place table'
unfoldable pub label_table : (ℕ → Bool) → List ℕ
label_table m = list_from (label_or_none m) 0 128

-- 'per interval'
unfoldable pub point_tables : Record → List (List ℕ)
point_tables r = list_from (λ i. point_table (member r i)) 0 6

unfoldable pub label_tables : Record → List (List ℕ)
label_tables r = list_from (λ i. label_table (member r i)) 0 6

-- K, D and M0 to M5
abbrev pub mapping_of : Record → Mapping
mapping_of r = record { k = K r; d = D r; sizes = sizes r }

-- the tables of the intervals before i are drawn up
pub record DrawnBefore (r : Record) (ps ls : List (List ℕ)) (i : ℕ) : Type 0 where
  pub long_points : length ps ≡ 6
  pub long_labels : length ls ≡ 6
  pub points : (j : ℕ) → j < i → get_or ps j [] ≡ point_table (member r j)
  pub labels : (j : ℕ) → j < i → get_or ls j [] ≡ label_table (member r j)

-- j is the first interval that names the mask of interval i
pub record FirstNaming (r : Record) (i j : ℕ) : Type 0 where
  pub within : j ≤ i
  pub same : index_of r j ≡ index_of r i
  pub first : (k : ℕ) → k < j → index_of r k ≡ index_of r i → ⊥
