-- Document 01, 'From data to line', step 4: masks, their sizes, labels and points. A mask is a function of the Ucode. Assumes nothing.
use Rattle.std.specs.Prelude.{ℕ, zero, suc, ◌+◌, Bool, cond, List, eqb}
use Rattle.standard.specs.Lists.{list_from}
use Rattle.standard.specs.Bits.{weight}
use Rattle.standard.specs.Record.{index_of, in_mask}
use Rattle.standard.specs.declared.Record.{Record}

-- the Ucodes of the mask m that are below n: how many there are
unfoldable pub size_of : (ℕ → Bool) → ℕ → ℕ
size_of m zero = 0
size_of m (suc n) = weight (m n) + size_of m n

-- how many of them are above the Ucode u
unfoldable pub label_of : (ℕ → Bool) → ℕ → ℕ → ℕ
label_of m zero u = 0
label_of m (suc n) u = cond (eqb u n) 0 (weight (m n) + label_of m n u)

-- the one that has c of them above it: 'Label 0 names the largest Ucode of the interval's mask, label M − 1 the smallest.'
unfoldable pub point_of : (ℕ → Bool) → ℕ → ℕ → ℕ
point_of m zero c = 0
point_of m (suc n) zero = cond (m n) n (point_of m n zero)
point_of m (suc n) (suc c) = point_of m n (cond (m n) c (suc c))

-- 'Interval i uses the mask its index names'
unfoldable pub member : Record → ℕ → ℕ → Bool
member r i u = in_mask r (index_of r i) u

-- 'M is the number of ones in the mask, written M0 to M5 per interval.'
abbrev pub size : Record → ℕ → ℕ
size r i = size_of (member r i) 128

abbrev pub label : Record → ℕ → ℕ → ℕ
label r i u = label_of (member r i) 128 u

abbrev pub point : Record → ℕ → ℕ → ℕ
point r i c = point_of (member r i) 128 c

-- M0 to M5
unfoldable pub sizes : Record → List ℕ
sizes r = list_from (size r) 0 6
