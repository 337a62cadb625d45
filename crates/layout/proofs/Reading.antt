-- Laws of fields as the code reads them. Assumes nothing.
use mathlib.Core.Path.{◌≡◌, ap, ap₂, ◌∙◌}
use Prim.Native.Nat.{ℕ, ◌+◌, ◌*◌, ◌/◌, ◌%◌}
use mathlib.Core.Bool.{Bool}
use mathlib.Core.List.{List}
use native.Mathlib.Omega.{arith}
use Rattle.standard.specs.Bits.{field}
use Rattle.standard.specs.Lists.{list_from, largest}
use Rattle.standard.specs.Record.{index_of, top_index}
use Rattle.standard.specs.Cp.{run_place, index_in, mask_bit_in, half_in, record_in}
use Rattle.standard.specs.declared.Record.{Record}
use Rattle.standard.proofs.Bits.{field_ext, field_split}
use Rattle.standard.proofs.Lists.{get_d_list, largest_ext}
use Rattle.layout.specs.Reading.{head_in}

-- ---- fields

-- the run that begins at Ucode p of a mask
run-bits : (f : ℕ → Bool) (m p c : ℕ) → p ≡ 16 * c → field (mask_bit_in f m) p 16 ≡ field f (run_place m c) 16
unfolding mask_bit_in
run-bits f m p c e =
    field_ext (mask_bit_in f m) f p (run_place m c) 16
    (λ i l.
    let d : (p + i) / 16 ≡ c = omega arith in
    let k : (p + i) % 16 ≡ i = omega arith in
    ap₂ (λ (x y : ℕ). f (run_place m x + y)) d k)

-- a half has four runs
pub half_runs : (f : ℕ → Bool) (m q : ℕ)
    → field (mask_bit_in f m) (64 * q) 64
    ≡ field f (run_place m (4 * q)) 16 + 65536 * field f (run_place m (4 * q + 1)) 16
    + 4294967296 * (field f (run_place m (4 * q + 2)) 16 + 65536 * field f (run_place m (4 * q + 3)) 16)
half_runs f m q =
    let b = mask_bit_in f m in
    omega (
      arith,
      field_split b (64 * q) 16 48,
      field_split b (64 * q + 16) 16 32,
      field_split b (64 * q + 16 + 16) 16 16,
      run-bits f m (64 * q) (4 * q) (omega arith),
      run-bits f m (64 * q + 16) (4 * q + 1) (omega arith),
      run-bits f m (64 * q + 16 + 16) (4 * q + 2) (omega arith),
      run-bits f m (64 * q + 16 + 16 + 16) (4 * q + 3) (omega arith),
    )

-- ---- the record

top_head : (f : ℕ → Bool) → top_index (head_in f) ≡ largest (index_in f) 6
unfolding top_index head_in
top_head f = largest_ext (index_of (head_in f)) (index_in f) 6 (λ k h. get_d_list (index_in f) 0 6 k h)

-- the head and the masks up to its largest index
pub record_read : (f : ℕ → Bool) (head : Record) (g : ℕ) (mask : List ℕ) → head ≡ head_in f → g ≡ top_index head
    → mask ≡ list_from (half_in f g) 0 12
    → record { granted = head.granted; drn = head.drn; acknowledge = head.acknowledge; index = head.index; mask = mask } ≡ record_in f
unfolding head_in record_in
record_read f head g mask h e m =
    let g-is : g ≡ largest (index_in f) 6 = e ∙ ap top_index h ∙ top_head f in
    rw (m, g-is, h)
