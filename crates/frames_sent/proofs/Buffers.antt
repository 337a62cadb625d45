-- Laws of data that is read frame by frame. Assumes nothing.
use mathlib.Core.Path.{◌≡◌, sym, ◌∙◌}
use Prim.Native.Nat.{ℕ, ◌+◌, ◌≤◌, ◌<◌}
use mathlib.Core.Bool.{false}
use mathlib.Core.List.{List}
use native.Mathlib.Omega.{arith}
use lib.ListN.{length, take, drop, length-drop}
use lib.Seq.{ext_get_or, get_or-take, get_or-drop, length-take-le}
use Rattle.standard.specs.Lists.{list_from}
use Rattle.standard.specs.Bits.{bit_at, bits_in, field, bits_of}
use Rattle.standard.proofs.Lists.{length-list_from, get_d_list_from, get_d_list}
use Rattle.standard.proofs.Bits.{bits-field}

-- ---- the data bits of a frame, d of them from bit p on, read as a number and as part of the call's bits

module _ (s : List ℕ) (p d all : ℕ) (inside : p + d ≤ all) where
  pub frame-bits : bits_of d (field (bit_at s) p d) ≡ take d (drop p (bits_in all s))
  unfolding bits_in
  frame-bits =
      bits-field (bit_at s) p d
      ∙ ext_get_or false (list_from (bit_at s) p d) (take d (drop p (list_from (bit_at s) 0 all))) (length-list_from (bit_at s) p d ∙ sym long)
      (λ j k.
      let l : j < d = rw (length-list_from (bit_at s) p d) at k in
      get_d_list_from (bit_at s) false p d j l
      ∙ sym (get_or-take d (drop p (list_from (bit_at s) 0 all)) j false l ∙ get_or-drop p (list_from (bit_at s) 0 all) j false
      ∙ get_d_list (bit_at s) false all (p + j) (omega arith)))
    where
      long : length (take d (drop p (list_from (bit_at s) 0 all))) ≡ d
      long = length-take-le d (drop p (list_from (bit_at s) 0 all))
          (omega (arith, length-drop p (list_from (bit_at s) 0 all), length-list_from (bit_at s) 0 all))
