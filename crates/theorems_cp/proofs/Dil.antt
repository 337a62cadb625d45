-- What Table 5 comes to, and the example of V.90 8.4.1's rule. Assumes nothing.
use mathlib.Core.Path.{◌≡◌, refl, ap, ◌∙◌}
use Prim.Native.Nat.{ℕ, ◌+◌, ◌*◌, ◌<◌}
use mathlib.Core.Bool.{Bool, beq}
use lib.Dec.{leb}
use lib.ListN.{get_or}
use Rattle.standard.specs.Lists.{list_from, joined}
use Rattle.standard.specs.Bits.{bit}
use Rattle.standard.specs.Octets.{positive_octet, octet}
use Rattle.standard.specs.Dil.{segment_length, symbol_sign, symbol_ucode, segment, dil, default_dil}
use Rattle.standard.specs.declared.Law.{Law}
use Rattle.standard.proofs.Lists.{every_at, beq→eq}
use Rattle.standard.proofs.Dil.{training_symbol, generated_is, length-default_dil, default_dil-at}
use Rattle.theorems_cp.specs.Dil.{DilTold}

-- the bits of SP: six zeros, then six ones
six_and_six : (k : ℕ) → k < 12 → bit 0x0fc0 k ≡ leb 6 k
six_and_six k h = beq→eq _ (leb 6 k) (every_at (λ k. beq (bit 0x0fc0 k) (leb 6 k)) 12 tt k h)

symbols : (l : Law) (n k : ℕ) → n < 125 → k < 12 → get_or (default_dil l) (n * 12 + k) 0 ≡ octet l (leb 6 k) (training_symbol n)
symbols l n k h b = default_dil-at l n k h b ∙ ap (λ (s : Bool). octet l s (training_symbol n)) (six_and_six k b)

pub dil_told : DilTold
unfolding list_from joined positive_octet octet segment_length symbol_sign symbol_ucode segment dil
dil_told =
    record {
      octets = length-default_dil;
      symbols = symbols;
      generator = generated_is;
      example = refl;
    }
