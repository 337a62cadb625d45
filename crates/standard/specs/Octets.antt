-- Document 01, 'From data to line', step 6, and linear samples: V.90 Table 1 by its rule. Assumes nothing.
use Rattle.std.specs.Prelude.{ℕ, zero, suc, ◌+◌, ◌*◌, ◌-◌, ◌/◌, ◌%◌, ◌^◌, Bool, true, false, cond, ℤ, pos, neg_ℤ}
use Rattle.std.specs.Int.Bits.{bit_xor}
use Rattle.standard.specs.Bits.{bit}
use Rattle.standard.specs.declared.Law.{Law}
use Rattle.standard.specs.declared.Law.TheVariants.{Mu, A}

-- 'positive octets: FF XOR u for µ-law, D5 XOR u for A-law'
unfoldable pub positive_octet : Law → ℕ → ℕ
positive_octet Mu u = bit_xor u 0xff
positive_octet A u = bit_xor u 0xd5

-- 'A negative octet lacks the top bit.'
unfoldable pub octet : Law → Bool → ℕ → ℕ
octet l s u = cond s (positive_octet l u) (positive_octet l u % 128)

-- the sign and the Ucode of an octet
unfoldable pub sign_of : ℕ → Bool
sign_of o = bit o 7

unfoldable pub ucode_of : Law → ℕ → ℕ
ucode_of l o = positive_octet l o % 128

-- Table 1's linear value of Ucode u, by its Uchord s = u div 16 and place q = u mod 16 in it
unfoldable pub magnitude_in : Law → ℕ → ℕ → ℕ
magnitude_in Mu s q = (8 * q + 132) * 2 ^ s - 132
magnitude_in A zero q = 16 * q + 8
magnitude_in A (suc s) q = (16 * q + 264) * 2 ^ s

unfoldable pub magnitude : Law → ℕ → ℕ
magnitude l u = magnitude_in l (u / 16) (u % 16)

abbrev pub signed : Bool → ℕ → ℤ
signed true n = pos n
signed false n = neg_ℤ (pos n)

-- 'each octet becomes one signed 32-bit number, V.90 Table 1's linear value with the octet's sign'
unfoldable pub sample_of : Law → ℕ → ℤ
sample_of l o = signed (sign_of o) (magnitude l (ucode_of l o))
