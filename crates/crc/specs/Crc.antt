-- The CRC register where no bit is 1. Assumes nothing.
use Rattle.std.specs.Prelude.{ℕ, zero, suc, false}
use Rattle.standard.specs.Crc.{crc_step}

-- the register x after n zero bits
unfoldable pub crc_zeros : ℕ → ℕ → ℕ
crc_zeros zero x = x
crc_zeros (suc n) x = crc_zeros n (crc_step x false)
