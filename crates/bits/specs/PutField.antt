-- Bits put into bytes. Assumes nothing.
use Rattle.std.specs.Prelude.{ℕ, ◌+◌, ◌-◌, ◌*◌, ◌/◌, ◌%◌, ◌^◌, ◌<◌, Bool, cond, List, ltb, length}
use Rattle.standard.specs.Bits.{bit, bit_at, field, bytes_of}
use Rattle.standard.specs.Cp.{put, covers}
use Rattle.bits.specs.declared.Pouring.{Pouring}

-- bit n of the bit string f, in which the k bits from bit p on are the lowest k bits of v, lowest first
abbrev pub bit_with : (ℕ → Bool) → ℕ → ℕ → ℕ → ℕ → Bool
bit_with f p k v n = cond (covers (put p k v) n) (bit v (n - p)) (f n)

-- the word w of 64 bits with these bits in it
unfoldable pub word_with : ℕ → ℕ → ℕ → ℕ → ℕ
word_with w p k v = field (bit_with (bit w) p k v) 0 64

-- the bytes s with these bits in them
unfoldable pub put_field : List ℕ → ℕ → ℕ → ℕ → List ℕ
put_field s p k v = bytes_of (length s) (bit_with (bit_at s) p k v)

-- fewer than 64 bits are held, as a number
pub record Holds (p : Pouring) : Type 0 where
  pub few : p.count < 64
  pub small : p.held < 2 ^ p.count

-- the bits that are held, and those of v above them
abbrev pub joined : Pouring → ℕ → ℕ
joined p v = v * 2 ^ p.count + p.held

-- k bits of v more: what is held then, and the bytes s, of which eight are put where the bits fill them
unfoldable pub holding : Pouring → ℕ → ℕ → Pouring
holding p k v =
    cond (ltb (p.count + k) 64) (record { to = p.to; count = p.count + k; held = joined p v % 2 ^ 64 })
    (record { to = p.to + 8; count = p.count + k - 64; held = v / 2 ^ (64 - p.count) })

unfoldable pub filling : List ℕ → Pouring → ℕ → ℕ → List ℕ
filling s p k v = cond (ltb (p.count + k) 64) s (put_field s (8 * p.to) 64 (joined p v))

-- the bytes s with the bits that are held in them
unfoldable pub poured : List ℕ → Pouring → List ℕ
poured s p = put_field s (8 * p.to) p.count p.held
