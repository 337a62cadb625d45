-- A history in the order of time: its oldest bit has weight 1. Assumes nothing.
use Rattle.std.specs.Prelude.{ℕ, ◌-◌, Bool, ◌≡◌}
use Rattle.standard.specs.Bits.{bit, field, number_of, bits_of}
use Rattle.standard.specs.Scrambler.{push_all, scramble}

-- bit j of the history h in the order of time
abbrev pub in_time : ℕ → ℕ → Bool
in_time h j = bit h (22 - j)

-- the past of the history h, and the history of a past
unfoldable pub turned : ℕ → ℕ
turned h = field (in_time h) 0 23

-- n bits of d passed the scrambler after the past p: the number w came out, and the past q is left
pub record Scrambled (p d n w q : ℕ) : Type 0 where
  pub out : w ≡ number_of (scramble (turned p) (bits_of n d))
  pub left : q ≡ turned (push_all (turned p) (scramble (turned p) (bits_of n d)))
