-- Data cut into frames by the program: whole frames alone, or a last frame that is filled with zero bits. Assumes nothing.
use Rattle.std.specs.Prelude.{◌≡◌, ℕ, ◌+◌, ◌-◌, ◌≤◌, ◌<◌, Bool, true, false}
use Rattle.streams.specs.declared.Cut.{Cut}

-- so many bits cut into frames, of which the first n have f n bits; bits are left behind them, or zero bits stand at their end
pub record CutInto (f : ℕ → ℕ) (bits : ℕ) (exact : Bool) (x : Cut) : Type 0 where
  pub many : x.frames ≤ 1024
  pub all : f x.frames + x.left ≡ bits + x.padding
  pub less : exact ≡ true → bits < f (x.frames + 1)
  pub few : 0 < x.padding → f (x.frames - 1) < bits
  pub whole : exact ≡ true → x.padding ≡ 0
  pub none : exact ≡ false → x.left ≡ 0
  pub left-most : x.left ≤ bits
  pub left-few : x.left < 48
  pub padding_few : x.padding < 48
