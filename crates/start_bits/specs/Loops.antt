-- What the loops have done after so many turns. Assumes nothing.
use Rattle.std.specs.Prelude.{◌≡◌, ℕ, ◌^◌, ◌≤◌, ◌<◌, Bool, List, ◌++◌, map, length, get_or, drop}
use Rattle.standard.specs.Lists.{list_from, last_or}
use Rattle.standard.specs.Scrambler.{push_all}
use Rattle.standard.specs.Signs.{sign_bits}
use Rattle.standard.specs.Octets.{sign_of}
use Rattle.standard.specs.Start.{with_line, octets_for, left_by, found_history, found_sign}
use Rattle.standard.specs.declared.Law.{Law}
use Rattle.standard.specs.declared.LineState.{LineState}

-- n bits are sent from st on into the buffer d, and the history is h and the last sign g
pub record Sending (l : Law) (st : LineState) (bits : List Bool) (d octets : List ℕ) (h : ℕ) (g : Bool) (n : ℕ) : Type 0 where
  pub few : n ≤ length bits
  pub small : h < 2 ^ 23
  pub long : length octets ≡ length d
  pub left : left_by st bits ≡ left_by (with_line st h g) (drop n bits)
  pub rest : drop n (octets_for l st bits) ≡ octets_for l (with_line st h g) (drop n bits)
  pub done : octets ≡ list_from (λ k. get_or (octets_for l st bits) k 0) 0 n ++ drop n d

-- k of the octets are looked at, and the history is h and the last sign g
pub record Finding (os : List ℕ) (h : ℕ) (g : Bool) (k : ℕ) : Type 0 where
  pub few : k ≤ length os
  pub small : h < 2 ^ 23
  pub history : found_history os ≡ push_all h (sign_bits g (drop k (map sign_of os)))
  pub sign : found_sign os ≡ last_or g (drop k (map sign_of os))
