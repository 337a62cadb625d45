-- Document 02, A.12, 'Default learning sequence': what Table 5 comes to, and an example of V.90 8.4.1's rule with other parameters. Assumes
-- nothing.
use Rattle.std.specs.Prelude.{◌≡◌, ℕ, ◌+◌, ◌*◌, ◌<◌, [], ◌∷◌, leb, length, get_or}
use Rattle.standard.specs.Octets.{octet}
use Rattle.standard.specs.Dil.{DilParameters, dil, training_symbols, generated_symbol, default_dil}
use Rattle.standard.specs.declared.Law.{Law}
use Rattle.standard.specs.declared.Law.TheVariants.{Mu}

-- two DIL-segments of Uchords 1 and 2, the second twice as long, with patterns of five signs (the first two positive) and of four symbols
-- (the second a reference symbol)
abbrev pub two_segments : DilParameters
two_segments =
    record { N = 2; LSP = 5; LTP = 4; SP = 0x03; TP = 0x0d; H = 0 ∷ 1 ∷ []; REF = 3 ∷ 20 ∷ []; training = 5 ∷ 17 ∷ [] }

pub record DilTold : Type 0 where
  -- 'the whole sequence': 125 DIL-segments of twelve symbols
  pub octets : (l : Law) → length (default_dil l) ≡ 1500
  -- each has six negative and then six positive octets of its training symbol, and none of a reference symbol
  pub symbols : (l : Law) (n k : ℕ) → n < 125 → k < 12 → get_or (default_dil l) (n * 12 + k) 0 ≡ octet l (leb 6 k) (get_or training_symbols n 0)
  -- 'a small generator whose output is that table'
  pub generator : (n : ℕ) → n < 125 → generated_symbol n ≡ get_or training_symbols n 0
  -- patterns repeat within a DIL-segment and restart with each; lengths and reference symbols go by Uchord
  pub example : dil two_segments Mu
      ≡ 0xfa ∷ 0xfc ∷ 0x7a ∷ 0x7a ∷ 0x7a ∷ 0xfc ∷ 0xee ∷ 0xeb ∷ 0x6e ∷ 0x6e ∷ 0x6e ∷ 0xeb ∷ 0xee ∷ 0x6e ∷ 0x6e ∷ 0x6b ∷ 0xee ∷ 0xee ∷ []
