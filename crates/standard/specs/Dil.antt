-- Document 02, A.12: V.91 7.3 with Table 5, and V.90 8.4.1: the digital impairment learning sequence (DIL) and the default one. Assumes
-- nothing.
use Rattle.std.specs.Prelude.{ℕ, ◌+◌, ◌*◌, ◌-◌, ◌/◌, ◌%◌, Bool, cond, List, [], ◌∷◌, get_or, replicate}
use Rattle.standard.specs.Lists.{list_from, joined}
use Rattle.standard.specs.Bits.{odd, bit}
use Rattle.standard.specs.Octets.{octet}
use Rattle.standard.specs.declared.Law.{Law}

-- the parameters of a DIL, in the order of Table 5: N segments, the lengths of the patterns SP and TP, the patterns, H and REF for each
-- Uchord, and the training symbols
pub record DilParameters : Type 0 where
  pub N : ℕ
  pub LSP : ℕ
  pub LTP : ℕ
  pub SP : ℕ
  pub TP : ℕ
  pub H : List ℕ
  pub REF : List ℕ
  pub training : List ℕ

-- ---- V.90 8.4.1

-- the element for a Ucode's Uchord; V.90 3.5: 'Uchord 1 contains Ucodes 0 to 15; Uchord 2 contains Ucodes 16 to 31; ...'
abbrev for_uchord : List ℕ → ℕ → ℕ
for_uchord xs u = get_or xs (u / 16) 0

module _ (p : DilParameters) where
  -- 'L_c = (H_c + 1) * 6 symbols', c being the Uchord of the training symbol u
  unfoldable pub segment_length : ℕ → ℕ
  segment_length u = (for_uchord p.H u + 1) * 6

  -- 'An SP bit determines the sign of a transmitted symbol. 0 shall represent negative and 1 shall represent positive.' 'The LSB of each
  -- pattern applies to the first symbol of a DIL-segment.' 'The patterns are repeated independently within DIL-segments whose lengths exceed
  -- that of L_SP or L_TP.'
  unfoldable pub symbol_sign : ℕ → Bool
  symbol_sign k = bit p.SP (k % p.LSP)

  -- 'A TP bit determines whether the reference symbol (REF_c) or a training symbol is transmitted. 0 shall represent REF_c and 1 shall
  -- represent a training symbol.'
  unfoldable pub symbol_ucode : ℕ → ℕ → ℕ
  symbol_ucode u k = cond (bit p.TP (k % p.LTP)) u (for_uchord p.REF u)

  -- the DIL-segment of training symbol u; 'The patterns are restarted at the beginning of each DIL-segment.'
  unfoldable pub segment : Law → ℕ → List ℕ
  segment l u = list_from (λ k. octet l (symbol_sign k) (symbol_ucode u k)) 0 (segment_length u)

  -- 'The DIL consists of N DIL-segments'; 'The first of the N Ucodes specifies the training symbol assigned to the first DIL-segment and so
  -- on.' V.91 7.3: 'Only one instance of the DIL is transmitted.'
  unfoldable pub dil : Law → List ℕ
  dil l = joined (list_from (λ n. segment l (get_or p.training n 0)) 0 p.N)

-- ---- V.91 Table 5

-- 'Training symbols', row by row as printed; 'The training symbol for the first DIL-segment is represented by Ucode 124, the training symbol
-- for the 2nd DIL-segment is represented by Ucode 0, etc.'
unfoldable pub training_symbols : List ℕ
training_symbols =
    124 ∷ 0 ∷ 123 ∷ 1 ∷ 122 ∷ 2 ∷ 121 ∷ 3 ∷ 120 ∷ 4 ∷ 119 ∷ 5 ∷ 118 ∷ 6 ∷ 117 ∷ 7 ∷
    116 ∷ 8 ∷ 115 ∷ 9 ∷ 114 ∷ 10 ∷ 113 ∷ 11 ∷ 112 ∷ 12 ∷ 111 ∷ 13 ∷ 110 ∷ 14 ∷ 109 ∷ 15 ∷
    108 ∷ 16 ∷ 107 ∷ 17 ∷ 106 ∷ 18 ∷ 105 ∷ 19 ∷ 104 ∷ 20 ∷ 103 ∷ 21 ∷ 102 ∷ 22 ∷ 101 ∷ 23 ∷
    100 ∷ 24 ∷ 99 ∷ 25 ∷ 98 ∷ 26 ∷ 97 ∷ 27 ∷ 96 ∷ 28 ∷ 95 ∷ 29 ∷ 94 ∷ 30 ∷ 93 ∷ 31 ∷
    92 ∷ 32 ∷ 91 ∷ 33 ∷ 90 ∷ 34 ∷ 89 ∷ 35 ∷ 88 ∷ 36 ∷ 87 ∷ 37 ∷ 86 ∷ 38 ∷ 85 ∷ 39 ∷
    84 ∷ 40 ∷ 83 ∷ 41 ∷ 82 ∷ 42 ∷ 81 ∷ 43 ∷ 80 ∷ 44 ∷ 79 ∷ 45 ∷ 78 ∷ 46 ∷ 77 ∷ 47 ∷
    76 ∷ 48 ∷ 75 ∷ 49 ∷ 74 ∷ 50 ∷ 73 ∷ 51 ∷ 72 ∷ 52 ∷ 71 ∷ 53 ∷ 70 ∷ 54 ∷ 69 ∷ 55 ∷
    68 ∷ 56 ∷ 67 ∷ 57 ∷ 66 ∷ 58 ∷ 65 ∷ 59 ∷ 64 ∷ 60 ∷ 63 ∷ 61 ∷ 62 ∷ []

-- 'Default DIL parameters', row by row: H_1 to H_8 are 1, and REF_1 to REF_8 are 0
unfoldable pub table5 : DilParameters
table5 =
    record {
      N = 125;
      LSP = 12;
      LTP = 12;
      SP = 0x0fc0;
      TP = 0x0fff;
      H = replicate 8 1;
      REF = replicate 8 0;
      training = training_symbols;
    }

-- 'the DIL sent to that modem shall have the parameters given in Table 5'
unfoldable pub default_dil : Law → List ℕ
default_dil = dil table5

-- A.12: 'place 2k holds 124 − k and place 2k + 1 holds k'
unfoldable pub generated_symbol : ℕ → ℕ
generated_symbol n = cond (odd n) (n / 2) (124 - n / 2)
