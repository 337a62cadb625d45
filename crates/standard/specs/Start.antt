-- Document 02, A.3: a CP and E_s as octets, the line state that they leave, and how the far end finds it. V.91 7.2, 7.5 and 7.11. Assumes
-- nothing.
use Rattle.std.specs.Prelude.{ℕ, Bool, false, List, [], ◌∷◌, ◌++◌, map, replicate}
use Rattle.standard.specs.Lists.{list_from, last_or, last_of}
use Rattle.standard.specs.Record.{top_index}
use Rattle.standard.specs.Cp.{cp_length, cp_bit}
use Rattle.standard.specs.Scrambler.{push_all, scramble}
use Rattle.standard.specs.Signs.{signs_of, sign_bits}
use Rattle.standard.specs.Octets.{octet, sign_of}
use Rattle.standard.specs.declared.Law.{Law}
use Rattle.standard.specs.declared.LineState.{LineState}
use Rattle.standard.specs.declared.Record.{Record}

-- a line state with another history and another last sign: 'history and sign alone changed'
abbrev pub with_line : LineState → ℕ → Bool → LineState
with_line st h g =
    record {
      history = h;
      sign = g;
      doubtful = st.doubtful;
      place = st.place;
      done = st.done;
      sequence = st.sequence;
      lost = st.lost;
    }

-- ---- the bits

-- 'E_s being twelve zero bits'
abbrev pub end_of_cp : List Bool
end_of_cp = replicate 12 false

-- 'sends a CP and E_s'; V.91 7.2: 'Bit 0 is transmitted first.'
unfoldable pub cp_and_end : Record → List Bool
cp_and_end r = list_from (cp_bit r) 0 (cp_length (top_index r)) ++ end_of_cp

-- ---- on the line, from a line state on: V.91 7.2 and 7.5 reset nothing on the way

-- 'scrambled, differentially coded'
unfoldable pub signs_for : LineState → List Bool → List Bool
signs_for st bits = signs_of st.sign (scramble st.history bits)

-- 'one .. bit per octet as the sign of Ucode 66'
unfoldable pub octets_for : Law → LineState → List Bool → List ℕ
octets_for l st bits = map (λ s. octet l s 66) (signs_for st bits)

-- 'the state left'
unfoldable pub left_by : LineState → List Bool → LineState
left_by st bits = with_line st (push_all st.history (scramble st.history bits)) (last_or st.sign (signs_for st bits))

-- ---- the far end: 'The history and sign left follow from the last 24 octets alone, so the far end can find them.'

-- the bits between signs, each its sign XOR the sign before it: one bit fewer than there are signs
unfoldable pub bits_between : List Bool → List Bool
bits_between [] = []
bits_between (t ∷ ts) = sign_bits t ts

-- of 24 octets: the history is that of the 23 bits between their signs, and the last sign is theirs
unfoldable pub found_history : List ℕ → ℕ
found_history os = push_all 0 (bits_between (map sign_of os))

unfoldable pub found_sign : List ℕ → Bool
found_sign os = last_or false (map sign_of os)

-- how many octets it takes
abbrev pub found_from : ℕ
found_from = 24

-- the state found, of the last 24 of the octets
unfoldable pub found_in : LineState → List ℕ → LineState
found_in st os = let ends = last_of found_from os in with_line st (found_history ends) (found_sign ends)
