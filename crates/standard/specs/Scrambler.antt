-- Document 01, 'From data to line', step 1: the scrambler of V.34, GPC, and its inverse. A history is a number. Assumes nothing.
use Rattle.std.specs.Prelude.{ℕ, ◌+◌, ◌*◌, ◌%◌, ◌^◌, Bool, List, [], ◌∷◌}
use Rattle.standard.specs.Bits.{◌⊕◌, weight, bit}

-- 'the scrambled bits 18 and 23 places earlier', by XOR
unfoldable pub taps : ℕ → Bool
taps h = bit h 17 ⊕ bit h 22

-- 'a history of 23 scrambled bits (weight 1 is the latest, weight 2^22 the oldest)', after one bit more
unfoldable pub push : ℕ → Bool → ℕ
push h s = (2 * h + weight s) % 2 ^ 23

-- after a list of bits
unfoldable pub push_all : ℕ → List Bool → ℕ
push_all h [] = h
push_all h (s ∷ ss) = push_all (push h s) ss

-- 'each scrambled bit is the data bit XOR the scrambled bits 18 and 23 places earlier'
unfoldable pub scramble : ℕ → List Bool → List Bool
scramble h [] = []
scramble h (d ∷ ds) = (d ⊕ taps h) ∷ scramble (push h (d ⊕ taps h)) ds

-- 'The receiver undoes the steps': its history takes the bits received
unfoldable pub descramble : ℕ → List Bool → List Bool
descramble h [] = []
descramble h (s ∷ ss) = (s ⊕ taps h) ∷ descramble (push h s) ss
