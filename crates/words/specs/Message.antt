-- What the program says: a template, in which some characters stand for numbers and for a name. Assumes nothing.
use Rattle.std.specs.Prelude.{ℕ, zero, suc, ◌+◌, ◌-◌, ◌/◌, ◌%◌, ◌≡◌, cond, ◌||◌, List, [], ◌∷◌, ◌++◌, map, eqb, ltb, length, get_or, set}
use Rattle.standard.specs.Bits.{weight}

-- the decimal digits of a number below 10 ^ k, the most significant first and no zero before them; '0' is 48
unfoldable pub decimal_in : ℕ → ℕ → List ℕ
decimal_in zero n = []
decimal_in (suc k) n = cond (ltb n 10) ((48 + n) ∷ []) (decimal_in k (n / 10) ++ ((48 + n % 10) ∷ []))

-- of a number of 64 bits
abbrev pub decimal : ℕ → List ℕ
decimal n = decimal_in 20 n

-- a character of a name; '?' for a control character
unfoldable pub shown : ℕ → ℕ
shown c = cond (ltb c 32 || eqb c 127) 63 c

-- what a character c of a template stands for, when k numbers are given before it: '#' the next number, '~' an s unless the number before
-- is 1, '@' the name, and any other itself
unfoldable pub piece : List ℕ → List ℕ → ℕ → ℕ → List ℕ
piece values name k c =
    cond (eqb c 35) (decimal (get_or values k 0))
    (cond (eqb c 126) (cond (eqb (get_or values (k - 1) 0) 1) [] (115 ∷ [])) (cond (eqb c 64) (map shown name) (c ∷ [])))

-- what a template says, when k numbers are given before it
unfoldable pub message_from : List ℕ → List ℕ → ℕ → List ℕ → List ℕ
message_from values name k [] = []
message_from values name k (c ∷ cs) = piece values name k c ++ message_from values name (k + weight (eqb c 35)) cs

abbrev pub message : List ℕ → List ℕ → List ℕ → List ℕ
message template values name = message_from values name 0 template

-- a text with characters put into it from place `at` on, as far as there is room
unfoldable pub added : List ℕ → ℕ → List ℕ → List ℕ
added text at [] = text
added text at (c ∷ cs) = cond (ltb at (length text)) (added (set text at c) (suc at) cs) text

-- the place after them, in a text of n characters
unfoldable pub place_after : ℕ → ℕ → List ℕ → ℕ
place_after n at [] = at
place_after n at (c ∷ cs) = cond (ltb at n) (place_after n (suc at) cs) at

-- text t, and the place `end` in it, come of adding characters xs to text s from place `at` on
pub record Added (s : List ℕ) (at : ℕ) (xs t : List ℕ) (end : ℕ) : Type 0 where
  pub place : end ≡ place_after (length s) at xs
  pub text : t ≡ added s at xs
