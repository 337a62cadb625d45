-- A text in parts, each of which ends with a character of its own: the words of a command, the lines of a table. Assumes nothing.
use Rattle.std.specs.Prelude.{ℕ, zero, suc, ◌+◌, ◌*◌, ◌-◌, Bool, cond, ◌&&◌, List, [], ◌∷◌, map, eqb, ltb, leb, length, Option, Some, None}
use Rattle.std.specs.Borrow.{Bor}
use Rattle.std.specs.Char.{to_ascii_lowercase}
use Rattle.std.specs.List.{before_first, after_first, count_by, find, list_all, zip}
use Rattle.std.specs.Option.{option_map}

-- the characters before the first one that is e, and those after it
abbrev pub before : ℕ → List ℕ → List ℕ
before e text = before_first (λ c. eqb c e) text

abbrev pub past : ℕ → List ℕ → List ℕ
past e text = after_first (λ c. eqb c e) text

-- a text from part k on, the first of which is part 0
unfoldable pub parts_from : ℕ → ℕ → List ℕ → List ℕ
parts_from e zero text = text
parts_from e (suc k) text = parts_from e k (past e text)

-- part k of a text; nothing where the text has fewer
unfoldable pub part_at : ℕ → ℕ → List ℕ → List ℕ
part_at e k text = before e (parts_from e k text)

-- how many parts a text has
abbrev pub part_count : ℕ → List ℕ → ℕ
part_count e text = count_by (λ c. eqb c e) text

-- a capital letter made small
abbrev pub small : ℕ → ℕ
small c = to_ascii_lowercase c

-- two texts are the same
abbrev pub same : List ℕ → List ℕ → Bool
same text word = eqb (length text) (length word) && list_all (λ p. eqb p.0 p.1) (zip text word)

-- of the parts of a text from part k on, n of them, the number of the first that is the word, counted from 1; 0 where none is
unfoldable pub which_from : ℕ → List ℕ → List ℕ → ℕ → ℕ → ℕ
which_from e text word k zero = 0
which_from e text word k (suc n) = cond (same (part_at e k text) word) (suc k) (which_from e text word (suc k) n)

-- of all its parts, for a word in small letters or capitals
abbrev pub which : ℕ → List ℕ → List ℕ → ℕ
which e text word = which_from e text (map small word) 0 (part_count e text)

-- what a table of names, each with a value, has for a word in small letters or capitals: the value of the first row whose name is the word
abbrev pub named : {T : Type 0} → List (Bor (List ℕ) × T) → List ℕ → Option T
named table word = option_map (λ row. row.1) (find (λ row. same row.0.now (map small word)) table)

-- a digit: '0' is 48, and '9' is 57
abbrev pub is_digit : ℕ → Bool
is_digit c = leb 48 c && leb c 57

-- every character is a digit
abbrev pub all_digits : List ℕ → Bool
all_digits word = list_all is_digit word

-- the number that digits say behind the number n
unfoldable pub value_from : ℕ → List ℕ → ℕ
value_from n [] = n
value_from n (c ∷ cs) = value_from (10 * n + (c - 48)) cs

-- the number that a word of 1 to 18 digits says
unfoldable pub number_in : List ℕ → Option ℕ
number_in word = cond (ltb 0 (length word) && ltb (length word) 19 && all_digits word) (Some (value_from 0 word)) None
