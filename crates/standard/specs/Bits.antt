-- Document 01, 'Bits, octets and the record': bits of numbers and of bytes. A bit string is a function of the bit's number, or a list, bit
-- 0 first. Assumes nothing.
use Rattle.std.specs.Prelude.{ℕ, zero, suc, ◌+◌, ◌*◌, ◌/◌, ◌%◌, ◌^◌, Bool, true, false, not, List, [], ◌∷◌, get_or}
use Rattle.standard.specs.Lists.{list_from}

infixl 32 ◌⊕◌
-- XOR of two bits
abbrev pub ◌⊕◌ : Bool → Bool → Bool
true ⊕ b = not b
false ⊕ b = b

-- a bit as the number 0 or 1
abbrev pub weight : Bool → ℕ
weight true = 1
weight false = 0

abbrev pub positive : ℕ → Bool
positive zero = false
positive (suc n) = true

-- the lowest bit of a number
abbrev pub odd : ℕ → Bool
odd n = positive (n % 2)

-- the bit of weight 2 ^ n in the number w
abbrev pub bit : ℕ → ℕ → Bool
bit w n = odd (w / 2 ^ n)

-- 'Bit n of a bit string is in byte n div 8, with weight 2 to the power n mod 8.'
unfoldable pub bit_at : List ℕ → ℕ → Bool
bit_at s n = bit (get_or s (n / 8) 0) (n % 8)

-- the first n bits of bytes; 'Bit 0 is first in time.'
unfoldable pub bits_in : ℕ → List ℕ → List Bool
bits_in n s = list_from (bit_at s) 0 n

-- the number in the k bits from bit p on; 'Fields have their lowest bit first.'
unfoldable pub field : (ℕ → Bool) → ℕ → ℕ → ℕ
field f p zero = 0
field f p (suc k) = weight (f p) + 2 * field f (suc p) k

-- the first n bytes of a bit string
unfoldable pub bytes_of : ℕ → (ℕ → Bool) → List ℕ
bytes_of n f = list_from (λ k. field f (8 * k) 8) 0 n

-- the bytes that n bits need: 'that number divided by 8, rounded up'
abbrev pub bytes_for : ℕ → ℕ
bytes_for n = (n + 7) / 8

-- a list of bits as a bit string: zeros follow its end
unfoldable pub nth : List Bool → ℕ → Bool
nth bs n = get_or bs n false

-- the number that a list of bits forms, lowest first
unfoldable pub number_of : List Bool → ℕ
number_of [] = 0
number_of (b ∷ bs) = weight b + 2 * number_of bs

-- the k lowest bits of a number, lowest first
unfoldable pub bits_of : ℕ → ℕ → List Bool
bits_of zero n = []
bits_of (suc k) n = odd n ∷ bits_of k (n / 2)
