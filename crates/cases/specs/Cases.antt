-- What the calls of the vectors have in common: a law by its number, a buffer before a call, and a refusal in a reply. Assumes nothing.
use Rattle.std.specs.Prelude.{ℕ, ◌+◌, ◌*◌, ◌/◌, ◌%◌, ◌^◌, cond, List, [], ◌∷◌, eqb, set}
use Rattle.standard.specs.First.{Answer}
use Rattle.standard.specs.declared.Law.{Law}
use Rattle.standard.specs.declared.Law.TheVariants.{Mu, A}
use Rattle.codes.specs.Coded.{coded}

-- 0 is µ-law
abbrev pub law_of : ℕ → Law
law_of n = cond (eqb n 0) Mu A

-- 'mu' or 'a'
abbrev pub name_of : Law → List ℕ
name_of Mu = 109 ∷ 117 ∷ []
name_of A = 97 ∷ []

-- byte i of a buffer before a call
unfoldable pub filling : ℕ → ℕ → ℕ → ℕ
filling first step i = (first + step * i) % 256

-- a refusal's number and its value in the first two bytes of a reply
abbrev pub with_refusal : Answer → List ℕ → List ℕ
with_refusal a reply = set (set reply 0 (coded a % 256)) 1 (coded a / 2 ^ 24)
