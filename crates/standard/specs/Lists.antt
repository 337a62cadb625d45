-- Counting and lists: what the papers take for granted. Assumes nothing.
use Rattle.std.specs.Prelude.{ℕ, zero, suc, ◌+◌, ◌-◌, max, Bool, false, cond, ◌||◌, List, [], ◌∷◌, ◌++◌, length, take, drop}

-- f i, f (i + 1) and so on, n of them
unfoldable pub list_from : {X : Type 0} → (ℕ → X) → ℕ → ℕ → List X
list_from f i zero = []
list_from f i (suc n) = f i ∷ list_from f (suc i) n

-- f holds at one of the n numbers from i on
unfoldable pub any : (ℕ → Bool) → ℕ → ℕ → Bool
any f i zero = false
any f i (suc n) = any f i n || f (i + n)

-- the largest of f 0 to f (n - 1)
unfoldable pub largest : (ℕ → ℕ) → ℕ → ℕ
largest f zero = 0
largest f (suc n) = max (largest f n) (f n)

-- the lowest of the n numbers from i on where f holds; i + n where it holds at none of them
unfoldable pub lowest_from : (ℕ → Bool) → ℕ → ℕ → ℕ
lowest_from f i zero = i
lowest_from f i (suc n) = cond (f i) i (lowest_from f (suc i) n)

-- those of the n numbers from i on where f holds, the lowest first
unfoldable pub list_where : (ℕ → Bool) → ℕ → ℕ → List ℕ
list_where f i zero = []
list_where f i (suc n) = cond (f i) (i ∷ []) [] ++ list_where f (suc i) n

-- the first n parts of a list, k elements each
unfoldable pub parts : {X : Type 0} → ℕ → ℕ → List X → List (List X)
parts k zero xs = []
parts k (suc n) xs = take k xs ∷ parts k n (drop k xs)

-- the last of a list; x where there is none
unfoldable pub last_or : {X : Type 0} → X → List X → X
last_or x [] = x
last_or x (y ∷ ys) = last_or y ys

-- the last n of a list
unfoldable pub last_of : {X : Type 0} → ℕ → List X → List X
last_of n xs = drop (length xs - n) xs

-- lists end to end
unfoldable pub joined : {X : Type 0} → List (List X) → List X
joined [] = []
joined (x ∷ xs) = x ++ joined xs

-- a run over a list of frames, each met in the state that the frame before it left: what each frame gives
module _ {S F Y : Type 0} (out : S → F → Y) (next : S → F → S) where
  unfoldable pub each : S → List F → List Y
  each st [] = []
  each st (f ∷ fs) = out st f ∷ each (next st f) fs

-- and the state after them all
module _ {S F : Type 0} (next : S → F → S) where
  unfoldable pub after : S → List F → S
  after st [] = st
  after st (f ∷ fs) = after (next st f) fs
