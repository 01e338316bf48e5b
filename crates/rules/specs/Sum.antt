-- Finite sums, counts and first places: the words in which the rules count.
-- Assumes nothing.
use Rattle.std.specs.Prelude.{ℕ, zero, suc, ◌+◌, Bool, true, false, cond, List, [], ◌∷◌, eqb, ltb}

-- f 0 + f 1 + .. + f (n - 1)
unfoldable pub sum_to : ℕ → (ℕ → ℕ) → ℕ
sum_to zero f = 0
sum_to (suc n) f = sum_to n f + f n

-- f with v at the place k
abbrev pub put : ℕ → ℕ → (ℕ → ℕ) → ℕ → ℕ
put k v f i = cond (eqb i k) v (f i)

-- 1 for a number above 0, else 0
abbrev pub positive : ℕ → ℕ
positive zero = 0
positive (suc n) = 1

-- the first place of a list where the test passes; the list's length where it passes nowhere
unfoldable pub first_at : (ℕ → Bool) → List ℕ → ℕ
first_at p [] = 0
first_at p (a ∷ l) = elim (p a) [ true ↦ 0 | false ↦ suc (first_at p l) ]

-- the lowest number below n where f is not 0; n where there is none
unfoldable pub lowest : ℕ → (ℕ → ℕ) → ℕ
lowest zero f = 0
lowest (suc n) f = elim (ltb (lowest n f) n) [ true ↦ lowest n f | false ↦ elim (f n) [ zero ↦ suc n | suc v ↦ n ] ]
