-- Lists put together from parts that are numbered from 1.
use Rattle.std.specs.Prelude.{ℕ, zero, suc, Bool, cond, List, [], ◌∷◌, ◌++◌}
use Rattle.laws.specs.Tables.{entry}

-- parts 1 to n, one after another
unfoldable pub joined : (ℕ → List ℕ) → ℕ → List ℕ
joined part zero = []
joined part (suc n) = joined part n ++ part (suc n)

-- a table of n entries, by their numbers
abbrev pub tabled : (ℕ → ℕ) → ℕ → List ℕ
tabled value = joined (λ k. value k ∷ [])

-- the values of those of the numbers 1 to n that pass a test, in order
abbrev pub chosen : (ℕ → Bool) → (ℕ → ℕ) → ℕ → List ℕ
chosen test value = joined (λ k. cond (test k) (value k ∷ []) [])

-- of the first n entries of a list those whose number passes a test, in order
abbrev pub picked : (ℕ → Bool) → List ℕ → ℕ → List ℕ
picked test l = chosen test (entry l)
