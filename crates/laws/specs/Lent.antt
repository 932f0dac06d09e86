-- What is left in a table that was lent, and what is given beside a refusal.
use Rattle.std.specs.Prelude.{ℕ, zero, suc, ◌-◌, List, ◌++◌, length, drop, replicate}

-- by the refusal: what was made, or the table as it was
abbrev pub kept_or : ℕ → List ℕ → List ℕ → List ℕ
kept_or zero made before = made
kept_or (suc n) made before = before

-- and of a number beside it: the value, or 0
abbrev pub value_or : ℕ → ℕ → ℕ
value_or zero value = value
value_or (suc n) value = 0

-- in a table of n entries, what was made and zeros behind it
abbrev pub filled : ℕ → List ℕ → List ℕ
filled n made = made ++ replicate (n - length made) 0

-- what was made, and behind it what the table held
abbrev pub over : List ℕ → List ℕ → List ℕ
over made before = made ++ drop (length made) before
