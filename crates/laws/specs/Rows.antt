-- A refusal is the first row of a table that applies: `pick row₁ n₁ (pick row₂ n₂ (.. 0))`.
use Rattle.std.specs.Prelude.{ℕ, zero, suc, Bool, true, false}

-- the number of a row that applies, or what the rows after it come to
abbrev pub pick : Bool → ℕ → ℕ → ℕ
pick true n rest = n
pick false n rest = rest

-- a table after another: the refusal of the first, or, where that is 0, what the second comes to
abbrev pub otherwise : ℕ → ℕ → ℕ
otherwise zero rest = rest
otherwise (suc n) rest = suc n
