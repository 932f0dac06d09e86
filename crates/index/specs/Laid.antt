-- An index made of terms and their lists.
use Rattle.std.specs.Prelude.{ℕ, ◌-◌, List, length}
use Rattle.laws.specs.Joined.{joined, tabled}
use Rattle.index.specs.Index.{Index, index}

-- the lists stand one after another, and each starts where those before it end
abbrev pub laid : List ℕ → (ℕ → List ℕ) → Index
laid terms lists = index terms (tabled (λ k. length (joined lists (k - 1))) (length terms)) (joined lists (length terms))
