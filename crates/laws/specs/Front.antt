-- What stands at the front of a list, before the first entry of a kind.
use Rattle.std.specs.Prelude.{ℕ, suc, Bool, true, false, List, [], ◌∷◌}

-- how many entries at the front fail a test: the index of the first that passes it, or the length where none does
unfoldable pub until : (ℕ → Bool) → List ℕ → ℕ
until test [] = 0
until test (x ∷ xs) = elim (test x) [ true ↦ 0 | false ↦ suc (until test xs) ]
