-- Numbers of a table's entries. The contracts of private functions, of `Branches::end_of` and of `index::reach_of` alone cite this.
use Rattle.std.specs.Prelude.{ℕ, ◌≤◌, List, length}

-- d is the number of an entry
pub record IsEntry (t : List ℕ) (d : ℕ) : Type 0 where
  pub first : 1 ≤ d
  pub last : d ≤ length t
