-- Parts of a list. The contracts of private functions alone cite this.
use Rattle.std.specs.Prelude.{ℕ, ◌≤◌, List, length}

-- indexes f up to e are a part of the list
pub record Part (l : List ℕ) (f e : ℕ) : Type 0 where
  pub ordered : f ≤ e
  pub within : e ≤ length l
