-- What the first and the last of some terms tell of all, where they rise. The contracts of private functions alone cite this.
use Rattle.std.specs.Prelude.{ℕ, ◌≡◌, Bool, false, ◌||◌, List, length}
use Rattle.laws.specs.Limits.{highest_term}
use Rattle.laws.specs.Rows.{pick}
use Rattle.laws.specs.Search.{any}
use Rattle.index.specs.Postings.{misplaced}
use Rattle.two_indexes.specs.Indexes.{any_second, any_first}

-- terms in range that rise
pub record Rise (terms : List ℕ) : Type 0 where
  pub placed : any (length terms) (misplaced highest_term (λ t. t) terms) ≡ false

-- r tells whether some of the terms is one of the second index; of the first
pub record AnySecond (terms : List ℕ) (r : Bool) : Type 0 where
  pub told : Rise terms → r ≡ any_second terms

pub record AnyFirst (terms : List ℕ) (r : Bool) : Type 0 where
  pub told : Rise terms → r ≡ any_first terms

-- r is the row 15 of both
pub record Misfiled (first second : List ℕ) (r : ℕ) : Type 0 where
  pub told : Rise first → Rise second → r ≡ pick (any_second first || any_first second) 15 0
