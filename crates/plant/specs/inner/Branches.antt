-- Branches that rows 2 and 3 refuse. The contracts of private functions alone cite this.
use Rattle.std.specs.Prelude.{ℕ, Bool, ◌||◌, List}
use Rattle.plant.specs.Plant.{out_of_range, overlaps}

-- whether the branch of d is out of range or overlaps another
abbrev pub faulty : List ℕ → ℕ → Bool
faulty last d = out_of_range last d || overlaps last d
