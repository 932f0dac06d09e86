-- Lists with a fault, as one pass finds it. The contracts of private functions alone cite this.
use Rattle.std.specs.Prelude.{Bool, ◌||◌, List, ℕ, length}
use Rattle.laws.specs.Search.{any}
use Rattle.index.specs.Index.{Index, list}
use Rattle.index.specs.Postings.{device, misplaced, redundant}

-- whether a list has a posting that is misplaced or redundant, over a plant's table of last devices
abbrev pub faulty : List ℕ → List ℕ → Bool
faulty last l = any (length l) (misplaced (length last) device l) || any (length l) (redundant last l)

-- the same of the k-th list of an index
abbrev pub faulty_in : List ℕ → Index → ℕ → Bool
faulty_in last I k = faulty last (list I k)
