-- The lookup of a term in two indexes.
use Rattle.std.specs.Prelude.{ℕ, ◌≡◌, List}
use Rattle.std.proofs.Math.Seq.{slice}
use Rattle.index.specs.Lookup as one
use Rattle.two_indexes.specs.Indexes.{Indexes, home}

-- r is what the lookup of t in its own index gives: the list of t where the terms of that index are sound and rise, and for other terms empty or
-- the list of an entry which is t. "a part of one store or of the other, or an empty part of the second": the last where it has no number.
pub record Looked (S : Indexes) (t : ℕ) (r : List ℕ) : Type 0 where
  pub at_home : one.Looked (home S t) t r
  pub absent : at_home.number ≡ 0 → r ≡ slice 0 0 S.second.postings
