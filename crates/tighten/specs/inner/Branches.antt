-- Branches, and lists that can be tightened. The contracts of private functions alone cite this.
use Rattle.std.specs.Prelude.{ℕ, ◌≤◌, Bool, List, length}
use Rattle.laws.specs.Search.{any}
use Rattle.laws.specs.Tables.{entry}
use Rattle.index.specs.Postings.{carries}
use Rattle.index.specs.Index.{Index, count, list}
use Rattle.index.specs.inner.Lists.{SoundList}
use Rattle.index.specs.inner.Outlined.{Outlined}
use Rattle.tighten.specs.Tight.{tight}

-- whether a posting of the list carries to device d
abbrev pub carried : List ℕ → List ℕ → ℕ → Bool
carried last l d = any (length l) (λ k. carries last (entry l k) d)

-- the tight list of the k-th
abbrev pub tight_of : List ℕ → Index → ℕ → List ℕ
tight_of last I k = tight last (carried last (list I k))

-- an index of which no row says anything
pub record SoundLists (last : List ℕ) (I : Index) : Type 0 where
  pub outline : Outlined I
  pub each : (k : ℕ) → 1 ≤ k → k ≤ count I → SoundList last (list I k)
