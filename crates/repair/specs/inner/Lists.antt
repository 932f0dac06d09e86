-- Lists that a repair can go through. The contracts of private functions alone cite this.
use Rattle.std.specs.Prelude.{ℕ, ◌≤◌, max, ◌≡◌, Bool, false, ◌||◌, List, [], ◌∷◌, length}
use Rattle.laws.specs.Search.{any}
use Rattle.laws.specs.Tables.{entry}
use Rattle.laws.specs.inner.Entries.{IsEntry}
use Rattle.index.specs.Postings.{device, reach, outside}
use Rattle.index.specs.Index.{Index, count, list}
use Rattle.index.specs.inner.Outlined.{Outlined}
use Rattle.repair.specs.Refusals.{falls}

-- posting k is out of range, or its device falls; in the k-th list
abbrev pub astray : ℕ → List ℕ → ℕ → Bool
astray n l k = outside n device l k || falls l k

abbrev pub astray_in : List ℕ → Index → ℕ → Bool
astray_in last I k = any (length (list I k)) (astray (length last) (list I k))

-- none is: the devices are among 1 to n and do not fall
pub record Fit (n : ℕ) (l : List ℕ) : Type 0 where
  pub first : (k : ℕ) → 1 ≤ k → k ≤ length l → 1 ≤ device (entry l k)
  pub last : (k : ℕ) → 1 ≤ k → k ≤ length l → device (entry l k) ≤ n
  pub sorted : (i k : ℕ) → 1 ≤ i → i ≤ k → k ≤ length l → device (entry l i) ≤ device (entry l k)

-- each branch holds its device, as in device tables that are accepted
pub record Held (last : List ℕ) : Type 0 where
  pub held : (d : ℕ) → IsEntry last d → d ≤ entry last d

-- an index of which no row before 44 says anything
pub record Repairable (last : List ℕ) (I : Index) : Type 0 where
  pub outline : Outlined I
  pub ordered : any (count I) (astray_in last I) ≡ false

-- the last device that any posting of a list carries to, 0 for none
unfoldable pub furthest : List ℕ → List ℕ → ℕ
furthest last [] = 0
furthest last (q ∷ qs) = max (reach last q) (furthest last qs)
