-- Lists that are made anew in the room of old ones. The contracts of private functions alone cite this.
use Rattle.std.specs.Prelude.{ℕ, ◌+◌, ◌-◌, ◌≡◌, List, ◌++◌, length, take, drop}
use Rattle.laws.specs.Joined.{joined, tabled}
use Rattle.index.specs.Index.{Index}

-- list l stands at `to`, up to `place`; what stood before that, and what stood from `end` on, is kept
pub record ListPut (old : List ℕ) (end to : ℕ) (l new : List ℕ) (place : ℕ) : Type 0 where
  pub size : length new ≡ length old
  pub place_is : place ≡ to + length l
  pub front : take place new ≡ take to old ++ l
  pub rest : drop end new ≡ drop end old

-- of an index the first k lists are made anew: they stand one after another at the front of the postings, up to `place`, and the first k starts
-- say where; the other starts are kept
pub record ListsLaid (I : Index) (lists : ℕ → List ℕ) (k : ℕ) (starts postings : List ℕ) (place : ℕ) : Type 0 where
  pub place_is : place ≡ length (joined lists k)
  pub starts_size : length starts ≡ length I.starts
  pub starts_front : take k starts ≡ tabled (λ i. length (joined lists (i - 1))) k
  pub starts_rest : drop k starts ≡ drop k I.starts
  pub size : length postings ≡ length I.postings
  pub front : take place postings ≡ joined lists k
