-- A search by halves in a part of a list, whose entries are compared by a key.
use Rattle.std.specs.Prelude.{ℕ, ◌-◌, ◌≤◌, ◌<◌, List, get_or}

-- between low and high, in f..e, the list goes from entries whose key is below d to entries whose key is not: low is f or follows one
-- below d, high is e or one that is not
pub record Around (key : ℕ → ℕ) (l : List ℕ) (f e d low high : ℕ) : Type 0 where
  pub from : f ≤ low
  pub ordered : low ≤ high
  pub to : high ≤ e
  pub before : f < low → key (get_or l (low - 1) 0) < d
  pub after : high < e → d ≤ key (get_or l high 0)
