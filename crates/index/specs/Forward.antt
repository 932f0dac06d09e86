-- The forward step on a list of postings.
use Rattle.std.specs.Prelude.{ℕ, ◌+◌, ◌-◌, ◌≤◌, ◌<◌, min, ◌≡◌, List, leb, length, get_or, drop}
use Rattle.laws.specs.Front.{until}
use Rattle.index.specs.Postings.{device}
use Rattle.index.specs.Around.{Around}
use Rattle.index.specs.declared.forward.Step.{Step}

-- how many postings at the front stand before device d
abbrev pub before : ℕ → List ℕ → ℕ
before d = until (λ q. leb d (device q))

-- "From its place on it finds the first posting whose device is at least a given number, over any list, sorted or not. Its answer is that
-- index, or the list's length .. A place past the end counts as the end."
abbrev pub forward : List ℕ → ℕ → ℕ → ℕ
forward l position d = min position (length l) + before d (drop position l)

-- "A walker's find that stays on its place passes none; one that goes from index i to j passes j - i - 1": a difference is never below 0, so none
-- too where i lies past the end and j is the end
abbrev pub passed : ℕ → ℕ → ℕ
passed i j = j - i - 1

-- a step from index i that lands on j
abbrev pub landing : ℕ → ℕ → Step
landing i j = record { at = j; passed = passed i j }

-- the forward step: where it lands, and how many postings it passed over without landing
abbrev pub step : List ℕ → ℕ → ℕ → Step
step l position d = landing position (forward l position d)

-- the devices from index f on do not fall
abbrev pub Sorted : List ℕ → ℕ → Type 0
Sorted l f = (j k : ℕ) → f ≤ j → j ≤ k → k < length l → device (get_or l j 0) ≤ device (get_or l k 0)

-- r is the forward step to device d where the list is sorted from the position on. For another list it may land elsewhere, but still at the
-- position or after a posting before d, and at the length or on a posting that is not before d; what it passed is counted from where it lands.
pub record Sought (l : List ℕ) (position d : ℕ) (r : Step) : Type 0 where
  pub sorted : Sorted l position → r ≡ step l position d
  pub any : Around device l (min position (length l)) (length l) d r.at r.at
  pub counted : r ≡ landing position r.at
