-- The branches of device tables that are accepted. The type `Branches` and the contracts of private functions alone cite this.
use Rattle.std.specs.Prelude.{ℕ, ◌≤◌, List, length}
use Rattle.laws.specs.Limits.{most_devices}
use Rattle.laws.specs.Tables.{entry}

-- the branches of a plant: each holds its device, ends in the plant, and holds the branches of its devices
pub record Forest (last : List ℕ) : Type 0 where
  pub few : length last ≤ most_devices
  pub own : (d : ℕ) → 1 ≤ d → d ≤ length last → d ≤ entry last d
  pub inner : (d : ℕ) → 1 ≤ d → d ≤ length last → entry last d ≤ length last
  pub nested : (d e : ℕ) → 1 ≤ d → d ≤ length last → d ≤ e → e ≤ entry last d → entry last e ≤ entry last d
