-- A stretch of devices, as those who go over it need it. The contracts of private functions alone cite this.
use Rattle.std.specs.Prelude.{ℕ, ◌-◌, ◌≤◌, ◌<◌, ◌≡◌, Bool, false, List, ltb, length, get_or}
use Rattle.laws.specs.Search.{tally}
use Rattle.plant.specs.Plant.{holds}
use Rattle.text.specs.declared.Form.{Form}
use Rattle.plant_text.specs.PlantText.{most_open}
use Rattle.written_text.specs.Forms.{forest}
use Rattle.written_text.specs.Refusals.{tiers}

-- the branches of devices a + 1 to e lie in one another, and end at e or before it
pub record Nested (last : List ℕ) (a e : ℕ) : Type 0 where
  pub ordered : a ≤ e
  pub within : e ≤ length last
  pub own : (c : ℕ) → a ≤ c → c < e → c < get_or last c 0
  pub inside : (c : ℕ) → a ≤ c → c < e → get_or last c 0 ≤ e
  pub nested : (c d : ℕ) → a ≤ c → c < e → c ≤ d → d < get_or last c 0 → get_or last d 0 ≤ get_or last c 0

-- the forms of devices a + 1 to e
abbrev pub stretch : List ℕ → List ℕ → ℕ → ℕ → List Form
stretch last level a e = forest last level (e - a) a e

-- so many branches of the first a devices hold each of devices a + 1 to e
pub record Depth (last : List ℕ) (a e depth : ℕ) : Type 0 where
  pub known : (d : ℕ) → a < d → d ≤ e → tally a (λ c. holds last c d) ≡ depth

abbrev pub deep : List ℕ → ℕ → Bool
deep last d = ltb most_open (tiers last d)

-- devices a + 1 to e lie in so many branches, 32 at most, and none of them has more than 32 tiers
pub record Tiered (last : List ℕ) (a e depth : ℕ) : Type 0 where
  pub known : Depth last a e depth
  pub few : depth ≤ most_open
  pub none : (d : ℕ) → a < d → d ≤ e → deep last d ≡ false
