-- What a search for a device with too many tiers tells. The contracts of private functions alone cite this.
use Rattle.std.specs.Prelude.{ℕ, ◌≤◌, ◌<◌, ◌≡◌, Bool, true, false, List}
use Rattle.written_text.specs.inner.Nested.{deep}

-- whether one of devices a + 1 to e has more than 32 tiers
pub record Deep (last : List ℕ) (a e : ℕ) (r : Bool) : Type 0 where
  pub found : r ≡ true → (d : ℕ) × (a < d) × (d ≤ e) × (deep last d ≡ true)
  pub none : r ≡ false → (d : ℕ) → a < d → d ≤ e → deep last d ≡ false
