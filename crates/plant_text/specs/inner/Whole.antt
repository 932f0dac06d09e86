-- What the reader of a whole text promises before the rest of the tables is cleared. The contracts of private functions alone cite this.
use Rattle.std.specs.Prelude.{ℕ, ◌≤◌, ◌≡◌, List, Result, MatchResult}
use Rattle.plant.specs.Plant as plants
use Rattle.index.specs.Index as indexes
use Rattle.text.specs.Reading.{made}
use Rattle.plant_text.specs.PlantText.{closed, read_plant}
use Rattle.plant_text.specs.inner.Rest.{refused_by}
use Rattle.plant_text.specs.inner.Devices.{front}
use Rattle.plant_text.specs.inner.Terms.{terms_made}
use Rattle.plant_text.specs.declared.Room.{Room}
use Rattle.plant_text.specs.declared.Counts.{Counts}
use Rattle.text.specs.declared.Refused.{Refused}

-- the tables' front entries are what the text made
pub record Made (r : Room) (t : List ℕ) (T : plants.Plant) (X : indexes.Index) (c : Counts) : Type 0 where
  pub reads : read_plant r t ≡ made (terms_made (front c.devices T) X c.terms c.postings closed)
  pub devices : c.devices ≤ r.devices
  pub terms : c.terms ≤ r.terms
  pub postings : c.postings ≤ r.postings

-- a text is read, or refused
abbrev pub ReadAll : Room → List ℕ → plants.Plant → indexes.Index → Result Counts Refused → Type 0
ReadAll r t T X e = MatchResult e (Made r t T X) (λ x. read_plant r t ≡ refused_by x)
