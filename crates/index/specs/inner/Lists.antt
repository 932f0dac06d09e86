-- Sound lists of postings. The contracts of private functions alone cite this.
use Rattle.std.specs.Prelude.{ℕ, ◌≡◌, false, List, length}
use Rattle.laws.specs.Search.{any}
use Rattle.index.specs.Postings.{device, misplaced, redundant}

-- a sound list, over a plant's table of last devices
pub record SoundList (last l : List ℕ) : Type 0 where
  pub placed : any (length l) (misplaced (length last) device l) ≡ false
  pub single : any (length l) (redundant last l) ≡ false
