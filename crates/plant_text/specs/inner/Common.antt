-- What the reader finds of a common line's bytes. The contracts of private functions alone cite this.
use Rattle.std.specs.Prelude.{ℕ, ◌+◌, ◌*◌, ◌≤◌, ◌≡◌, List, length, get_or}
use Rattle.laws.specs.Limits.{highest_term}
use Rattle.text.specs.Decimal.{number_at}
use Rattle.plant_text.specs.declared.common.Start.{Start}

-- four bytes of a text as one number
pub record Four (t : List ℕ) (at r : ℕ) : Type 0 where
  pub sum : r ≡ get_or t at 0 + 256 * get_or t (at + 1) 0 + 65_536 * get_or t (at + 2) 0 + 16_777_216 * get_or t (at + 3) 0
  pub first : get_or t at 0 ≤ 255
  pub second : get_or t (at + 1) 0 ≤ 255
  pub third : get_or t (at + 2) 0 ≤ 255
  pub fourth : get_or t (at + 3) 0 ≤ 255

-- a line at an index that opens with a bracket and four bytes, and the number that begins some bytes further on
pub record Bracketed (t : List ℕ) (at skip : ℕ) (r : Start) : Type 0 where
  pub room : at + 6 ≤ length t
  pub bracket : get_or t at 0 ≡ 40
  pub word : Four t (at + 1) r.word
  pub number : record { value = r.value; end = r.end } ≡ number_at highest_term t (at + skip)
  pub there : r.end ≡ at + skip → ⊥
  pub within : r.end ≤ length t
