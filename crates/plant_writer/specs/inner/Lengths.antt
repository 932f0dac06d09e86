-- The length of a text, without its bytes. The contracts of private functions alone cite this.
use Rattle.std.specs.Prelude.{ℕ, ◌+◌, List, length}
use Rattle.std.specs.List.{sum_by}
use Rattle.index.specs.Postings.{device}
use Rattle.text.specs.Decimal.{numeral}

-- the bytes of lines for the entries of a list: the digits of the number that the key tells of an entry, and so many more bytes each
unfoldable pub lines_length : ℕ → (ℕ → ℕ) → List ℕ → ℕ
lines_length extra key l = sum_by (λ x. extra + length (numeral (key x))) l

-- the lines of a whole text: the plant's two, and those of devices, terms and postings
abbrev pub whole_length : List ℕ → List ℕ → List ℕ → ℕ
whole_length level terms postings = 9 + lines_length 8 (λ v. v) level + lines_length 9 (λ t. t) terms + lines_length 7 device postings
