-- The forms of lines: a text has a table of patterns, and the first that a line fits says its kind.
use Rattle.std.specs.Prelude.{ℕ, cond, List, [], ◌∷◌, eqb, Option, None, Some}
use Prim.Native.String.{String}
use Rattle.text.specs.Patterns.{bytes, fill, fit, capped_fit}
use Rattle.text.specs.declared.Fit.{Fit}
use Rattle.text.specs.declared.Form.{Form}

-- the kind of line that a pattern is for
pub record Row : Type 0 where
  pub kind : ℕ
  pub pattern : List ℕ

abbrev pub row : ℕ → String → Row
row kind pattern = record { kind = kind; pattern = bytes pattern }

-- Kinds are numbers. Two are every text's: bytes that end without a line feed, and a line that fits no pattern; a table's own go from 2 on.
abbrev pub unfinished : ℕ
unfinished = 0

abbrev pub other : ℕ
other = 1

-- a form without numbers
abbrev pub plain : ℕ → Form
plain kind = record { kind = kind; before = 0; number = 0 }

-- a form with a number
abbrev pub with_number : ℕ → ℕ → Form
with_number kind n = record { kind = kind; before = 0; number = n }

-- the form of a line that fits, else another
abbrev pub fitted : ℕ → Option Fit → Form → Form
fitted kind None rest = rest
fitted kind (Some f) rest = record { kind = kind; before = f.before; number = f.number }

-- the form of a whole line
unfoldable pub form : List Row → List ℕ → Form
form [] l = plain other
form (r ∷ rs) l = fitted r.kind (fit r.pattern l) (form rs l)

-- the pattern of a kind; no bytes, where the table has none
unfoldable pub pattern_of : List Row → ℕ → List ℕ
pattern_of [] kind = []
pattern_of (r ∷ rs) kind = cond (eqb r.kind kind) r.pattern (pattern_of rs kind)

-- the line of a form with one number at most
abbrev pub spelled : List Row → Form → List ℕ
spelled rows f = fill (pattern_of rows f.kind) f.number

-- the form of a line by the rows asked so far, and one row more, its numbers up to a limit
unfoldable pub row_after : ℕ → ℕ → List ℕ → List ℕ → Form → Form
row_after limit kind pattern l f = cond (eqb f.kind other) (fitted kind (capped_fit limit (fit pattern l)) f) f
