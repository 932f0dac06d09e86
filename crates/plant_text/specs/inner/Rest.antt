-- What the reader's functions promise one another: what is left of a reading, and where it is. The contracts of private functions alone cite
-- this.
use Rattle.std.specs.Prelude.{ℕ, ◌+◌, ◌≤◌, ◌≡◌, not, List, eqb, length, Result, MatchResult}
use Rattle.laws.specs.Limits.{most_devices, highest_term}
use Rattle.laws.specs.Rows.{pick}
use Rattle.index.specs.Index.{most_terms, most_postings}
use Rattle.text.specs.Forms.{unfinished}
use Rattle.text.specs.Reading.{Read, no, and_then, reading_forms}
use Rattle.text.specs.declared.Form.{Form}
use Rattle.text.specs.declared.Refused.{Refused}
use Rattle.refusal.specs.Numbers.{number}
use Rattle.plant_text.specs.Form.{rows}
use Rattle.plant_text.specs.PlantText.{longest_text, State, is, closed, step}
use Rattle.plant_text.specs.declared.Room.{Room}
use Rattle.plant_text.specs.declared.lines.Place.{Place}

-- what is read from line k on, in a text that goes on as s
abbrev pub from : Room → State → ℕ → List ℕ → Read State
from r = reading_forms rows (is closed) (step r)

-- what is read where line k is of a form and the text goes on as s after it
abbrev pub from_form : Room → State → Form → ℕ → List ℕ → Read State
from_form r m f k s = and_then (step r m f) k (λ m'. from r m' (k + 1) s)

-- a line of a kind and a number
abbrev pub with_number : ℕ → ℕ → Form
with_number kind n = record { kind = kind; before = 0; number = n }

-- numbers are known up to this, above which no term, device or level is taken
abbrev pub highest_known : ℕ
highest_known = highest_term

-- reading is at an index of a text, at a line
pub record ReadingAt (t : List ℕ) (at line : ℕ) : Type 0 where
  pub fits : length t ≤ longest_text
  pub within : at ≤ length t
  pub lined : line ≤ at + 1

-- the place once its line is read, where the next begins at an index
abbrev pub line_after : Place → ℕ → Place
line_after p at = record { at = at; line = p.line + 1; count = p.count }

-- the room is no more than a plant and an index may have
pub record Bounded (r : Room) : Type 0 where
  pub devices : r.devices ≤ most_devices
  pub terms : r.terms ≤ most_terms
  pub postings : r.postings ≤ most_postings

-- why a line of a kind is not taken where only the kind that is due may stand, or 0 where it is of that kind: rows 24 and 21
abbrev pub kind_refusal : ℕ → ℕ → ℕ
kind_refusal due kind = pick (eqb kind unfinished) 24 (pick (not (eqb kind due)) 21 0)

-- a refusal is of a number, at a line
pub record Tells (x line : ℕ) (e : Refused) : Type 0 where
  pub number_is : number e.refusal ≡ x
  pub line_is : e.line ≡ line

-- a test's answer: it passes where the refusal is 0, and else refuses a line by it
abbrev pub Taken : {T : Type 0} → ℕ → ℕ → Result T Refused → Type 0
Taken x line r = MatchResult r (λ _. x ≡ 0) (Tells x line)

-- what a refused text comes to
abbrev pub refused_by : Refused → Read State
refused_by e = no (number e.refusal) e.line
