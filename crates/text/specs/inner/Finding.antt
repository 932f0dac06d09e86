-- The line at an index of a text, as a reader finds it. The contracts of private functions, here and in the readers, alone cite this.
use Rattle.std.specs.Prelude.{ℕ, cond, List}
use Rattle.text.specs.Lines.{line_at, whole_at, next_at}
use Rattle.text.specs.Decimal.{up_to}
use Rattle.text.specs.Forms.{Row, unfinished, plain, form}
use Rattle.text.specs.declared.Form.{Form}
use Rattle.text.specs.declared.Found.{Found}

-- a form with its numbers as they are known, up to a limit
abbrev pub capped_form : ℕ → Form → Form
capped_form limit f = record { kind = f.kind; before = up_to limit f.before; number = up_to limit f.number }

-- the form of what begins at an index
abbrev pub form_at : List Row → List ℕ → ℕ → Form
form_at rows t at = cond (whole_at t at) (form rows (line_at t at)) (plain unfinished)

-- and as it is known, with where the next line begins
abbrev pub found_at : ℕ → List Row → List ℕ → ℕ → Found
found_at limit rows t at = record { form = capped_form limit (form_at rows t at); next = next_at t at }
