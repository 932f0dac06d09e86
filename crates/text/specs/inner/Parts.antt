-- Parts of numbers and patterns. The contracts of private functions alone cite this.
use Rattle.std.specs.Prelude.{ℕ, ◌+◌, ◌≤◌, ◌≡◌, cond, List, ◌∷◌, length, get_or, Option, MatchOption}
use Rattle.text.specs.Lines.{line_at}
use Rattle.text.specs.Decimal.{digit}
use Rattle.text.specs.Patterns.{fit_after, misfit, capped_fit}
use Rattle.text.specs.declared.NumberAt.{NumberAt}
use Rattle.text.specs.declared.Fit.{Fit}
use Rattle.text.specs.declared.Scan.{Scan}

-- the number that begins with a 0: no digit may follow it
abbrev pub zero_at : List ℕ → ℕ → NumberAt
zero_at t at = record { value = 0; end = cond (digit (get_or t (at + 1) 0)) at (at + 1) }

-- a scan is in the text, its numbers known up to the limit
pub record On (limit : ℕ) (t : List ℕ) (s : Scan) : Type 0 where
  pub within : s.at ≤ length t
  pub low : s.before ≤ limit + 1
  pub lower : s.number ≤ limit + 1

-- what the line that goes on at a scan's index comes to, against what is left of a pattern
abbrev pub left_of : ℕ → List ℕ → List ℕ → Scan → Option Fit
left_of limit t ps s = capped_fit limit (fit_after s.before s.number ps (line_at t s.at))

-- past the byte p of a pattern: the rest of it against the rest of the line, or that the line does not fit
pub record Goes (limit : ℕ) (t : List ℕ) (p : ℕ) (s r : Scan) : Type 0 where
  pub goes_on : (ps : List ℕ) → left_of limit t (p ∷ ps) s ≡ left_of limit t ps r
  pub on : On limit t r

abbrev pub Past : ℕ → List ℕ → ℕ → Scan → Option Scan → Type 0
Past limit t p s r = MatchOption r ((ps : List ℕ) → left_of limit t (p ∷ ps) s ≡ misfit) (λ r. Goes limit t p s r)
