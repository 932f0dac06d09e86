-- Level lines, by computation: document 01's printed ask for any level code, with a window and without a level line, and two level lines.
use mathlib.Core.Path.{◌≡◌, refl}
use mathlib.Core.List.{List, [], ◌∷◌, ◌++◌}
use Prim.Native.Nat.{ℕ}
use Rattle.laws.specs.Front.{until}
use Rattle.text.specs.Decimal.{decimal, number}
use Rattle.text.specs.Lines.{lines, ended}
use Rattle.text.specs.Patterns.{bytes, fit_after}
use Rattle.text.specs.Forms.{form}
use Rattle.text.specs.Reading.{read_lines}
use Rattle.query.specs.Query.{empty, with_required, with_forbidden, with_levels}
use Rattle.query.specs.declared.Levels.{Levels}
use Rattle.query_text.specs.QueryText.{QueryRead, line_refusal, read_query}

-- the ask of need 7, not 9 with these level lines
abbrev pub ask : List (List ℕ) → List ℕ
ask levels = ended ((bytes "(ask" ∷ bytes "(need 7)" ∷ bytes "(not 9)" ∷ []) ++ (levels ++ (bytes ")" ∷ [])))

abbrev pub taken : Levels → QueryRead
taken l = record { refusal = 0; line = 0; query = with_levels (with_forbidden (with_required empty 7) 9) l }

-- a second level line is out of order, at line 5
abbrev pub second_refused : QueryRead
second_refused = record { refusal = 31; line = 5; query = empty }

pub level_lines :
    (read_query (ask (bytes "(level any)" ∷ [])) ≡ taken Levels.Any)
    × (read_query (ask (bytes "(level 100 140)" ∷ [])) ≡ taken (Levels.Range 100 140))
    × (read_query (ask []) ≡ taken Levels.TrueOnly)
    × (read_query (ask (bytes "(level any)" ∷ bytes "(level 100 140)" ∷ [])) ≡ second_refused)
    × (read_query (ask (bytes "(level 100 140)" ∷ bytes "(level any)" ∷ [])) ≡ second_refused)
    × (read_query (ask (bytes "(level any)" ∷ bytes "(level any)" ∷ [])) ≡ second_refused)
unfolding read_query line_refusal read_lines lines ended form fit_after bytes number decimal until
level_lines = (refl, refl, refl, refl, refl, refl)
