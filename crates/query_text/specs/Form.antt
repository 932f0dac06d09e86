-- The lines of query text (document 01: ask text).
use Rattle.std.specs.Prelude.{ℕ, Bool, ◌||◌, List, [], ◌∷◌, eqb}
use Rattle.text.specs.Forms.{Row, row}

-- The kinds of line, in the order in which they stand. Of the two level lines, a range and any level code, one stands at most.
abbrev pub open_line : ℕ
open_line = 2

abbrev pub required_line : ℕ
required_line = 3

abbrev pub forbidden_line : ℕ
forbidden_line = 4

abbrev pub level_line : ℕ
level_line = 5

abbrev pub any_level_line : ℕ
any_level_line = 6

abbrev pub start_line : ℕ
start_line = 7

abbrev pub budget_line : ℕ
budget_line = 8

abbrev pub close_line : ℕ
close_line = 9

-- how each is written, with `#` for a number
abbrev pub rows : List Row
rows =
    row open_line "(ask"
    ∷ row required_line "(need #)"
    ∷ row forbidden_line "(not #)"
    ∷ row level_line "(level # #)"
    ∷ row any_level_line "(level any)"
    ∷ row start_line "(from #)"
    ∷ row budget_line "(moves #)"
    ∷ row close_line ")"
    ∷ []

-- which may stand more than once: "at most one each of level, from and moves"
abbrev pub repeats : ℕ → Bool
repeats kind = eqb kind required_line || eqb kind forbidden_line
