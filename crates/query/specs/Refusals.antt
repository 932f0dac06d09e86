-- The refusals of a query: document 01's rows for the ask, as small tables joined, so that a row slots in between two others.
use Rattle.std.specs.Prelude.{ℕ, ◌+◌, Bool, false, ◌||◌, not, List, ltb, eqb, length}
use Rattle.laws.specs.Limits.{highest_term}
use Rattle.laws.specs.Rows.{pick, otherwise}
use Rattle.laws.specs.Search.{any}
use Rattle.laws.specs.Tables.{entry}
use Rattle.plant.specs.Levels.{true_level}
use Rattle.query.specs.Query.{most_named, used}
use Rattle.query.specs.declared.Levels.{Levels}
use Rattle.query.specs.declared.Query.{Query}

-- 10: "a count over 8"
abbrev pub count_rows : ℕ → ℕ → ℕ
count_rows required forbidden = pick (ltb most_named required || ltb most_named forbidden) 10 0

-- 11: "a used mark outside 1..65,535"
abbrev pub no_term : List ℕ → ℕ → Bool
no_term ts k = eqb (entry ts k) 0 || ltb highest_term (entry ts k)

abbrev pub no_terms : List ℕ → Bool
no_terms ts = any (length ts) (no_term ts)

abbrev pub term_rows : List ℕ → List ℕ → ℕ
term_rows required forbidden = pick (no_terms required || no_terms forbidden) 11 0

-- 12: "a window with low above high, or high above 254"; document 02: "12 now also covers a low of 0." An end of a range is a true level. It speaks
-- of a range alone.
abbrev pub no_range : Levels → Bool
no_range Levels.Any = false
no_range Levels.TrueOnly = false
no_range (Levels.Range low high) = ltb high low || not (true_level low) || not (true_level high)

abbrev pub level_rows : Levels → ℕ
level_rows l = pick (no_range l) 12 0

-- 13: "start 0 or above N + 1"
abbrev pub start_rows : ℕ → ℕ → ℕ
start_rows n start = pick (eqb start 0 || ltb (n + 1) start) 13 0

-- 14: "answer list shorter than N"
abbrev pub room_rows : ℕ → ℕ → ℕ
room_rows n room = pick (ltb room n) 14 0

-- the rows that do not hang on where an answer goes, over a plant of n devices
unfoldable pub common_refusal : ℕ → Query → ℕ
common_refusal n q =
    otherwise (count_rows q.required.count q.forbidden.count)
    (otherwise (term_rows (used q.required) (used q.forbidden))
    (otherwise (level_rows q.levels)
    (start_rows n q.start)))

-- the rows for a search, whose answer list has room for some devices
unfoldable pub query_refusal : ℕ → ℕ → Query → ℕ
query_refusal n room q = otherwise (common_refusal n q) (room_rows n room)
