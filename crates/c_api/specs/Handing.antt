-- How a caller in another language hands a query over, and how answers are handed back to it as numbers.
use Rattle.std.specs.Prelude.{ℕ, zero, suc, List, [], ◌∷◌, ◌++◌, Result, Ok, Err}
use Rattle.refusal.specs.Numbers.{number}
use Rattle.text.specs.declared.Refused.{Refused}
use Rattle.query.specs.Query.{terms_of}
use Rattle.query.specs.declared.Levels.{Levels}
use Rattle.query.specs.declared.Query.{Query}
use Rattle.search.specs.Answer.{Numbers}
use Rattle.query_text.specs.QueryText.{QueryRead}
use Rattle.plant_text.specs.PlantText.{outcome_values}
use Rattle.plant_text.specs.declared.Counts.{Counts}

-- which level codes are wanted: 0, any; 1, true levels only; another number, a range
abbrev pub levels_of : ℕ → ℕ → ℕ → Levels
levels_of zero low high = Levels.Any
levels_of (suc zero) low high = Levels.TrueOnly
levels_of (suc (suc n)) low high = Levels.Range low high

-- the query of two lists of terms, level codes, a start and a budget
abbrev pub query_of : List ℕ → List ℕ → Levels → ℕ → ℕ → Query
query_of required forbidden levels start budget =
    record { required = terms_of required; forbidden = terms_of forbidden; levels = levels; start = start; budget = budget }

-- the four numbers beside a refusal
abbrev pub numbers_of : Numbers → List ℕ
numbers_of a = a.count ∷ a.position ∷ a.passed ∷ a.moves ∷ []

-- which level codes are wanted, handed back as three numbers: 0, 1 or 2, then the low and the high of a range, or zeros
abbrev pub level_numbers : Levels → List ℕ
level_numbers Levels.Any = 0 ∷ 0 ∷ 0 ∷ []
level_numbers Levels.TrueOnly = 1 ∷ 0 ∷ 0 ∷ []
level_numbers (Levels.Range low high) = 2 ∷ low ∷ high ∷ []

-- the numbers of a query that was read: line, required terms, forbidden terms, level codes, start, budget
abbrev pub numbers_at : ℕ → Query → List ℕ
numbers_at line query =
    (line ∷ query.required.count ∷ query.forbidden.count ∷ [])
    ++ (level_numbers query.levels ++ (query.start ∷ query.budget ∷ []))

abbrev pub query_numbers : QueryRead → List ℕ
query_numbers r = numbers_at r.line r.query

-- the numbers beside the refusal of a plant text: line, devices, terms, postings
abbrev pub outcome_numbers : Result Counts Refused → List ℕ
outcome_numbers o = let v = outcome_values o in v.line ∷ v.devices ∷ v.terms ∷ v.postings ∷ []

-- the refusal of a text, and its line, or zeros
abbrev pub refusal_of : {T : Type 0} → Result T Refused → ℕ
refusal_of (Ok x) = 0
refusal_of (Err e) = number e.refusal

abbrev pub line_of : {T : Type 0} → Result T Refused → ℕ
line_of (Ok x) = 0
line_of (Err e) = e.line
