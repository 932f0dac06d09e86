-- The query (document 01's ask): its terms, its updates, and the level rule.
use Rattle.std.specs.Prelude.{ℕ, ◌+◌, ◌-◌, Bool, true, false, cond, ◌&&◌, List, ◌++◌, leb, ltb, length, take, set, replicate}
use Rattle.laws.specs.Limits.{largest_number}
use Rattle.plant.specs.Levels.{true_level}
use Rattle.query.specs.declared.Levels.{Levels}
use Rattle.query.specs.declared.terms.Terms.{Terms}
use Rattle.query.specs.declared.Query.{Query}

-- "Up to 8 needed and 8 barred marks": of each kind
abbrev pub most_named : ℕ
most_named = 8

-- the terms of one kind, required (needed marks) or forbidden (barred marks), as they are written
abbrev pub used : Terms → List ℕ
used ts = take ts.count ts.places

abbrev pub none : Terms
none = record { places = replicate most_named 0; count = 0 }

-- with one term more, where there is a place left
abbrev pub with_term : Terms → ℕ → Terms
with_term ts t = cond (ltb ts.count most_named) (record { places = set ts.places ts.count t; count = ts.count + 1 }) ts

-- the terms of a list: the first eight, and zeros in the places left; a ninth is counted and not kept, since nine terms are refused
unfoldable pub terms_of : List ℕ → Terms
terms_of l = record { places = take most_named l ++ replicate (most_named - length l) 0; count = length l }

-- "an empty ask to begin from: no marks, no window, start 1, the largest allowance"; document 02: "true only (the empty ask's setting)"
abbrev pub empty : Query
empty = record { required = none; forbidden = none; levels = Levels.TrueOnly; start = 1; budget = largest_number }

-- a query with another part
abbrev pub with_required : Query → ℕ → Query
with_required q t = record { required = with_term q.required t; forbidden = q.forbidden; levels = q.levels; start = q.start; budget = q.budget }

abbrev pub with_forbidden : Query → ℕ → Query
with_forbidden q t = record { required = q.required; forbidden = with_term q.forbidden t; levels = q.levels; start = q.start; budget = q.budget }

abbrev pub with_levels : Query → Levels → Query
with_levels q l = record { required = q.required; forbidden = q.forbidden; levels = l; start = q.start; budget = q.budget }

abbrev pub with_start : Query → ℕ → Query
with_start q n = record { required = q.required; forbidden = q.forbidden; levels = q.levels; start = n; budget = q.budget }

abbrev pub with_budget : Query → ℕ → Query
with_budget q n = record { required = q.required; forbidden = q.forbidden; levels = q.levels; start = q.start; budget = n }

-- The level rule: whether a query wants a level code. Document 02: "The record holds any, true only (the empty ask's setting) or a window." A range
-- (document 01's window) holds true levels alone.
abbrev pub wants : Levels → ℕ → Bool
wants Levels.Any code = true
wants Levels.TrueOnly code = true_level code
wants (Levels.Range low high) code = leb low code && leb code high && true_level code

-- whether a query wants the codes that are no true level too
abbrev pub any_code : Levels → Bool
any_code Levels.Any = true
any_code Levels.TrueOnly = false
any_code (Levels.Range low high) = false
