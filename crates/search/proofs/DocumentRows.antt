-- Document 01's queries over plant P: its starred rows a to j as document 02 has them, by computation.
use Prim.Native.Nat.{ℕ, ◌-◌}
use mathlib.Core.Path.{◌≡◌, refl}
use mathlib.Core.List.{List, [], ◌∷◌, ◌++◌}
use lib.ListN.{length, replicate}
use Rattle.laws.specs.Front.{until}
use Rattle.laws.specs.Search.{any, lowest}
use Rattle.plant.specs.Plant as plants
use Rattle.plant.specs.Plant.{Plant, plant}
use Rattle.index.specs.Unshared.{count_up, unshared, member}
use Rattle.index.specs.Index as one
use Rattle.index.specs.Index.{Index, index}
use Rattle.two_indexes.specs.Indexes.{Indexes, indexes, alone, list_of, indexes_refusal}
use Rattle.steps.specs.Moves.{bring}
use Rattle.steps.specs.Matching.{every, matches, matching}
use Rattle.steps.specs.Steps.{round, run}
use Rattle.query.specs.Query.{empty, terms_of}
use Rattle.query.specs.Refusals.{common_refusal, query_refusal}
use Rattle.query.specs.declared.Levels.{Levels}
use Rattle.query.specs.declared.Query.{Query}
use Rattle.search.specs.Answer.{search_refusal, criteria, ended, answer, answer_list}

-- "P has N = 6, last 6, 3, 3, 6, 5, 6, all roots 1, postings 5, 10, 9." Device 3 has code 255 there.
abbrev pub P_with : ℕ → Plant
P_with code = plant (6 ∷ 3 ∷ 3 ∷ 6 ∷ 5 ∷ 6 ∷ []) (1 ∷ 1 ∷ 1 ∷ 1 ∷ 1 ∷ 1 ∷ []) (120 ∷ 118 ∷ code ∷ 121 ∷ 90 ∷ 119 ∷ [])

abbrev pub P : Plant
P = P_with 255

abbrev pub I : Index
I = index (7 ∷ 9 ∷ []) (0 ∷ 2 ∷ []) (5 ∷ 10 ∷ 9 ∷ [])

-- a query with these required and forbidden terms, levels and budget, from device 1 on
abbrev pub query : List ℕ → List ℕ → Levels → ℕ → Query
query required forbidden levels budget =
    record { required = terms_of required; forbidden = terms_of forbidden; levels = levels; start = 1; budget = budget }

abbrev pub most : ℕ
most = empty.budget

-- "an empty second store", and one that has term 40,000 on device 3 alone and an empty list for 32,768
abbrev pub empty_second : Index
empty_second = index [] [] []

abbrev pub J : Index
J = index (32_768 ∷ 40_000 ∷ []) (0 ∷ 0 ∷ []) (6 ∷ [])

-- a row, over index I and a second: the answer to the query, the answer list of six zeros afterwards, and what matches before the position
pub record Row (P : Plant) (second : Index) (q : Query) (listed : List ℕ) (position passed moves : ℕ) : Type 0 where
  pub answers : answer P (indexes I second) q 6 ≡ record { refusal = 0; count = length listed; position = position; passed = passed; moves = moves }
  pub lists : answer_list P (indexes I second) q (replicate 6 0) ≡ listed ++ replicate (6 - length listed) 0
  pub exact : matching (matches P.last (list_of (indexes I second)) (criteria P q)) (position - 1) 1 ≡ listed

-- a refusal: the number, zeros, and the answer list untouched
pub record Refused (P : Plant) (S : Indexes) (q : Query) (number : ℕ) : Type 0 where
  pub answers : answer P S q 6 ≡ record { refusal = number; count = 0; position = 0; passed = 0; moves = 0 }
  pub lists : answer_list P S q (replicate 6 0) ≡ replicate 6 0

-- rows a to j, in that order, those without a window for any level code: they "keep their listings". Then document 02: "0 is treated as 255 is",
-- row j with device 3 at 0; "12 now also covers a low of 0", row j as document 01 had it; "without it row c lists 2 only", row f too, each with
-- its place and moves; and the empty query, with device 3 at 255 and at 0.
pub rows :
    Row P empty_second (query (7 ∷ []) [] Levels.Any most) (2 ∷ 3 ∷ 5 ∷ []) 7 0 2
    × Row P empty_second (query (9 ∷ []) [] Levels.Any most) (4 ∷ 5 ∷ 6 ∷ []) 7 0 0
    × Row P empty_second (query (7 ∷ []) (9 ∷ []) Levels.Any most) (2 ∷ 3 ∷ []) 7 0 1
    × Row P empty_second (query (9 ∷ []) (7 ∷ []) Levels.Any most) (4 ∷ 6 ∷ []) 7 0 2
    × Row P empty_second (query (7 ∷ []) [] (Levels.Range 100 140) most) (2 ∷ []) 7 0 2
    × Row P empty_second (query (7 ∷ []) (9 ∷ []) Levels.Any 0) (2 ∷ 3 ∷ []) 4 0 0
    × Row P empty_second (query (8 ∷ []) [] Levels.Any most) [] 7 0 0
    × Row P empty_second (query [] (8 ∷ []) Levels.Any most) (1 ∷ 2 ∷ 3 ∷ 4 ∷ 5 ∷ 6 ∷ []) 7 0 0
    × Row P empty_second (query (7 ∷ []) (7 ∷ []) Levels.Any most) [] 7 0 3
    × Row P empty_second (query [] [] (Levels.Range 1 254) most) (1 ∷ 2 ∷ 4 ∷ 5 ∷ 6 ∷ []) 7 0 0
    × Row (P_with 0) empty_second (query [] [] (Levels.Range 1 254) most) (1 ∷ 2 ∷ 4 ∷ 5 ∷ 6 ∷ []) 7 0 0
    × Refused P (alone I) (query [] [] (Levels.Range 0 254) most) 12
    × Row P empty_second (query (7 ∷ []) (9 ∷ []) Levels.TrueOnly most) (2 ∷ []) 7 0 1
    × Row P empty_second (query (7 ∷ []) (9 ∷ []) Levels.TrueOnly 0) (2 ∷ []) 4 0 0
    × Row P empty_second empty (1 ∷ 2 ∷ 4 ∷ 5 ∷ 6 ∷ []) 7 0 0
    × Row (P_with 0) empty_second empty (1 ∷ 2 ∷ 4 ∷ 5 ∷ 6 ∷ []) 7 0 0
unfolding plants.plant_refusal one.tables_refusal one.index_rows indexes_refusal common_refusal query_refusal search_refusal terms_of ended run round bring until any lowest matching every member unshared count_up
rows = (
  record { answers = refl; lists = refl; exact = refl },
  record { answers = refl; lists = refl; exact = refl },
  record { answers = refl; lists = refl; exact = refl },
  record { answers = refl; lists = refl; exact = refl },
  record { answers = refl; lists = refl; exact = refl },
  record { answers = refl; lists = refl; exact = refl },
  record { answers = refl; lists = refl; exact = refl },
  record { answers = refl; lists = refl; exact = refl },
  record { answers = refl; lists = refl; exact = refl },
  record { answers = refl; lists = refl; exact = refl },
  record { answers = refl; lists = refl; exact = refl },
  record { answers = refl; lists = refl },
  record { answers = refl; lists = refl; exact = refl },
  record { answers = refl; lists = refl; exact = refl },
  record { answers = refl; lists = refl; exact = refl },
  record { answers = refl; lists = refl; exact = refl },
)

-- two indexes: terms of either, both and neither; a list of the second that is empty; then an example of each number, 55 before 15, and 15 before
-- the query's own
pub second_rows :
    Row P J (query (40_000 ∷ []) [] Levels.Any most) (3 ∷ []) 7 0 1
    × Row P J (query (7 ∷ 40_000 ∷ []) [] Levels.Any most) (3 ∷ []) 7 0 2
    × Row P J (query (7 ∷ []) (40_000 ∷ []) Levels.Any most) (2 ∷ 5 ∷ []) 7 0 3
    × Row P J (query (32_768 ∷ []) [] Levels.Any most) [] 7 0 0
    × Row P J (query (32_767 ∷ []) [] Levels.Any most) [] 7 0 0
    × Row P J (query [] (40_001 ∷ []) Levels.Any most) (1 ∷ 2 ∷ 3 ∷ 4 ∷ 5 ∷ 6 ∷ []) 7 0 0
    × Refused P (indexes I (index (40_000 ∷ []) [] [])) empty 55
    × Refused P (indexes I (index (40_000 ∷ 40_000 ∷ []) (0 ∷ 0 ∷ []) [])) empty 56
    × Refused P (indexes I (index [] [] (6 ∷ []))) empty 57
    × Refused P (indexes I (index (40_000 ∷ []) (0 ∷ []) (14 ∷ []))) empty 58
    × Refused P (indexes I (index (40_000 ∷ []) (0 ∷ []) (5 ∷ 6 ∷ []))) empty 59
    × Refused P (alone (index (32_768 ∷ []) (0 ∷ []) [])) empty 15
    × Refused P (indexes I (index (32_767 ∷ []) (0 ∷ []) [])) empty 15
    × Refused P (indexes I (index (7 ∷ []) [] [])) empty 55
    × Refused P (indexes I I) (query [] [] (Levels.Range 0 254) most) 15
unfolding plants.plant_refusal one.tables_refusal one.index_rows indexes_refusal common_refusal query_refusal search_refusal terms_of ended run round bring until any lowest matching every member unshared count_up
second_rows = (
  record { answers = refl; lists = refl; exact = refl },
  record { answers = refl; lists = refl; exact = refl },
  record { answers = refl; lists = refl; exact = refl },
  record { answers = refl; lists = refl; exact = refl },
  record { answers = refl; lists = refl; exact = refl },
  record { answers = refl; lists = refl; exact = refl },
  record { answers = refl; lists = refl },
  record { answers = refl; lists = refl },
  record { answers = refl; lists = refl },
  record { answers = refl; lists = refl },
  record { answers = refl; lists = refl },
  record { answers = refl; lists = refl },
  record { answers = refl; lists = refl },
  record { answers = refl; lists = refl },
  record { answers = refl; lists = refl },
)
