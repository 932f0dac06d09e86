-- Two indexes (document 02, "A store for today's notes"): which terms belong in each, their refusals, and the list of a term.
use Rattle.std.specs.Prelude.{ℕ, Bool, cond, ◌||◌, not, List, [], leb, length}
use Rattle.laws.specs.Rows.{pick, otherwise}
use Rattle.laws.specs.Search.{any}
use Rattle.laws.specs.Tables.{entry}
use Rattle.plant.specs.Plant.{Plant}
use Rattle.index.specs.Index as one
use Rattle.index.specs.Index.{Index, index, index_rows, tables_refusal}

pub record Indexes : Type 0 where
  pub first : Index
  pub second : Index

abbrev pub indexes : Index → Index → Indexes
indexes first second = record { first = first; second = second }

-- "an empty second store"
abbrev pub alone : Index → Indexes
alone I = indexes I (index [] [] [])

-- "a second store, for marks from 32,768 up; the first keeps those below"
abbrev pub in_second : ℕ → Bool
in_second t = leb 32_768 t

-- the index that term t belongs in
abbrev pub home : Indexes → ℕ → Index
home S t = cond (in_second t) S.second S.first

-- the list of term t: that of its index, where "A mark absent from the store has an empty list."
abbrev pub list_of : Indexes → ℕ → List ℕ
list_of S t = one.list_of (home S t) t

-- whether some of the terms is one of the second index; of the first
abbrev pub any_second : List ℕ → Bool
any_second terms = any (length terms) (λ k. in_second (entry terms k))

abbrev pub any_first : List ℕ → Bool
any_first terms = any (length terms) (λ k. not (in_second (entry terms k)))

-- 15: "a mark in the wrong store"
abbrev pub misfiled : Indexes → Bool
misfiled S = any_second S.first.terms || any_first S.second.terms

-- "The second store is checked after the first by the same rules." "55 to 59, the second store's 5 to 9; then 15 for a mark in the wrong store"
unfoldable pub indexes_refusal : Plant → Indexes → ℕ
indexes_refusal P S =
    otherwise (otherwise (tables_refusal P S.first) (index_rows 55 P.last S.second))
    (pick (misfiled S) 15 0)
