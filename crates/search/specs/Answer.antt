-- What a search answers.
use Rattle.std.specs.Prelude.{ℕ, zero, suc, ◌+◌, List, ◌++◌, length, drop, Result, Ok, Err}
use Rattle.laws.specs.Rows.{otherwise}
use Rattle.laws.specs.Tables.{entry}
use Rattle.plant.specs.Plant.{Plant, size}
use Rattle.two_indexes.specs.Indexes.{Indexes, list_of, indexes_refusal}
use Rattle.steps.specs.Matching.{Criteria}
use Rattle.steps.specs.Steps.{End, steps}
use Rattle.query.specs.Query.{used, wants}
use Rattle.query.specs.Refusals.{query_refusal}
use Rattle.query.specs.declared.Query.{Query}
use Rattle.refusal.specs.declared.Refusal.{Refusal}
use Rattle.refusal.specs.Numbers.{number}
use Rattle.search.specs.declared.Answer.{Answer}

-- "Tables, store and ask are checked in that order by one call": the number of the first row that applies, of the tables and both indexes and then
-- of the query
unfoldable pub search_refusal : Plant → Indexes → Query → ℕ → ℕ
search_refusal P S q room = otherwise (indexes_refusal P S) (query_refusal (size P) room q)

-- what a query asks for, over a whole plant
abbrev pub criteria : Plant → Query → Criteria
criteria P q = record {
  required = used q.required;
  forbidden = used q.forbidden;
  ok = λ d. wants q.levels (entry P.level d);
  start = q.start;
  end = size P + 1;
}

-- how the cursor steps of a query with a budget end, along the lists that a lookup gives
unfoldable pub ended : Plant → (ℕ → List ℕ) → Query → ℕ → End
ended P list q budget = steps P.last P.root list (criteria P q) budget

-- the five numbers of an answer
pub record Numbers : Type 0 where
  pub refusal : ℕ
  pub count : ℕ
  pub position : ℕ
  pub passed : ℕ
  pub moves : ℕ

-- what a search says, in numbers
abbrev pub told : Result Answer Refusal → Numbers
told (Ok a) = record { refusal = 0; count = a.count; position = a.position; passed = a.passed; moves = a.moves }
told (Err e) = record { refusal = number e; count = 0; position = 0; passed = 0; moves = 0 }

-- the five numbers: "it gives the number and zeros", or "0, the number of devices listed, the place and the moves", and how many postings those
-- passed over without landing: "The total is the sum over the moves made."
abbrev pub answer_of : ℕ → End → Numbers
answer_of zero e = record { refusal = 0; count = length e.listed; position = e.position; passed = e.counts.passed; moves = e.counts.moves }
answer_of (suc n) e = record { refusal = suc n; count = 0; position = 0; passed = 0; moves = 0 }

-- "What matches, the cursor steps and the bound on moves now speak of both stores": by the lookup in both
abbrev pub answer : Plant → Indexes → Query → ℕ → Numbers
answer P S q room = answer_of (search_refusal P S q room) (ended P (list_of S) q q.budget)

-- "The answer list holds the devices at its front; its other entries keep their contents." A refusal keeps all.
abbrev pub written : ℕ → End → List ℕ → List ℕ
written zero e out = e.listed ++ drop (length e.listed) out
written (suc n) e out = out

abbrev pub answer_list : Plant → Indexes → Query → List ℕ → List ℕ
answer_list P S q out = written (search_refusal P S q (length out)) (ended P (list_of S) q q.budget) out
