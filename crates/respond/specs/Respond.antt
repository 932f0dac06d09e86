-- What the program prints, as a function of the plant text and the query text.
use Rattle.std.specs.Prelude.{ℕ, zero, suc, ◌≤◌, ◌≡◌, List, ◌++◌, length, take, drop}
use Rattle.plant.specs.Plant.{Plant}
use Rattle.index.specs.Index.{Index}
use Rattle.two_indexes.specs.Indexes.{alone, list_of}
use Rattle.steps.specs.Steps.{End}
use Rattle.query.specs.declared.Query.{Query}
use Rattle.search.specs.Answer.{search_refusal, ended}
use Rattle.text.specs.Reading.{Read, made, no}
use Rattle.plant_text.specs.PlantText as plant_texts
use Rattle.plant_text.specs.PlantText.{State}
use Rattle.plant_text.specs.declared.Room.{Room}
use Rattle.query_text.specs.QueryText as query_texts
use Rattle.query_text.specs.QueryText.{QueryRead}
use Rattle.respond.specs.Limits.{device_room, term_room, posting_room}
use Rattle.respond.specs.Lines.{word_plant, word_ask, word_query, numbered, numbered₂, answer_text}

-- the room of the tables that the program lends
abbrev pub program_room : Room
program_room = record { devices = device_room; terms = term_room; postings = posting_room }

-- `(refused query 13)`, or the answer
abbrev pub of_run : ℕ → End → List ℕ
of_run zero e = answer_text e.listed e.position e.counts.passed e.counts.moves
of_run (suc n) e = numbered word_query (suc n)

-- "The program hands in an empty second store until the vans have a notes file."
abbrev pub of_search : Plant → Index → Query → List ℕ
of_search P I q = of_run (search_refusal P (alone I) q device_room) (ended P (list_of (alone I)) q q.budget)

-- `(refused ask 31 2)`, or what the search of the query comes to
abbrev pub of_query : Plant → Index → ℕ → ℕ → Query → List ℕ
of_query P I zero line q = of_search P I q
of_query P I (suc n) line q = numbered₂ word_ask (suc n) line

abbrev pub of_query_text : Plant → Index → QueryRead → List ℕ
of_query_text P I r = of_query P I r.refusal r.line r.query

-- `(refused plant 22 5)`, or what the query text comes to: "Plant comes before ask, ask before query."
abbrev pub of_plant_text : Read State → QueryRead → List ℕ
of_plant_text (no n line) q = numbered₂ word_plant n line
of_plant_text (made m) q = of_query_text m.plant m.index q

unfoldable pub respond : List ℕ → List ℕ → List ℕ
respond plant query = of_plant_text (plant_texts.read_plant program_room plant) (query_texts.read_query query)

-- the buffer holds the text at its front and keeps its other bytes; the count is the text's length, which lies within the buffer
pub record Responds (plant query out out' : List ℕ) (count : ℕ) : Type 0 where
  pub bytes : out' ≡ respond plant query ++ drop (length (respond plant query)) out
  pub counted : count ≡ length (respond plant query)
  pub within : count ≤ length out'
  pub taken : count ≡ length (take count out')
