-- What a search gives, and what is promised of it: demands 2 and 3 where it is not refused, and document 02's two indexes.
use Rattle.std.specs.Prelude.{ℕ, ◌≡◌, Bool, false, List, [], ◌++◌, length, take, Result}
use Rattle.laws.specs.Rows.{pick, otherwise}
use Rattle.laws.specs.Tables.{entry}
use Rattle.plant.specs.Plant.{Plant, size}
use Rattle.plant.specs.Levels.{true_level}
use Rattle.index.specs.Index as one
use Rattle.index.specs.Index.{index}
use Rattle.two_indexes.specs.Indexes.{Indexes, any_second, list_of}
use Rattle.steps.specs.Matching.{matches, passing}
use Rattle.steps.specs.Promises.{ListsExactly, KeepsBudget}
use Rattle.query.specs.Query.{with_levels, any_code}
use Rattle.query.specs.Refusals.{query_refusal}
use Rattle.query.specs.declared.Levels.{Levels}
use Rattle.query.specs.declared.Query.{Query}
use Rattle.search.specs.Answer.{search_refusal, criteria, ended, told, answer, answer_list}
use Rattle.refusal.specs.declared.Refusal.{Refusal}
use Rattle.search.specs.declared.Answer.{Answer}

-- what matches is listed, by the lists that a lookup gives, and the position, what was passed over and the moves are those of a run that keeps its
-- budget. Whether it is short is not told, nor where its cursors stand: as the steps leave them.
pub record Promised (P : Plant) (list : ℕ → List ℕ) (q : Query) (listed : List ℕ) (position passed moves : ℕ) : Type 0 where
  pub lists : ListsExactly P.last list (criteria P q) listed position
  -- "0 is treated as 255 is": a device without a true level matches no query but one for any level code
  pub true_levels : any_code q.levels ≡ false → (d : ℕ) → true_level (entry P.level d) ≡ false → matches P.last list (criteria P q) d ≡ false
  pub short : Bool
  pub budget : KeepsBudget P.last P.root list (criteria P q) q.budget
      (record { listed = listed; position = position; counts = record { moves = moves; passed = passed }; short = short; cursors = (ended P list q q.budget).cursors })
  -- "Moves don't change": whatever level codes are wanted instead, position, passed and moves are the same
  pub unchanged : (l : Levels) → let e = ended P list (with_levels q l) q.budget in
      (position ≡ e.position) × (passed ≡ e.counts.passed) × (moves ≡ e.counts.moves)
  -- and what is listed is, of the listing for any code, the devices whose codes are wanted
  pub kept : listed ≡ passing (criteria P q).ok (ended P list (with_levels q Levels.Any) q.budget).listed

-- all is as it was with the first index alone
pub record AsBefore (P : Plant) (S : Indexes) (q : Query) (room : ℕ) : Type 0 where
  -- but for a term from 32,768 up, which has no index then: 15
  pub refused : search_refusal P S q room
      ≡ otherwise (one.tables_refusal P S.first) (pick (any_second S.first.terms) 15 (query_refusal (size P) room q))
  -- each term has its list of the one index. What matches, the steps, the lists named and all that is promised speak of the lists alone.
  pub lists : any_second S.first.terms ≡ false → list_of S ≡ one.list_of S.first

-- of two indexes
pub record OverBoth (P : Plant) (S : Indexes) (q : Query) (room : ℕ) : Type 0 where
  -- the lookup leaves no posting of either out: a term has the postings that it has in the first, and those that it has in the second
  pub both : search_refusal P S q room ≡ 0 → (t : ℕ) → list_of S t ≡ one.list_of S.first t ++ one.list_of S.second t
  -- where the second is empty, all is as before
  pub before : S.second ≡ index [] [] [] → AsBefore P S q room

-- r and the answer list, which was `out`
pub record Searched (P : Plant) (S : Indexes) (q : Query) (out out' : List ℕ) (r : Result Answer Refusal) : Type 0 where
  pub answers : told r ≡ answer P S q (length out)
  pub lists : out' ≡ answer_list P S q out
  pub promised : (told r).refusal ≡ 0 → Promised P (list_of S) q (take (told r).count out') (told r).position (told r).passed (told r).moves
  pub over_both : OverBoth P S q (length out)
