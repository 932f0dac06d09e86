-- What is promised of the cursor steps: demand 2, of what is listed, and demand 3, of moves and budget.
use Rattle.std.specs.Prelude.{ℕ, ◌+◌, ◌-◌, ◌≤◌, ◌<◌, ◌≡◌, true, ◌↔◌, List, ltb}
use Rattle.steps.specs.Matching.{Criteria, matches, matching}
use Rattle.steps.specs.Steps.{End, steps, total, named}

-- for criteria a, the listing is exactly the matching devices from the start up to the position, lowest first
pub record ListsExactly (last : List ℕ) (list : ℕ → List ℕ) (a : Criteria) (listed : List ℕ) (position : ℕ) : Type 0 where
  pub exact : listed ≡ matching (matches last list a) (position - a.start) a.start
  pub from_start : a.start ≤ position
  pub to_end : position ≤ a.end

-- a run for criteria a with a budget, which ends so, keeps its budget and stops for want of a move alone
pub record KeepsBudget (last root : List ℕ) (list : ℕ → List ℕ) (a : Criteria) (budget : ℕ) (e : End) : Type 0 where
  -- the moves never exceed the budget
  pub within : e.counts.moves ≤ budget
  -- "Moves and passed together never exceed the postings of the lists named": they are how far all cursors stand from their starts, and what is
  -- left of the lists makes up the rest
  pub few : e.counts.moves + e.counts.passed ≤ named list a
  pub sum : e.counts.moves + e.counts.passed + total e.cursors ≡ named list a
  -- it is short where its position is before the end. It has then made every move of the budget, and with one move more it would make that too.
  pub stopped : e.short ≡ ltb e.position a.end
  pub spent : e.short ≡ true → e.counts.moves ≡ budget
  pub next : e.short ≡ true → (steps last root list a (budget + 1)).counts.moves ≡ budget + 1
  -- it is short exactly where the budget is below the moves of the run with a budget that is never too small; else both runs are one
  pub short : (e.short ≡ true) ↔ (budget < (steps last root list a (named list a)).counts.moves)
  pub same : e.position ≡ a.end → e ≡ steps last root list a (named list a)
  -- with a budget no smaller than the postings of the lists named, repeats counted, the position is the end
  pub enough : named list a ≤ budget → e.position ≡ a.end
