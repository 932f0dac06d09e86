-- What is promised of tightening.
use Rattle.std.specs.Prelude.{ℕ, ◌+◌, ◌≤◌, ◌≡◌, Result, List, length}
use Rattle.refusal.specs.declared.Refusal.{Refusal}
use Rattle.refusal.specs.Numbers.{refused}
use Rattle.plant.specs.Plant.{Plant, size}
use Rattle.index.specs.Index.{Index, list_of, tables_refusal}
use Rattle.steps.specs.Matching.{Criteria, matches}
use Rattle.steps.specs.Steps.{End, steps}
use Rattle.tighten.specs.Tightened.{carriers, tightened}
use Rattle.tighten.specs.Outcome.{outcome_of, starts_after, postings_after, tightened_length, length_of}

-- criteria whose positions are those of a plant, as every query's are that is not refused
pub record OnPlant (P : Plant) (a : Criteria) : Type 0 where
  pub from_first : 1 ≤ a.start
  pub ordered : a.start ≤ a.end
  pub to_last : a.end ≤ size P + 1

-- how document 01's cursor steps end along the lists of an index
abbrev pub ended : Plant → Index → Criteria → ℕ → End
ended P I a budget = steps P.last P.root (list_of I) a budget

-- of a tightened index
pub record Tightens (P : Plant) (I : Index) : Type 0 where
  -- the same devices carry each term
  pub carried : (t d : ℕ) → carriers P.last (list_of (tightened P I) t) d ≡ carriers P.last (list_of I t) d
  -- so what matches is the same, whatever is asked
  pub matching : (a : Criteria) (d : ℕ) → matches P.last (list_of (tightened P I)) a d ≡ matches P.last (list_of I) a d
  -- "Complete listings keep their devices": runs that end at the same position, as those that are complete do, list the same, whatever their budgets
  pub listings : (a : Criteria) → OnPlant P a → (new old : ℕ) → (ended P (tightened P I) a new).position ≡ (ended P I a old).position
      → (ended P (tightened P I) a new).listed ≡ (ended P I a old).listed
  -- "No list with the same carriers on this plant has fewer postings": be it sorted or not, repeated or redundant, of devices of the plant or not
  pub fewest : (t : ℕ) (l : List ℕ) → ((d : ℕ) → 1 ≤ d → d ≤ size P → carriers P.last l d ≡ carriers P.last (list_of I t) d)
      → length (list_of (tightened P I) t) ≤ length l
  -- so it stands in the room of the old one
  pub room : length (tightened P I).postings ≤ length I.postings
  -- "tightening again changes nothing"
  pub again : tightened P (tightened P I) ≡ tightened P I
  -- the outcome is not refused by 1 to 9
  pub accepted : tables_refusal P (tightened P I) ≡ 0

-- the outcome r, and every entry of starts and postings, which were those of I
pub record TightenGives (P : Plant) (I : Index) (starts' postings' : List ℕ) (r : Result ℕ Refusal) : Type 0 where
  pub outcome : r ≡ outcome_of P I
  pub number : refused r ≡ tables_refusal P I
  pub left : tightened_length r ≡ length_of P I
  pub starts : starts' ≡ starts_after P I
  pub postings : postings' ≡ postings_after P I
  pub promised : tables_refusal P I ≡ 0 → Tightens P I
