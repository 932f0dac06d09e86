-- How the code's indexes into lists stand for the definitions' cursors. The contracts of private functions alone cite this.
use Rattle.std.specs.Prelude.{ℕ, suc, ◌+◌, ◌-◌, ◌*◌, ◌≤◌, ◌<◌, ◌≡◌, Bool, true, cond, List, [], ◌∷◌, ◌++◌, map, ltb, length, get_or, take, drop, replicate, Option, Some, None, MatchOption}
use Rattle.std.specs.Borrow.{Bor}
use Rattle.std.proofs.lemmas.List.Edits.{sets}
use Rattle.laws.specs.Limits.{most_devices}
use Rattle.laws.specs.Tables.{entry}
use Rattle.laws.specs.inner.Entries.{IsEntry}
use Rattle.index.specs.inner.Lists.{SoundList}
use Rattle.steps.specs.Moves as steps
use Rattle.steps.specs.Moves.{behind}
use Rattle.steps.specs.Steps as runs
use Rattle.steps.specs.Steps.{Side, required, forbidden, Outcome, accepts, again, stops}
use Rattle.steps.specs.Matching.{matching}
use Rattle.steps.proofs.Stretch.{Rests, Accept}
use Rattle.search.specs.declared.cursor.Counts.{Counts}
use Rattle.search.specs.declared.cursor.Rest.{Rest}
use Rattle.search.specs.declared.run.Round.{Round}
use Rattle.search.specs.declared.run.Round.TheVariants.{Accepts, Again}
use Rattle.search.specs.declared.Answer.{Answer}

-- "Up to 8 needed and 8 barred marks": one cursor for each
abbrev pub most_cursors : ℕ
most_cursors = 16

-- no more postings than these are passed over: of each list there are no more than devices
abbrev pub most_passed : ℕ
most_passed = most_cursors * most_devices

-- a cursor at an index of a sound list: it stands for what is left of the list
pub record Cursor (last l : List ℕ) (i : ℕ) : Type 0 where
  pub sound : SoundList last l
  pub within : i ≤ length l

-- device tables that cursors go by: a branch holds its device, and ends in the plant
pub record Tables (last root : List ℕ) : Type 0 where
  pub same : length root ≡ length last
  pub few : length last ≤ most_devices
  pub held : (d : ℕ) → IsEntry last d → d ≤ entry last d
  pub inside : (d : ℕ) → IsEntry last d → entry last d ≤ length last

-- the cursor at index f has been brought to position p, after the moves and passed postings of c: it is at index a, after those of c'. It rests
-- there, or is still behind and has no move left.
pub record Brings (last root l : List ℕ) (p budget f a : ℕ) (c c' : Counts) (r : Option Rest) : Type 0 where
  pub within : a ≤ length l
  pub more : c.moves ≤ c'.moves
  pub few : c'.moves ≤ budget
  pub further : c.passed ≤ c'.passed
  pub bounded : c'.passed ≤ c.passed + length l
  pub same : steps.bring last root p (budget - c.moves) (drop f l)
      ≡ record { cursor = drop a l; counts = record { moves = c'.moves - c.moves; passed = c'.passed - c.passed } }
  pub rests : MatchOption r (behind last p (drop a l) ≡ true) (λ x. (x.to ≤ length last) × Rests last (length last + 1) (drop a l) p x.carries x.to)

-- the cursors from number i on, of which the first k are of required terms: what is left of each list
abbrev pub side_of : ℕ → ℕ → Side
side_of k i = cond (ltb i k) required forbidden

unfoldable pub cursors : ℕ → List ℕ → ℕ → List (List ℕ) → List runs.Cursor
cursors k at i [] = []
cursors k at i (l ∷ ls) = record { side = side_of k i; left = drop (get_or at i 0) l } ∷ cursors k at (suc i) ls

pub record Valid (last : List ℕ) (ls : List (List ℕ)) (at : List ℕ) : Type 0 where
  pub long : length at ≡ most_cursors
  pub few : length ls ≤ most_cursors
  pub each : (k : ℕ) → k < length ls → Cursor last (get_or ls k []) (get_or at k 0)

-- what the code's round says
abbrev pub said : Option Round → Outcome
said None = stops
said (Some (Accepts to)) = accepts
said (Some (Again next)) = again next

-- where all cursors accept position p, they do at each position up to the round's last; else the round sets a later one
abbrev pub Goes : List ℕ → List runs.Cursor → ℕ → Option Round → Type 0
Goes last cs p None = Unit {0}
Goes last cs p (Some (Accepts to)) = (p ≤ to) × (to ≤ length last) × ((q : ℕ) → p ≤ q → q ≤ to → Accept last (length last + 1) q cs)
Goes last cs p (Some (Again next)) = (p < next) × (next ≤ length last + 1)

-- a round has been made at position p, after the moves and passed postings of c: the cursors go from `at` to `at'`, the counts to c'
pub record Turns (last root : List ℕ) (ls : List (List ℕ)) (k p budget : ℕ) (at at' : List ℕ) (c c' : Counts) (r : Option Round) : Type 0 where
  pub valid : Valid last ls at'
  pub more : c.moves ≤ c'.moves
  pub few : c'.moves ≤ budget
  pub further : c.passed ≤ c'.passed
  pub same : runs.round last root (length last + 1) p (budget - c.moves) (cursors k at 0 ls)
      ≡ record { cursors = cursors k at' 0 ls; counts = record { moves = c'.moves - c.moves; passed = c'.passed - c.passed }; outcome = said r }
  pub goes : Goes last (cursors k at' 0 ls) p r

-- lists that cursors go along
pub record Lists (last : List ℕ) (ls : List (List ℕ)) : Type 0 where
  pub few : length ls ≤ most_cursors
  pub each : (k : ℕ) → k < length ls → SoundList last (get_or ls k [])

-- the first of some slices have been set to the lists that a lookup gives of the terms named
pub record Gathers (list : ℕ → List ℕ) (named : List ℕ) (slices : List (Bor (List ℕ))) : Type 0 where
  pub long : length slices ≡ most_cursors
  pub same : take (length named) (map (λ x. x.now) slices) ≡ map list named

-- where a run begins: each cursor on the first posting of its list
abbrev pub begin : ℕ → List (List ℕ) → List runs.Cursor
begin k ls = cursors k (replicate most_cursors 0) 0 ls

-- the devices from p to `to` that pass a test have been written, after the first `count` entries
pub record Writes (ok : ℕ → Bool) (p to : ℕ) (out out' : List ℕ) (count count' : ℕ) : Type 0 where
  pub written : out' ≡ sets out count (matching ok (to + 1 - p) p)
  pub long : count' ≡ count + length (matching ok (to + 1 - p) p)

-- a run's end, as the code gives it: the listing stands at the front of what was lent, and the rest of that is kept
pub record RunGives (e : runs.End) (out out' : List ℕ) (r : Answer) : Type 0 where
  pub written : out' ≡ e.listed ++ drop (length e.listed) out
  pub count : r.count ≡ length e.listed
  pub position : r.position ≡ e.position
  pub passed : r.passed ≡ e.counts.passed
  pub moves : r.moves ≡ e.counts.moves
