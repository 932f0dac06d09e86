-- What the compaction of lists has done. The contracts of private functions alone cite this.
use Rattle.std.specs.Prelude.{ℕ, ◌+◌, ◌*◌, ◌-◌, ◌%◌, ◌≡◌, Bool, cond, List, [], ◌++◌, eqb, length, get_or, take, drop, set}
use Rattle.std.proofs.Math.Seq.{slice}
use Rattle.laws.specs.Joined.{joined}
use Rattle.plant.specs.Plant.{plant}
use Rattle.index.specs.Index.{Index}
use Rattle.index.specs.Postings.{device}
use Rattle.repair.specs.Kept.{kept, dropped}
use Rattle.index.specs.inner.Laying.{ListsLaid}
use Rattle.repair.specs.Repair.{kept_in, dropped_in, reported, report_in}
use Rattle.repair.specs.declared.compact.Filled.{Filled}

-- what is dropped of the first k lists, and the report on them
abbrev pub dropped_of : List ℕ → Index → ℕ → List ℕ
dropped_of last I = joined (dropped_in (plant last [] []) I)

abbrev pub reports_of : List ℕ → Index → ℕ → List ℕ
reports_of last I = joined (report_in (plant last [] []) I)

-- of the posting kept last and the next one, where a posting before it reaches the next: which of them stays, and which goes. The next stays
-- where the last is private and of its device.
abbrev pub stays : ℕ → ℕ → ℕ
stays held q = cond (eqb held (device q * 2)) q held

abbrev pub goes : ℕ → ℕ → ℕ
goes held q = cond (eqb held (device q * 2)) held q

-- a report with a posting told of at an index
abbrev pub told : List ℕ → ℕ → ℕ → ℕ → List ℕ
told r at term q = set (set (set r at term) (at + 1) (device q)) (at + 2) (q % 2)

-- a posting more: a fresh one is put after those kept, and for another one goes to the report
pub record Put (p r : List ℕ) (f : Filled) (fresh : Bool) (term q : ℕ) (p' r' : List ℕ) (f' : Filled) : Type 0 where
  pub postings_are : p' ≡ cond fresh (set p f.postings q) (set p (f.postings - 1) (stays (get_or p (f.postings - 1) 0) q))
  pub report_is : r' ≡ cond fresh r (told r f.report term (goes (get_or p (f.postings - 1) 0) q))
  pub filled_is : f' ≡ cond fresh (record { postings = f.postings + 1; report = f.report }) (record { postings = f.postings; report = f.report + 3 })

-- of the list from base up to end, what is kept of the postings up to index i stands from `to` on, and what is dropped is reported from `at` on
pub record Compacting (last p₀ r₀ : List ℕ) (base end term to at i : ℕ) (p r : List ℕ) (f : Filled) : Type 0 where
  pub size : length p ≡ length p₀
  pub place_is : f.postings ≡ to + length (kept last (take (i - base) (slice base end p₀)))
  pub front : take f.postings p ≡ take to p₀ ++ kept last (take (i - base) (slice base end p₀))
  pub rest : drop i p ≡ drop i p₀
  pub report_size : length r ≡ length r₀
  pub line_is : f.report ≡ at + 3 * length (dropped last (take (i - base) (slice base end p₀)))
  pub report_front : take f.report r ≡ take at r₀ ++ reported term (dropped last (take (i - base) (slice base end p₀)))
  pub report_rest : drop f.report r ≡ drop f.report r₀

-- the first k lists are compacted: what is kept is at the front of the postings, and what is dropped at that of the report
pub record Compacted (last : List ℕ) (I : Index) (r₀ : List ℕ) (k : ℕ) (starts p r : List ℕ) (f : Filled) : Type 0 where
  pub lists : ListsLaid I (kept_in (plant last [] []) I) k starts p f.postings
  pub line_is : f.report ≡ length (reports_of last I k)
  pub report_size : length r ≡ length r₀
  pub report_front : take f.report r ≡ reports_of last I k
  pub report_rest : drop f.report r ≡ drop f.report r₀
