-- The index that a repair makes, and its report.
use Rattle.std.specs.Prelude.{ℕ, ◌%◌, List, [], ◌∷◌}
use Rattle.laws.specs.Joined.{joined}
use Rattle.laws.specs.Tables.{entry}
use Rattle.plant.specs.Plant.{Plant}
use Rattle.index.specs.Postings.{device}
use Rattle.index.specs.Index.{Index, count, list}
use Rattle.index.specs.Laid.{laid}
use Rattle.repair.specs.Kept.{kept, dropped}

-- what is kept of the k-th list, and what is dropped of it
abbrev pub kept_in : Plant → Index → ℕ → List ℕ
kept_in P I k = kept P.last (list I k)

abbrev pub dropped_in : Plant → Index → ℕ → List ℕ
dropped_in P I k = dropped P.last (list I k)

-- the repaired index: the same terms, and of each list what is kept
abbrev pub repaired : Plant → Index → Index
repaired P I = laid I.terms (kept_in P I)

-- all that is dropped, "in store order"
abbrev pub all_dropped : Plant → Index → List ℕ
all_dropped P I = joined (dropped_in P I) (count I)

-- "reports each dropped posting as mark, device and 0 for own or 1 for branch": those of a list of term t
unfoldable pub reported : ℕ → List ℕ → List ℕ
reported t [] = []
reported t (q ∷ qs) = t ∷ device q ∷ q % 2 ∷ reported t qs

-- the report on the k-th list, and the whole report
abbrev pub report_in : Plant → Index → ℕ → List ℕ
report_in P I k = reported (entry I.terms k) (dropped_in P I k)

abbrev pub report_of : Plant → Index → List ℕ
report_of P I = joined (report_in P I) (count I)
