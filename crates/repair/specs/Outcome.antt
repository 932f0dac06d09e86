-- What a repair answers, and what it leaves in the tables that it was lent.
use Rattle.std.specs.Prelude.{ℕ, zero, suc, Result, Ok, Err, List, [], ◌∷◌, length}
use Rattle.laws.specs.Lent.{kept_or, filled, over}
use Rattle.refusal.specs.declared.Refusal.{Refusal}
use Rattle.refusal.specs.Numbers.{given}
use Rattle.plant.specs.Plant.{Plant}
use Rattle.index.specs.Index.{Index}
use Rattle.repair.specs.Repair.{repaired, all_dropped, report_of}
use Rattle.repair.specs.Refusals.{repair_refusal}
use Rattle.repair.specs.declared.Repaired.{Repaired}

-- how many postings were dropped and "the new length", or the refusal, for a report of so many entries
abbrev pub outcome_of : Plant → Index → ℕ → Result Repaired Refusal
outcome_of P I room = given (repair_refusal P I room) (record { dropped = length (all_dropped P I); left = length (repaired P I).postings })

-- "A refusal leaves store and report untouched."
abbrev pub starts_after : Plant → Index → ℕ → List ℕ
starts_after P I room = kept_or (repair_refusal P I room) (repaired P I).starts I.starts

-- "Freed posting entries at the end become 0"
abbrev pub postings_after : Plant → Index → ℕ → List ℕ
postings_after P I room = kept_or (repair_refusal P I room) (filled (length I.postings) (repaired P I).postings) I.postings

-- "report entries past the dropped postings keep their contents"
abbrev pub report_after : Plant → Index → List ℕ → List ℕ
report_after P I report = kept_or (repair_refusal P I (length report)) (over (report_of P I) report) report

-- An outcome in document 02's numbers: its number is that of the refusal, or 0 (`refused`); its values are how many postings were dropped and how
-- many are left, both 0 where it is refused.
abbrev pub repaired_values : Result Repaired Refusal → List ℕ
repaired_values (Ok r) = r.dropped ∷ r.left ∷ []
repaired_values (Err e) = 0 ∷ 0 ∷ []

-- and the values, by the refusal
abbrev pub values_or : ℕ → ℕ → ℕ → List ℕ
values_or zero dropped left = dropped ∷ left ∷ []
values_or (suc n) dropped left = 0 ∷ 0 ∷ []

abbrev pub values_of : Plant → Index → ℕ → List ℕ
values_of P I room = values_or (repair_refusal P I room) (length (all_dropped P I)) (length (repaired P I).postings)
