-- What tightening answers, and what it leaves in the tables that it was lent.
use Rattle.std.specs.Prelude.{ℕ, Result, Ok, Err, List, length}
use Rattle.laws.specs.Lent.{kept_or, value_or, filled}
use Rattle.refusal.specs.declared.Refusal.{Refusal}
use Rattle.refusal.specs.Numbers.{given}
use Rattle.plant.specs.Plant.{Plant}
use Rattle.index.specs.Index.{Index, tables_refusal}
use Rattle.tighten.specs.Tightened.{tightened}

-- "the new length", or the refusal where "1 to 9 apply"
abbrev pub outcome_of : Plant → Index → Result ℕ Refusal
outcome_of P I = given (tables_refusal P I) (length (tightened P I).postings)

-- "A refused store isn't touched"
abbrev pub starts_after : Plant → Index → List ℕ
starts_after P I = kept_or (tables_refusal P I) (tightened P I).starts I.starts

-- "freed end entries set to 0"
abbrev pub postings_after : Plant → Index → List ℕ
postings_after P I = kept_or (tables_refusal P I) (filled (length I.postings) (tightened P I).postings) I.postings

-- An outcome in document 02's numbers: its number is that of the refusal, or 0 (`refused`); its value is how many postings are left, 0 where it
-- is refused.
abbrev pub tightened_length : Result ℕ Refusal → ℕ
tightened_length (Ok left) = left
tightened_length (Err e) = 0

-- and the value, by the refusal
abbrev pub length_of : Plant → Index → ℕ
length_of P I = value_or (tables_refusal P I) (length (tightened P I).postings)
