-- What is promised of a repair.
use Rattle.std.specs.Prelude.{ℕ, ◌≡◌, Result, Ok, List, [], ◌∷◌, length}
use Rattle.refusal.specs.declared.Refusal.{Refusal}
use Rattle.refusal.specs.Numbers.{refused}
use Rattle.plant.specs.Plant.{Plant}
use Rattle.index.specs.Unshared.{unshared, member}
use Rattle.index.specs.Index.{Index, list_of, tables_refusal}
use Rattle.repair.specs.Repair.{repaired, all_dropped}
use Rattle.repair.specs.Refusals.{repair_refusal}
use Rattle.repair.specs.Outcome.{outcome_of, starts_after, postings_after, report_after, repaired_values, values_of}
use Rattle.repair.specs.declared.Repaired.{Repaired}

-- the third list is the first two together: each of its entries is the next of the one or of the other
pub data Interleaved : List ℕ → List ℕ → List ℕ → Type 0 where
  none : Interleaved [] [] []
  one : {xs ys zs : List ℕ} (q : ℕ) → Interleaved xs ys zs → Interleaved (q ∷ xs) ys (q ∷ zs)
  other : {xs ys zs : List ℕ} (q : ℕ) → Interleaved xs ys zs → Interleaved xs (q ∷ ys) (q ∷ zs)

-- of a repaired index
pub record Repairs (P : Plant) (I : Index) : Type 0 where
  -- "Every device carries exactly the marks it carried before": it stands in the unshared lists of the same terms (document 000's model)
  pub carried : (t d : ℕ) → member d (unshared P.last (list_of (repaired P I) t)) ≡ member d (unshared P.last (list_of I t))
  -- "The outcome passes the store's check"
  pub accepted : tables_refusal P (repaired P I) ≡ 0
  -- kept and dropped together are all postings, each in the order in which it stood
  pub together : Interleaved (repaired P I).postings (all_dropped P I) I.postings

-- "a clean store comes back unchanged with nothing reported"
pub record Unchanged (P : Plant) (I : Index) (lent : List ℕ) : Type 0 where
  pub outcome : outcome_of P I (length lent) ≡ Ok (record { dropped = 0; left = length I.postings })
  pub starts : starts_after P I (length lent) ≡ I.starts
  pub postings : postings_after P I (length lent) ≡ I.postings
  pub report : report_after P I lent ≡ lent

-- of any tables, with a report as it was lent
pub record Promised (P : Plant) (I : Index) (lent : List ℕ) : Type 0 where
  pub repairs : repair_refusal P I (length lent) ≡ 0 → Repairs P I
  pub clean : tables_refusal P I ≡ 0 → Unchanged P I lent

-- the outcome r, and every entry of what was lent: starts and postings, which were those of I, and the report
pub record RepairGives (P : Plant) (I : Index) (lent starts' postings' report' : List ℕ) (r : Result Repaired Refusal) : Type 0 where
  pub outcome : r ≡ outcome_of P I (length lent)
  pub number : refused r ≡ repair_refusal P I (length lent)
  pub values : repaired_values r ≡ values_of P I (length lent)
  pub starts : starts' ≡ starts_after P I (length lent)
  pub postings : postings' ≡ postings_after P I (length lent)
  pub report : report' ≡ report_after P I lent
  pub promised : Promised P I lent
