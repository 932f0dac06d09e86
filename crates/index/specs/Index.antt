-- The index (document 01's store): terms (its marks), where the list of each starts, and the postings; its refusals; the list of a term.
use Rattle.std.specs.Prelude.{ℕ, ◌+◌, ◌-◌, Bool, cond, ◌&&◌, ◌||◌, not, List, [], ltb, eqb, length, get_or}
use Rattle.std.proofs.Math.Seq.{slice}
use Rattle.laws.specs.Limits.{highest_term}
use Rattle.laws.specs.Rows.{pick, otherwise}
use Rattle.laws.specs.Search.{any, lowest}
use Rattle.laws.specs.Tables.{entry}
use Rattle.plant.specs.Plant.{Plant, plant_refusal}
use Rattle.index.specs.Postings.{device, misplaced, redundant}

-- "the mark numbers (1 to 65,535, strictly rising, at most 8,192)"
abbrev pub most_terms : ℕ
most_terms = 8_192

-- "the postings (at most 1,048,576)"
abbrev pub most_postings : ℕ
most_postings = 1_048_576

pub record Index : Type 0 where
  pub terms : List ℕ
  pub starts : List ℕ
  pub postings : List ℕ

abbrev pub index : List ℕ → List ℕ → List ℕ → Index
index terms starts postings = record { terms = terms; starts = starts; postings = postings }

-- the number of terms
abbrev pub count : Index → ℕ
count I = length I.terms

-- the list of the k-th term: "A list ends where the next starts, or at the end of the store"
abbrev pub list : Index → ℕ → List ℕ
list I k = slice (entry I.starts k) (get_or I.starts k (length I.postings)) I.postings

-- whether the k-th term is t
abbrev pub is_term : Index → ℕ → ℕ → Bool
is_term I t k = eqb (entry I.terms k) t

-- the list of term t: "A mark absent from the store has an empty list."
abbrev pub list_of : Index → ℕ → List ℕ
list_of I t = cond (any (count I) (is_term I t)) (list I (lowest (count I) (is_term I t))) []

-- 5: "marks and starts differ in length, or a limit passed"
abbrev pub unfit : Index → Bool
unfit I = not (eqb (length I.starts) (count I)) || ltb most_terms (count I) || ltb most_postings (length I.postings)

-- 6: "a mark out of range or not rising"
abbrev pub misplaced_term : Index → ℕ → Bool
misplaced_term I = misplaced highest_term (λ t. t) I.terms

-- 7: "first start not 0, a start that falls or passes the postings, or postings without marks"
abbrev pub wrong_start : Index → ℕ → Bool
wrong_start I k =
    (eqb k 1 && not (eqb (entry I.starts k) 0))
    || (ltb 1 k && ltb (entry I.starts k) (entry I.starts (k - 1)))
    || ltb (length I.postings) (entry I.starts k)

abbrev pub stray : Index → Bool
stray I = eqb (count I) 0 && ltb 0 (length I.postings)

-- 8: "a posting's device 0, above N, or not rising in its list": of n devices, in the k-th list
abbrev pub misplaced_in : ℕ → Index → ℕ → Bool
misplaced_in n I k = any (length (list I k)) (misplaced n device (list I k))

-- 9: "a redundant posting"
abbrev pub redundant_in : List ℕ → Index → ℕ → Bool
redundant_in last I k = any (length (list I k)) (redundant last (list I k))

-- document 01's rows for the store that say where its lists lie, numbered from `first` on, and then the rest
abbrev pub outline_rows : ℕ → Index → ℕ → ℕ
outline_rows first I rest =
    pick (unfit I) first
    (pick (any (count I) (misplaced_term I)) (first + 1)
    (pick (any (count I) (wrong_start I) || stray I) (first + 2)
    rest))

-- document 01's rows for the store, numbered from `first` on: the first that applies, or 0. They read no more of a plant than `last`.
unfoldable pub index_rows : ℕ → List ℕ → Index → ℕ
index_rows first last I =
    outline_rows first I
    (pick (any (count I) (misplaced_in (length last) I)) (first + 3)
    (pick (any (count I) (redundant_in last I)) (first + 4)
    0))

-- the rows for device tables, and then those for the store, 5 to 9: the lowest number that applies, or 0
unfoldable pub tables_refusal : Plant → Index → ℕ
tables_refusal P I = otherwise (plant_refusal P) (index_rows 5 P.last I)
