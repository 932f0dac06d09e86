-- The lookup of a term.
use Rattle.std.specs.Prelude.{ℕ, ◌≤◌, ◌≡◌, false, cond, List, [], eqb, length}
use Rattle.laws.specs.Limits.{highest_term}
use Rattle.laws.specs.Search.{any}
use Rattle.laws.specs.Tables.{entry}
use Rattle.index.specs.Postings.{misplaced}
use Rattle.index.specs.Index.{Index, count, list, list_of, misplaced_term}

-- number is that of an entry which is t, or 0; where the terms rise it is 0 only if no entry is t
pub record Numbered (terms : List ℕ) (t number : ℕ) : Type 0 where
  pub within : number ≤ length terms
  pub named : 1 ≤ number → entry terms number ≡ t
  pub none : any (length terms) (misplaced highest_term (λ t. t) terms) ≡ false → number ≡ 0 → any (length terms) (λ k. eqb (entry terms k) t) ≡ false

-- r is the list of t where the terms are sound and rise. For other terms r is free, but still is empty or the list of an entry which is t.
pub record Looked (I : Index) (t : ℕ) (r : List ℕ) : Type 0 where
  pub sound : any (count I) (misplaced_term I) ≡ false → r ≡ list_of I t
  pub number : ℕ
  pub numbered : Numbered I.terms t number
  pub part : r ≡ cond (eqb number 0) [] (list I number)
